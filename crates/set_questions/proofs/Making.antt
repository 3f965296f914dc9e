-- The claims of a set's query are those of its statements and of what the set asks.
use Rattle.std.proofs.Common.{◌≡◌, ◌+◌, ◌<◌, ℕ, suc, List, [], ◌∷◌, ◌++◌, length, map, slice_get, arith, All, Bool, true, false, Some, refl, ap, sym, ◌∙◌, subst}
use Rattle.std.specs.Prelude.{not as opposite}
use Rattle.std.specs.List.{AllZip}
use Rattle.std.proofs.lemmas.List.{length-map, map-append}
use Rattle.std.proofs.lemmas.List.Elements.{All-nil}
use Rattle.std.proofs.lemmas.Option.{slice_get_within}
use Rattle.formula_tree.specs.Trees.{Tree, Trees, all, children_of, of_list, trees_of}
use Rattle.formula_tree.specs.Trees as tree
use Rattle.formula_tree.specs.Values.{AreBelow}
use Rattle.formula_tree.specs.declared.formula.Branches.{Branches}
use Rattle.formula_nodes.specs.Claims.{AddsTestsOf, Grows}
use Rattle.formula_nodes.specs.declared.claim.Claim.{Claim}
use Rattle.policy_model.specs.declared.schema.Schema.{Schema}
use Rattle.policy_model.specs.declared.set.Document.{Document}
use Rattle.policy_model.specs.declared.set.PolicySet.{PolicySet}
use Rattle.policy_model.specs.declared.set.StatementName.{StatementName}
use Rattle.policy_model.specs.declared.test.Test.{Test}
use Rattle.policy_model.specs.StatementNames.{named_documents, named_grants, named_set}
use Rattle.policy_compile.specs.declared.outcome.Query.{Query}
use Rattle.policy_compile.specs.Numbering.{AreNumbered, IsNumbered, numbered_all, numbered_more, numbered_none, numbered_not, numbered_one_of}
use Rattle.policy_compile.specs.Plans.{Plan, Plans, not, of_plans, one_of}
use Rattle.policy_compile.specs.Plans as plan
use Rattle.policy_compile.specs.Queries.{IsQuery, asked_tree}
use Rattle.policy_compile.specs.Sets.{grants_plan, guard_plans, no_deny_plan, set_plan, set_plans, some_or_none, statement_plans}
use Rattle.policy_compile.proofs.Laws.{below-numbered}
use Rattle.test_relations.specs.Relations.{SchemaTests}
use Rattle.set_questions.specs.Changes.{AreChanges, AreClaimsOfSet}
use Rattle.set_questions.specs.Numbering.{AreInnerClaims, AreTreeClaims, inner_trees, some_trees, tree_list}
use Rattle.set_questions.specs.Requirements.{ArePlanClaims, IsPlanClaim, Requirement, guard_requirements, of_effect, plans_of, required_names, requirement_plan, set_requirements}
use Rattle.set_questions.proofs.Differing.{denies-flat}
use Rattle.set_questions.proofs.Effects.{plans-flat, plans-of-effect}
use Rattle.set_questions.proofs.Numbered.{list-again, trees-later}
use Rattle.set_questions.proofs.Taking.{unnamed-documents}

-- ---- the plans of what is asked

documents-plan : (schema : Schema) (d : ℕ) (ds : List Document) → grants_plan schema ds ≡ one_of (of_plans (plans_of schema (of_effect (Some true) (named_documents d ds))))
documents-plan schema d ds =
    ap (λ ps. one_of (of_plans ps)) (plans-flat schema true ds ∙ ap (λ ss. statement_plans schema true ss) (sym (unnamed-documents d ds)) ∙ sym (plans-of-effect schema true (named_documents d ds)))

guards-plans : (schema : Schema) (d : ℕ) (gs : List (List Document)) → guard_plans schema gs ≡ map (requirement_plan schema) (guard_requirements d gs)
guards-plans schema d [] = refl
guards-plans schema d (g ∷ gs) =
    ap (λ p. p ∷ guard_plans schema gs) (documents-plan schema d g)
    ∙ ap (λ ps. one_of (of_plans (plans_of schema (of_effect (Some true) (named_documents d g)))) ∷ ps) (guards-plans schema (d + length g) gs)

denies-plan : (schema : Schema) (set : PolicySet) → no_deny_plan schema set ≡ not (one_of (of_plans (plans_of schema (of_effect (Some false) (named_set set)))))
denies-plan schema set = ap (λ ps. not (one_of (of_plans ps))) (denies-flat schema set ∙ sym (plans-of-effect schema false (named_set set)))

plans-required : (schema : Schema) (set : PolicySet) → set_plans schema set ≡ map (requirement_plan schema) (set_requirements set)
plans-required schema set =
    let deny : Requirement = record { allow = false; named = of_effect (Some false) (named_set set) } in
    let guards = guard_requirements (1 + length set.grants) set.guards in
    let first = one_of (of_plans (plans_of schema (of_effect (Some true) (named_grants set)))) in
    ap (λ p. p ∷ guard_plans schema set.guards ++ no_deny_plan schema set ∷ []) (documents-plan schema 1 set.grants)
    ∙ ap (λ ps. first ∷ ps ++ no_deny_plan schema set ∷ []) (guards-plans schema (1 + length set.grants) set.guards)
    ∙ ap (λ p. first ∷ map (requirement_plan schema) guards ++ p ∷ []) (denies-plan schema set)
    ∙ ap (λ ps. first ∷ ps) (sym (map-append (requirement_plan schema) guards (deny ∷ [])))

-- ---- claims of numbered trees

module _ (tests : List Test) (trees : List Tree) where
  plan-claims : (ps : List Plan) (ts : Trees) (cs : List Claim) → AreNumbered tests (of_plans ps) ts → AreTreeClaims trees (tree_list ts) cs → ArePlanClaims tests trees ps cs
  plan-claims [] tree.none [] numbered_none are = tt
  plan-claims [] tree.none (c ∷ cs) numbered_none are = absurd are
  plan-claims (p ∷ ps) (tree.more t ts) [] (numbered_more first rest) are = absurd are
  plan-claims (p ∷ ps) (tree.more t ts) (c ∷ cs) (numbered_more first rest) are = ((t, first, are.0), plan-claims ps ts cs rest are.1)
  plan-claims [] (tree.more t ts) cs h are = elim h [ ]
  plan-claims (p ∷ ps) tree.none cs h are = elim h [ ]

  some-plan-claims : (ps : List Plan) (t : Tree) (cs : List Claim) → IsNumbered tests (one_of (of_plans ps)) t → AreTreeClaims trees (some_trees t) cs → ArePlanClaims tests trees ps cs
  some-plan-claims ps (tree.one_of ts) cs (numbered_one_of h) are = plan-claims ps ts cs h are
  some-plan-claims ps tree.yes cs h are = elim h [ ]
  some-plan-claims ps tree.no cs h are = elim h [ ]
  some-plan-claims ps (tree.test n) cs h are = elim h [ ]
  some-plan-claims ps (tree.not t) cs h are = elim h [ ]
  some-plan-claims ps (all ts) cs h are = elim h [ ]

  inner-plan-claims : (b : Bool) (ps : List Plan) (t : Tree) (cs : List Claim) → IsNumbered tests (some_or_none b ps) t → AreTreeClaims trees (inner_trees t) cs → ArePlanClaims tests trees ps cs
  inner-plan-claims true ps (tree.not t) cs (numbered_not h) are = some-plan-claims ps t cs h are
  inner-plan-claims true ps tree.yes cs h are = elim h [ ]
  inner-plan-claims true ps tree.no cs h are = elim h [ ]
  inner-plan-claims true ps (tree.test n) cs h are = elim h [ ]
  inner-plan-claims true ps (all ts) cs h are = elim h [ ]
  inner-plan-claims true ps (tree.one_of ts) cs h are = elim h [ ]
  inner-plan-claims false ps (tree.one_of ts) cs (numbered_one_of h) are = plan-claims ps ts cs h are
  inner-plan-claims false ps tree.yes cs h are = elim h [ ]
  inner-plan-claims false ps tree.no cs h are = elim h [ ]
  inner-plan-claims false ps (tree.test n) cs h are = elim h [ ]
  inner-plan-claims false ps (tree.not t) cs h are = elim h [ ]
  inner-plan-claims false ps (all ts) cs h are = elim h [ ]

  required-claims : (schema : Schema) (qs : List Requirement) (ts : Trees) (css : List (List Claim)) → AreNumbered tests (of_plans (map (requirement_plan schema) qs)) ts → AreInnerClaims trees (tree_list ts) css →
      AllZip (λ q cs. ArePlanClaims tests trees (plans_of schema q.named) cs) qs css
  required-claims schema [] tree.none [] numbered_none are = tt
  required-claims schema [] tree.none (cs ∷ css) numbered_none are = absurd are
  required-claims schema (q ∷ qs) (tree.more t ts) [] (numbered_more first rest) are = absurd are
  required-claims schema (q ∷ qs) (tree.more t ts) (cs ∷ css) (numbered_more first rest) are =
      (inner-plan-claims (opposite q.allow) (plans_of schema q.named) t cs first are.0, required-claims schema qs ts css rest are.1)
  required-claims schema [] (tree.more t ts) css h are = elim h [ ]
  required-claims schema (q ∷ qs) tree.none css h are = elim h [ ]

-- ---- the query's formula

all-inside : (tests : List Test) (ps : Plans) (ts : Trees) → IsNumbered tests (plan.all ps) (tree.all ts) → AreNumbered tests ps ts
all-inside tests ps ts (numbered_all h) = h

pub changes-made : (schema : Schema) (set : PolicySet) (query : Query) (of : SchemaTests) (asked : Branches) (before mid new : List Tree) (names : List (List StatementName)) (claims : List (List Claim)) (wholes : List Claim) →
    IsQuery (set_plan schema set) query → asked_tree query ≡ all (children_of asked) → of.schema ≡ schema → of.tests ≡ query.tests → names ≡ required_names set → before ≡ [] → AddsTestsOf (all (children_of asked)) before mid → AddsTestsOf (all (children_of asked)) mid new →
    Grows mid new → AreTreeClaims mid (trees_of asked) wholes → AreInnerClaims new (trees_of asked) claims → AreChanges schema set query of new names claims wholes
changes-made schema set query of asked before mid new names claims wholes is tree_is schema_is tests_are named empty adds adds_more grows whole_claims inner_claims =
    let tests = query.tests in
    let numbered : AreNumbered tests (of_plans (set_plans schema set)) (children_of asked) =
    all-inside tests (of_plans (set_plans schema set)) (children_of asked) (subst (λ (t : Tree). IsNumbered tests (set_plan schema set) t) tree_is is.tree) in
    let below : AreBelow (length tests) (all (children_of asked)) = subst (AreBelow (length tests)) tree_is (below-numbered tests (set_plan schema set) (asked_tree query) is.tree) in
    let again = sym (list-again (trees_of asked)) in
    record {
      asked = is;
      schema_is = schema_is;
      tests_are = tests_are;
      named = named;
      claimed = record {
        below = adds_more (length tests) (adds (length tests) (subst (All (AreBelow (length tests))) (sym empty) (All-nil (AreBelow (length tests)))) below) below;
        of_statements = required-claims tests new schema (set_requirements set) (children_of asked) claims
            (subst (λ (ps : List Plan). AreNumbered tests (of_plans ps) (children_of asked)) (plans-required schema set) numbered)
            (subst (λ (ts : List Tree). AreInnerClaims new ts claims) again inner_claims);
        of_wholes = plan-claims tests new (set_plans schema set) (children_of asked) wholes numbered
            (subst (λ (ts : List Tree). AreTreeClaims new ts wholes) again (trees-later mid new grows (trees_of asked) wholes whole_claims));
      };
    }

-- ---- as many of each

zip-length : {S T : Type 0} (R : S → T → Type 0) (xs : List S) (ys : List T) → AllZip R xs ys → length xs ≡ length ys
zip-length R [] [] both = refl
zip-length R [] (y ∷ ys) both = absurd both
zip-length R (x ∷ xs) [] both = absurd both
zip-length R (x ∷ xs) (y ∷ ys) both = ap (λ n. suc n) (zip-length R xs ys both.1)

pub asked-within : (schema : Schema) (set : PolicySet) (tests : List Test) (trees : List Tree) (claims : List (List Claim)) (wholes : List Claim) → AreClaimsOfSet schema set tests trees claims wholes →
    (place : ℕ) (own : List Claim) → slice_get claims place ≡ Some own → place < length wholes
asked-within schema set tests trees claims wholes are place own at =
    let within = slice_get_within claims place own at in
    let first : length (set_requirements set) ≡ length claims = zip-length (λ (q : Requirement) (cs : List Claim). ArePlanClaims tests trees (plans_of schema q.named) cs) (set_requirements set) claims are.of_statements in
    let second : length (set_plans schema set) ≡ length wholes = zip-length (IsPlanClaim tests trees) (set_plans schema set) wholes are.of_wholes in
    let third : length (set_plans schema set) ≡ length (set_requirements set) = ap (λ (ps : List Plan). length ps) (plans-required schema set) ∙ length-map (set_requirements set) (requirement_plan schema) in
    omega (arith, within, first, second, third)
