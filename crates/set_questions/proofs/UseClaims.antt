-- What the claims of a change say.
use Rattle.std.proofs.Common.{◌≡◌, ◌⊎◌, ◌↔◌, ◌+◌, ◌<◌, ℕ, suc, zero, List, [], ◌∷◌, ◌++◌, length, map, get_or, slice_get, All, Bool, true, false, IsTrue, Option, Some, inl, inr, refl, ap, sym, ◌∙◌, subst, arith}
use Rattle.std.specs.Prelude.{not as opposite}
use Rattle.std.specs.List.{AllZip}
use Rattle.std.proofs.lemmas.Bool.{cases_Bool}
use Rattle.std.proofs.lemmas.List.{map-append}
use Rattle.std.proofs.lemmas.List.Elements.{All-cons, All-head, All-nil, All-tail}
use Rattle.std.proofs.lemmas.Option.{get_or_from_slice_get, same_Some, slice_get_within}
use Rattle.formula_tree.specs.Trees.{Tree}
use Rattle.formula_tree.specs.Values.{holds}
use Rattle.formula_nodes.specs.Claims.{AddsNoTest, AreClaimsOf, EachClaimHolds, Grows, IsClaimOf, IsClaimOfEach, IsTreeFor, as_claimed, claim_holds, numbered_tree, turned_claim}
use Rattle.formula_nodes.specs.declared.claim.Claim.{Claim}
use Rattle.formula_nodes.proofs.Laws.{grows-then, had-values, keep-values, keeps-value, stays-for}
use Rattle.policy_model.specs.declared.request.Request.{Request}
use Rattle.policy_model.specs.declared.schema.Schema.{Schema}
use Rattle.policy_model.specs.declared.set.Document.{Document}
use Rattle.policy_model.specs.declared.set.PolicySet.{PolicySet}
use Rattle.policy_model.specs.declared.set.Statement.{Statement}
use Rattle.policy_model.specs.declared.set.StatementName.{StatementName}
use Rattle.policy_model.specs.declared.test.Test.{Test}
use Rattle.policy_model.specs.Requests.{IsValid}
use Rattle.policy_model.specs.Sets.{Allows}
use Rattle.policy_model.specs.Soundness.{SchemaFits}
use Rattle.policy_model.specs.StatementNames.{Named, named_documents, named_grants, named_set}
use Rattle.policy_compile.specs.declared.outcome.Query.{Query}
use Rattle.policy_compile.specs.Meaning.{AnswersAs}
use Rattle.policy_compile.specs.Plans.{EachHolds, Plan, PlanHolds, SomeHolds, of_plans}
use Rattle.policy_compile.specs.Sets.{set_plans, some_or_none, statement_plan}
use Rattle.policy_compile.proofs.Laws.{holds-numbered, set-holds}
use Rattle.test_relations.specs.Relations.{SchemaTests}
use Rattle.query_reduction.specs.Reducers.{ClaimsAgree}
use Rattle.set_questions.specs.Changes.{AreChanges, AreClaimsOfSet, IsJointClaim, IsUseTree, IsListedAt, TellsUse, other_claims}
use Rattle.set_questions.specs.Idle.{Differ}
use Rattle.set_questions.specs.Removal.{without_item, without_statement}
use Rattle.set_questions.specs.Requirements.{ArePlanClaims, IsPlanClaim, Requirement, guard_names, guard_requirements, names_with, of_effect, plans_of, required_names, set_requirements}
use Rattle.set_questions.proofs.Changing.{stays-fit}
use Rattle.set_questions.proofs.Differing.{DifferAt, parts-differ}
use Rattle.set_questions.proofs.Effects.{names-of-effect}
use Rattle.set_questions.proofs.Zipped.{zip-at, zip-moved, zip-without}

-- ---- lists

without-between : {T : Type 0} (xs : List T) (x : T) (ys : List T) → without_item (suc (length xs)) (xs ++ x ∷ ys) ≡ xs ++ ys
without-between [] x ys = refl
without-between (z ∷ xs) x ys = ap (λ zs. z ∷ zs) (without-between xs x ys)

got-between : {T : Type 0} (xs : List T) (x : T) (ys : List T) → slice_get (xs ++ x ∷ ys) (length xs) ≡ Some x
got-between [] x ys = refl
got-between (z ∷ xs) x ys = got-between xs x ys

got-map : {S T : Type 0} (f : S → T) (xs : List S) (i : ℕ) (y : T) → slice_get (map f xs) i ≡ Some y → (x : S) × (slice_get xs i ≡ Some x) × (f x ≡ y)
got-map f [] i y at = absurd (cc)
got-map f (x ∷ xs) zero y at = (x, refl, same_Some (f x) y at)
got-map f (x ∷ xs) (suc i) y at = got-map f xs i y at

pub all-joined : (P : Claim → Type 0) (xs ys : List Claim) → (All P (xs ++ ys) ↔ (All P xs × All P ys))
all-joined P [] ys = (λ all. (All-nil P, all), λ both. both.1)
all-joined P (x ∷ xs) ys = (
  λ all. (let rest = (all-joined P xs ys).0 (All-tail P x (xs ++ ys) all) in (All-cons P x xs (All-head P x (xs ++ ys) all) rest.0, rest.1)),
  λ both. All-cons P x (xs ++ ys) (All-head P x xs both.0) ((all-joined P xs ys).1 (All-tail P x xs both.0, both.1)),
)

-- ---- plans

module _ (r : Request) where
  each-between : (xs : List Plan) (p : Plan) (ys : List Plan) → (EachHolds r (of_plans (xs ++ p ∷ ys)) ↔ (PlanHolds r p × EachHolds r (of_plans (xs ++ ys))))
  each-between [] p ys = (λ h. h, λ h. h)
  each-between (x ∷ xs) p ys = (
    λ h. (let rest = (each-between xs p ys).0 h.1 in (rest.0, (h.0, rest.1))),
    λ h. (h.1.0, (each-between xs p ys).1 (h.0, h.1.1)),
  )

  some-between : (xs : List Plan) (p : Plan) (ys : List Plan) → (SomeHolds r (of_plans (xs ++ p ∷ ys)) ↔ (PlanHolds r p ⊎ SomeHolds r (of_plans (xs ++ ys))))
  some-between [] p ys = (λ h. h, λ h. h)
  some-between (x ∷ xs) p ys = (
    λ h. elim h [
      | inl here ↦ inr (inl here)
      | inr later ↦ elim ((some-between xs p ys).0 later) [ inl own ↦ inl own | inr rest ↦ inr (inr rest) ]
    ],
    λ h. elim h [
      | inl own ↦ inr ((some-between xs p ys).1 (inl own))
      | inr rest ↦ elim rest [ inl here ↦ inl here | inr later ↦ inr ((some-between xs p ys).1 (inr later)) ]
    ],
  )

-- ---- claims of plans

pub turned-false : (answers : ℕ → Bool) (trees : List Tree) (c : Claim) → claim_holds answers trees (turned_claim false c) ≡ opposite (claim_holds answers trees c)
turned-false answers trees c = claimed c.holds (holds answers (numbered_tree trees c.node))
  where
    claimed : (b v : Bool) → as_claimed (opposite b) v ≡ opposite (as_claimed b v)
    claimed true true = refl
    claimed true false = refl
    claimed false true = refl
    claimed false false = refl

module _ (tests : List Test) (trees : List Tree) (r : Request) (answers : ℕ → Bool) (say : AnswersAs answers r tests) where
  claim-says : (p : Plan) (c : Claim) → IsPlanClaim tests trees p c → (IsTrue (claim_holds answers trees c) ↔ PlanHolds r p)
  claim-says p c is =
      let plan = holds-numbered answers r tests say p is.0 is.1 in
      let value : claim_holds answers trees c ≡ holds answers is.0 = is.2.1 answers in
      (λ h. plan.0 (sym value ∙ h), λ h. value ∙ plan.1 h)

  -- whether some plan holds is known
  some-known : (ps : List Plan) (cs : List Claim) → ArePlanClaims tests trees ps cs → SomeHolds r (of_plans ps) ⊎ (SomeHolds r (of_plans ps) → ⊥)
  some-known [] [] are = inr (λ h. h)
  some-known [] (c ∷ cs) are = absurd are
  some-known (p ∷ ps) [] are = absurd are
  some-known (p ∷ ps) (c ∷ cs) are = elim (cases_Bool (claim_holds answers trees c)) [
    | inl e ↦ inl (inl ((claim-says p c are.0).0 e))
    | inr e ↦ elim (some-known ps cs are.1) [
      | inl some ↦ inl (inr some)
      | inr none ↦ inr (λ h. elim h [ inl own ↦ (let e' = (claim-says p c are.0).1 own in absurd (cc)) | inr later ↦ none later ])
    ]
  ]

  none-hold : (ps : List Plan) (cs : List Claim) → ArePlanClaims tests trees ps cs → (EachClaimHolds answers trees (map (turned_claim false) cs) ↔ (SomeHolds r (of_plans ps) → ⊥))
  none-hold [] [] are = (λ all h. h, λ none. All-nil (λ (c : Claim). IsTrue (claim_holds answers trees c)))
  none-hold [] (c ∷ cs) are = absurd are
  none-hold (p ∷ ps) [] are = absurd are
  none-hold (p ∷ ps) (c ∷ cs) are =
      let P = λ (x : Claim). IsTrue (claim_holds answers trees x) in
      let own = claim-says p c are.0 in
      let turned = turned-false answers trees c in (
        λ all h. elim h [
          | inl here ↦ (let no' : opposite (claim_holds answers trees c) ≡ true = sym turned ∙ All-head P (turned_claim false c) (map (turned_claim false) cs) all in
              let yes' : claim_holds answers trees c ≡ true = own.1 here in absurd (let e : opposite true ≡ true = ap opposite (sym yes') ∙ no' in cc))
          | inr later ↦ (none-hold ps cs are.1).0 (All-tail P (turned_claim false c) (map (turned_claim false) cs) all) later
        ],
        λ none. elim (cases_Bool (claim_holds answers trees c)) [
          | inl e ↦ absurd (none (inl (own.0 e)))
          | inr e ↦ All-cons P (turned_claim false c) (map (turned_claim false) cs) (turned ∙ ap opposite e) ((none-hold ps cs are.1).1 (λ later. none (inr later)))
        ],
      )

  each-hold : (ps : List Plan) (cs : List Claim) → ArePlanClaims tests trees ps cs → (EachClaimHolds answers trees (map (turned_claim true) cs) ↔ EachHolds r (of_plans ps))
  each-hold [] [] are = (λ all. tt, λ h. All-nil (λ (c : Claim). IsTrue (claim_holds answers trees c)))
  each-hold [] (c ∷ cs) are = absurd are
  each-hold (p ∷ ps) [] are = absurd are
  each-hold (p ∷ ps) (c ∷ cs) are =
      let P = λ (x : Claim). IsTrue (claim_holds answers trees x) in
      let own = claim-says p c are.0 in (
        λ all. (own.0 (All-head P c (map (turned_claim true) cs) all), (each-hold ps cs are.1).0 (All-tail P c (map (turned_claim true) cs) all)),
        λ h. All-cons P c (map (turned_claim true) cs) (own.1 h.0) ((each-hold ps cs are.1).1 h.1),
      )

-- ---- what the statement changes

module _ (schema : Schema) (set part : PolicySet) (r : Request) (K O C : Type 0) where
  -- by an Allow statement
  allow-used : (Allows schema set r ↔ ((K ⊎ O) × C)) → (Allows schema part r ↔ (O × C)) → K → (O → ⊥) → C → Differ schema set part r
  allow-used with without k none rest = inl (with.1 (inl k, rest), λ h. none (without.0 h).0)

  allow-idle : (Allows schema set r ↔ ((K ⊎ O) × C)) → (Allows schema part r ↔ (O × C)) → (O ⊎ (O → ⊥)) → (K → (O → ⊥) → C → ⊥) → (Allows schema set r ↔ Allows schema part r)
  allow-idle with without known not' = (
    λ h. (let both = with.0 h in elim known [
      | inl o ↦ without.1 (o, both.1)
      | inr none ↦ elim both.0 [ inl k ↦ absurd (not' k none both.1) | inr o ↦ without.1 (o, both.1) ]
    ]),
    λ h. (let both = without.0 h in with.1 (inr both.0, both.1)),
  )

  -- by a Deny statement
  deny-used : (Allows schema set r ↔ (((K ⊎ O) → ⊥) × C)) → (Allows schema part r ↔ ((O → ⊥) × C)) → K → (O → ⊥) → C → Differ schema set part r
  deny-used with without k none rest = inr (without.1 (none, rest), λ h. (with.0 h).0 (inl k))

  deny-idle : (Allows schema set r ↔ (((K ⊎ O) → ⊥) × C)) → (Allows schema part r ↔ ((O → ⊥) × C)) → (K → (O → ⊥) → C → ⊥) → (Allows schema set r ↔ Allows schema part r)
  deny-idle with without not' = (
    λ h. (let both = with.0 h in without.1 ((λ o. both.0 (inr o)), both.1)),
    λ h. (let both = without.0 h in with.1 ((λ either. elim either [ inl k ↦ not' k both.0 both.1 | inr o ↦ both.0 o ]), both.1)),
  )

module _ (schema : Schema) (set : PolicySet) (name : StatementName) (s : Statement) (place index : ℕ) (q : Requirement) (differ : DifferAt schema set name s place index q) (fits : SchemaFits schema set) (r : Request) (valid : IsValid schema r) where
  abbrev K : Type 0
  K = PlanHolds r (statement_plan schema s)

  abbrev O : Type 0
  O = SomeHolds r (of_plans (differ.xs ++ differ.ys))

  abbrev C : Type 0
  C = EachHolds r (of_plans (differ.before ++ differ.after))

  allows-by : (one : PolicySet) → SchemaFits schema one → (p : Plan) → set_plans schema one ≡ differ.before ++ p ∷ differ.after → (Allows schema one r ↔ (PlanHolds r p × C))
  allows-by one one_fits p is =
      let plan = set-holds schema r one one_fits valid in
      let each = each-between r differ.before p differ.after in (
        λ h. each.0 (subst (λ (ps : List Plan). EachHolds r (of_plans ps)) is (plan.1 h)),
        λ h. plan.0 (subst (λ (ps : List Plan). EachHolds r (of_plans ps)) (sym is) (each.1 h)),
      )

  -- the statement's plan among the others
  with-allow : s.allow ≡ true → (Allows schema set r ↔ ((K ⊎ O) × C))
  with-allow is =
      let own = some-between r differ.xs (statement_plan schema s) differ.ys in
      let by = allows-by set fits (some_or_none false (differ.xs ++ statement_plan schema s ∷ differ.ys))
      (differ.whole ∙ ap (λ b. differ.before ++ some_or_none (opposite b) (differ.xs ++ statement_plan schema s ∷ differ.ys) ∷ differ.after) is) in
      (λ h. (let both = by.0 h in (own.0 both.0, both.1)), λ h. by.1 (own.1 h.0, h.1))

  part-allow : s.allow ≡ true → (Allows schema (without_statement set name) r ↔ (O × C))
  part-allow is =
      allows-by (without_statement set name) (stays-fit schema set name fits) (some_or_none false (differ.xs ++ differ.ys))
      (differ.part ∙ ap (λ b. differ.before ++ some_or_none (opposite b) (differ.xs ++ differ.ys) ∷ differ.after) is)

  with-deny : s.allow ≡ false → (Allows schema set r ↔ (((K ⊎ O) → ⊥) × C))
  with-deny is =
      let own = some-between r differ.xs (statement_plan schema s) differ.ys in
      let by = allows-by set fits (some_or_none true (differ.xs ++ statement_plan schema s ∷ differ.ys))
      (differ.whole ∙ ap (λ b. differ.before ++ some_or_none (opposite b) (differ.xs ++ statement_plan schema s ∷ differ.ys) ∷ differ.after) is) in
      (λ h. (let both = by.0 h in ((λ either. both.0 (own.1 either)), both.1)), λ h. by.1 ((λ some. h.0 (own.0 some)), h.1))

  part-deny : s.allow ≡ false → (Allows schema (without_statement set name) r ↔ ((O → ⊥) × C))
  part-deny is =
      allows-by (without_statement set name) (stays-fit schema set name fits) (some_or_none true (differ.xs ++ differ.ys))
      (differ.part ∙ ap (λ b. differ.before ++ some_or_none (opposite b) (differ.xs ++ differ.ys) ∷ differ.after) is)

  used-by : K → (O → ⊥) → C → Differ schema set (without_statement set name) r
  used-by k none rest = elim (cases_Bool s.allow) [
    | inl is ↦ allow-used schema set (without_statement set name) r K O C (with-allow is) (part-allow is) k none rest
    | inr is ↦ deny-used schema set (without_statement set name) r K O C (with-deny is) (part-deny is) k none rest
  ]

  idle-by : (O ⊎ (O → ⊥)) → (K → (O → ⊥) → C → ⊥) → (Allows schema set r ↔ Allows schema (without_statement set name) r)
  idle-by known not' = elim (cases_Bool s.allow) [
    | inl is ↦ allow-idle schema set (without_statement set name) r K O C (with-allow is) (part-allow is) known not'
    | inr is ↦ deny-idle schema set (without_statement set name) r K O C (with-deny is) (part-deny is) not'
  ]

-- ---- the claim of a change

module _ (schema : Schema) (set : PolicySet) (tests : List Test) (trees : List Tree) (claims : List (List Claim)) (wholes : List Claim) (are : AreClaimsOfSet schema set tests trees claims wholes) (fits : SchemaFits schema set)
    (name : StatementName) (s : Statement) (place index : ℕ) (q : Requirement) (there : slice_get (set_requirements set) place ≡ Some q) (at : slice_get q.named index ≡ Some (name, s))
    (own : List Claim) (own_is : slice_get claims place ≡ Some own) (one : Claim) (one_is : slice_get own index ≡ Some one) where
  differ : DifferAt schema set name s place index q
  differ = parts-differ schema set name s place index q there at

  own-claims : ArePlanClaims tests trees (differ.xs ++ statement_plan schema s ∷ differ.ys) own
  own-claims = subst (λ (ps : List Plan). ArePlanClaims tests trees ps own) differ.own
      (zip-at (λ (x : Requirement) (cs : List Claim). ArePlanClaims tests trees (plans_of schema x.named) cs) (set_requirements set) claims place q own are.of_statements there own_is)

  one-claim : IsPlanClaim tests trees (statement_plan schema s) one
  one-claim =
      zip-at (IsPlanClaim tests trees) (differ.xs ++ statement_plan schema s ∷ differ.ys) own index (statement_plan schema s) one own-claims
      (subst (λ n. slice_get (differ.xs ++ statement_plan schema s ∷ differ.ys) n ≡ Some (statement_plan schema s)) differ.index_is (got-between differ.xs (statement_plan schema s) differ.ys)) one_is

  other-statements : ArePlanClaims tests trees (differ.xs ++ differ.ys) (without_item (index + 1) own)
  other-statements =
      let number : suc (length differ.xs) ≡ index + 1 = omega (arith, differ.index_is) in
      subst (λ (ps : List Plan). ArePlanClaims tests trees ps (without_item (index + 1) own))
      (ap (λ n. without_item n (differ.xs ++ statement_plan schema s ∷ differ.ys)) (sym number) ∙ without-between differ.xs (statement_plan schema s) differ.ys)
      (zip-without (IsPlanClaim tests trees) (index + 1) (differ.xs ++ statement_plan schema s ∷ differ.ys) own own-claims)

  other-wholes : ArePlanClaims tests trees (differ.before ++ differ.after) (without_item (place + 1) wholes)
  other-wholes =
      let number : suc (length differ.before) ≡ place + 1 = omega (arith, differ.place_is) in
      let p = some_or_none (opposite s.allow) (differ.xs ++ statement_plan schema s ∷ differ.ys) in
      subst (λ (ps : List Plan). ArePlanClaims tests trees ps (without_item (place + 1) wholes))
      (ap (λ n. without_item n (set_plans schema set)) (sym number) ∙ ap (λ ps. without_item (suc (length differ.before)) ps) differ.whole ∙ without-between differ.before p differ.after)
      (zip-without (IsPlanClaim tests trees) (place + 1) (set_plans schema set) wholes are.of_wholes)

  module _ (r : Request) (answers : ℕ → Bool) (valid : IsValid schema r) (say : AnswersAs answers r tests) where
    abbrev beside : List Claim
    beside = other_claims own wholes place index

    joint-says : (IsTrue (claim_holds answers trees one) × EachClaimHolds answers trees beside) ↔
        (K schema set name s place index q differ fits r valid × (O schema set name s place index q differ fits r valid → ⊥) × C schema set name s place index q differ fits r valid)
    joint-says =
        let P = λ (x : Claim). IsTrue (claim_holds answers trees x) in
        let opposites = map (turned_claim false) (without_item (index + 1) own) in
        let rest = map (turned_claim true) (without_item (place + 1) wholes) in
        let both = all-joined P opposites rest in
        let k = claim-says tests trees r answers say (statement_plan schema s) one one-claim in
        let none = none-hold tests trees r answers say (differ.xs ++ differ.ys) (without_item (index + 1) own) other-statements in
        let each = each-hold tests trees r answers say (differ.before ++ differ.after) (without_item (place + 1) wholes) other-wholes in (
          λ h. (let parts = both.0 h.1 in (k.0 h.0, none.0 parts.0, each.0 parts.1)),
          λ h. (k.1 h.0, both.1 (none.1 h.1, each.1 h.2)),
        )

    joint-tells : (value : Bool) → (IsTrue value ↔ (IsTrue (claim_holds answers trees one) × EachClaimHolds answers trees beside)) → TellsUse schema set name r value
    joint-tells value is = record {
      used = λ h. (let parts = joint-says.0 (is.0 h) in used-by schema set name s place index q differ fits r valid parts.0 parts.1 parts.2);
      idle = λ h. idle-by schema set name s place index q differ fits r valid
          (some-known tests trees r answers say (differ.xs ++ differ.ys) (without_item (index + 1) own) other-statements)
          (λ k none rest. (let yes' = is.1 (joint-says.1 (k, none, rest)) in absurd (cc)));
    }

-- ---- names

abbrev names_of_one : Requirement → List StatementName
names_of_one q = map (λ (n : Named). n.0) q.named

names-of-guards : (d : ℕ) (gs : List (List Document)) → guard_names d gs ≡ map names_of_one (guard_requirements d gs)
names-of-guards d [] = refl
names-of-guards d (g ∷ gs) =
    ap (λ ns. ns ∷ guard_names (d + length g) gs) (names-of-effect (Some true) (named_documents d g))
    ∙ ap (λ nss. map (λ (n : Named). n.0) (of_effect (Some true) (named_documents d g)) ∷ nss) (names-of-guards (d + length g) gs)

names-required : (set : PolicySet) → required_names set ≡ map names_of_one (set_requirements set)
names-required set =
    let deny : Requirement = record { allow = false; named = of_effect (Some false) (named_set set) } in
    let guards = guard_requirements (1 + length set.grants) set.guards in
    ap (λ ns. ns ∷ guard_names (1 + length set.grants) set.guards ++ names_with (Some false) (named_set set) ∷ []) (names-of-effect (Some true) (named_grants set))
    ∙ ap (λ nss. map (λ (n : Named). n.0) (of_effect (Some true) (named_grants set)) ∷ nss ++ names_with (Some false) (named_set set) ∷ []) (names-of-guards (1 + length set.grants) set.guards)
    ∙ ap (λ ns. map (λ (n : Named). n.0) (of_effect (Some true) (named_grants set)) ∷ map names_of_one guards ++ ns ∷ []) (names-of-effect (Some false) (named_set set))
    ∙ ap (λ nss. map (λ (n : Named). n.0) (of_effect (Some true) (named_grants set)) ∷ nss) (sym (map-append names_of_one guards (deny ∷ [])))

-- the statement that has the name, and what is asked of it
pub record Found (set : PolicySet) (name : StatementName) (place index : ℕ) : Type 0 where
  pub q : Requirement
  pub s : Statement
  pub there : slice_get (set_requirements set) place ≡ Some q
  pub at : slice_get q.named index ≡ Some (name, s)

pub name-found : (set : PolicySet) (names : List (List StatementName)) (name : StatementName) (place index : ℕ) → names ≡ required_names set → IsListedAt names name place index → Found set name place index
name-found set names name place index are stands =
    let one = got-map names_of_one (set_requirements set) place stands.0 (subst (λ (nss : List (List StatementName)). slice_get nss place ≡ Some stands.0) (are ∙ names-required set) stands.1) in
    let own = got-map (λ (n : Named). n.0) one.0.named index name (subst (λ (ns : List StatementName). slice_get ns index ≡ Some name) (sym one.2) stands.2) in
    record { q = one.0; s = own.0.1; there = one.1; at = own.1 ∙ ap (λ (m : StatementName). Some (m, own.0.1)) own.2 }

-- ---- the joint claim

module _ (answers : ℕ → Bool) (old new : List Tree) (grows : Grows old new) where
  true-later : (c : Claim) → IsClaimOf old c → IsTrue (claim_holds answers old c) → IsTrue (claim_holds answers new c)
  true-later c there h = keeps-value old new c answers grows there ∙ h

  true-earlier : (c : Claim) → IsClaimOf old c → IsTrue (claim_holds answers new c) → IsTrue (claim_holds answers old c)
  true-earlier c there h = sym (keeps-value old new c answers grows there) ∙ h

-- where the one claim is true, all the others are true exactly where all that are kept are
abbrev pub AgreeBeside : Schema → List Test → List Tree → Claim → List Claim → List Claim → Type 0
AgreeBeside schema tests trees one others kept =
    (r : Request) (answers : ℕ → Bool) → IsValid schema r → AnswersAs answers r tests → IsTrue (claim_holds answers trees one) →
    (EachClaimHolds answers trees others ↔ EachClaimHolds answers trees kept)

pub joint-is : (of : SchemaTests) (old mid new : List Tree) (one : Claim) (others kept longer : List Claim) (whole claim : Claim) → Grows old mid → Grows mid new → IsClaimOf old one → AreClaimsOf old others → AreClaimsOf old kept →
    AgreeBeside of.schema of.tests old one others kept → longer ≡ kept ++ one ∷ [] → IsClaimOfEach longer mid whole → ClaimsAgree of.schema of.tests new whole claim → IsJointClaim of new one others claim
joint-is of old mid new one others kept longer whole claim first second one_there others_there kept_there beside is each agree r answers valid say =
    let P = λ (x : Claim). IsTrue (claim_holds answers mid x) in
    let same = agree r answers valid say in
    let all = grows-then old mid new first second in
    let sides = beside r answers valid say in
    let both = all-joined P kept (one ∷ []) in
    let whole_says = each.1 answers in (
      λ h.
          (let parts = both.0 (subst (λ (cs : List Claim). EachClaimHolds answers mid cs) is (whole_says.0 (true-earlier answers mid new second whole each.0 (same ∙ h)))) in
          let own = true-earlier answers old mid first one one_there (All-head P one [] parts.1) in
          let rest = (sides own).1 (had-values old mid kept answers first kept_there parts.0) in
          (true-later answers old new all one one_there own, keep-values old new others answers all others_there rest)),
      λ h.
          (let own = true-earlier answers old new all one one_there h.0 in
          let rest = (sides own).0 (had-values old new others answers all others_there h.1) in
          let parts = both.1 (keep-values old mid kept answers first kept_there rest, All-cons P one [] (true-later answers old mid first one one_there own) (All-nil P)) in
          sym same ∙ true-later answers mid new second whole each.0 (whole_says.1 (subst (λ (cs : List Claim). EachClaimHolds answers mid cs) (sym is) parts))),
    )

-- ---- what stays of a change

plan-claim-later : (tests : List Test) (old new : List Tree) → Grows old new → (p : Plan) (c : Claim) → IsPlanClaim tests old p c → IsPlanClaim tests new p c
plan-claim-later tests old new grows p c is = (is.0, is.1, stays-for old new is.0 c grows is.2)

plan-claims-later : (tests : List Test) (old new : List Tree) → Grows old new → (ps : List Plan) (cs : List Claim) → ArePlanClaims tests old ps cs → ArePlanClaims tests new ps cs
plan-claims-later tests old new grows = zip-moved (IsPlanClaim tests old) (IsPlanClaim tests new) (plan-claim-later tests old new grows)

pub changes-stay : (schema : Schema) (set : PolicySet) (query : Query) (of later : SchemaTests) (old new : List Tree) (names : List (List StatementName)) (claims : List (List Claim)) (wholes : List Claim) → later ≡ of → Grows old new → AddsNoTest old new →
    AreChanges schema set query of old names claims wholes → AreChanges schema set query later new names claims wholes
changes-stay schema set query of later old new names claims wholes same grows asks are = record {
  asked = are.asked;
  schema_is = ap (λ (x : SchemaTests). x.schema) same ∙ are.schema_is;
  tests_are = ap (λ (x : SchemaTests). x.tests) same ∙ are.tests_are;
  named = are.named;
  claimed = record {
    below = asks (length query.tests) are.claimed.below;
    of_statements = zip-moved (λ (q : Requirement) (cs : List Claim). ArePlanClaims query.tests old (plans_of schema q.named) cs) (λ (q : Requirement) (cs : List Claim). ArePlanClaims query.tests new (plans_of schema q.named) cs)
        (λ q cs own. plan-claims-later query.tests old new grows (plans_of schema q.named) cs own) (set_requirements set) claims are.claimed.of_statements;
    of_wholes = plan-claims-later query.tests old new grows (set_plans schema set) wholes are.claimed.of_wholes;
  };
}

-- the tree of the joint claim tells of the use of the statement
pub use-tree : (schema : Schema) (set : PolicySet) (query : Query) (of : SchemaTests) (trees : List Tree) (names : List (List StatementName)) (claims : List (List Claim)) (wholes : List Claim) → AreChanges schema set query of trees names claims wholes → SchemaFits schema set →
    (name : StatementName) (place index : ℕ) → IsListedAt names name place index → (own : List Claim) → slice_get claims place ≡ Some own → (one : Claim) → slice_get own index ≡ Some one →
    (others : List Claim) → others ≡ other_claims own wholes place index → (claim : Claim) → IsJointClaim of trees one others claim → (tests : List Test) (tree : Tree) → tests ≡ query.tests → IsTreeFor claim trees tree → IsUseTree schema set name tests tree
use-tree schema set query of trees names claims wholes are fits name place index stands own own_is one one_is others others_are claim joint tests tree tests_are made =
    let found = name-found set names name place index are.named stands in
    subst (λ (ts : List Test). IsUseTree schema set name ts tree) (sym tests_are) (record {
      below = made.1 (length query.tests) are.claimed.below;
      tells = λ r answers valid say.
          (let says = joint r answers (subst (λ (x : Schema). IsValid x r) (sym are.schema_is) valid) (subst (λ (ts : List Test). AnswersAs answers r ts) (sym are.tests_are) say) in
          let value : holds answers tree ≡ claim_holds answers trees claim = made.0 answers in
          subst (λ (b : Bool). TellsUse schema set name r b) (sym value)
          (joint-tells schema set query.tests trees claims wholes are.claimed fits name found.s place index found.q found.there found.at own own_is one one_is r answers valid say (claim_holds answers trees claim)
          (subst (λ (cs : List Claim). IsTrue (claim_holds answers trees claim) ↔ (IsTrue (claim_holds answers trees one) × EachClaimHolds answers trees cs)) others_are says)));
    })

-- claims that others are made of
pub one-there : (tests : List Test) (trees : List Tree) (ps : List Plan) (cs : List Claim) → ArePlanClaims tests trees ps cs → AreClaimsOf trees cs
one-there tests trees [] [] are = All-nil (IsClaimOf trees)
one-there tests trees [] (c ∷ cs) are = absurd are
one-there tests trees (p ∷ ps) [] are = absurd are
one-there tests trees (p ∷ ps) (c ∷ cs) are = All-cons (IsClaimOf trees) c cs are.0.2.0 (one-there tests trees ps cs are.1)

inner-there : (schema : Schema) (tests : List Test) (trees : List Tree) (qs : List Requirement) (css : List (List Claim)) → AllZip (λ q cs. ArePlanClaims tests trees (plans_of schema q.named) cs) qs css →
    (place : ℕ) (own : List Claim) → slice_get css place ≡ Some own → AreClaimsOf trees own
inner-there schema tests trees [] [] are place own at = absurd (cc)
inner-there schema tests trees [] (cs ∷ css) are place own at = absurd are
inner-there schema tests trees (q ∷ qs) [] are place own at = absurd are
inner-there schema tests trees (q ∷ qs) (cs ∷ css) are zero own at = subst (AreClaimsOf trees) (same_Some cs own at) (one-there tests trees (plans_of schema q.named) cs are.0)
inner-there schema tests trees (q ∷ qs) (cs ∷ css) are (suc place) own at = inner-there schema tests trees qs css are.1 place own at

turned-there : (trees : List Tree) (b : Bool) (cs : List Claim) → AreClaimsOf trees cs → AreClaimsOf trees (map (turned_claim b) cs)
turned-there trees b [] there = All-nil (IsClaimOf trees)
turned-there trees true (c ∷ cs) there = All-cons (IsClaimOf trees) c (map (turned_claim true) cs) (All-head (IsClaimOf trees) c cs there) (turned-there trees true cs (All-tail (IsClaimOf trees) c cs there))
turned-there trees false (c ∷ cs) there =
    All-cons (IsClaimOf trees) (turned_claim false c) (map (turned_claim false) cs) (All-head (IsClaimOf trees) c cs there) (turned-there trees false cs (All-tail (IsClaimOf trees) c cs there))

fewer-there : (trees : List Tree) (n : ℕ) (cs : List Claim) → AreClaimsOf trees cs → AreClaimsOf trees (without_item n cs)
fewer-there trees n [] there = there
fewer-there trees zero (c ∷ cs) there = there
fewer-there trees (suc zero) (c ∷ cs) there = All-tail (IsClaimOf trees) c cs there
fewer-there trees (suc (suc n)) (c ∷ cs) there = All-cons (IsClaimOf trees) c (without_item (suc n) cs) (All-head (IsClaimOf trees) c cs there) (fewer-there trees (suc n) cs (All-tail (IsClaimOf trees) c cs there))

-- the claims of a change are there
pub change-there : (schema : Schema) (set : PolicySet) (tests : List Test) (trees : List Tree) (claims : List (List Claim)) (wholes : List Claim) → AreClaimsOfSet schema set tests trees claims wholes → (place index : ℕ) (own : List Claim) → slice_get claims place ≡ Some own →
    (others : List Claim) → others ≡ other_claims own wholes place index → AreClaimsOf trees own × AreClaimsOf trees others
change-there schema set tests trees claims wholes are place index own own_is others is =
    let there = inner-there schema tests trees (set_requirements set) claims are.of_statements place own own_is in (
      there,
      subst (AreClaimsOf trees) (sym is) ((all-joined (IsClaimOf trees) (map (turned_claim false) (without_item (index + 1) own)) (map (turned_claim true) (without_item (place + 1) wholes))).1 (
        turned-there trees false (without_item (index + 1) own) (fewer-there trees (index + 1) own there),
        turned-there trees true (without_item (place + 1) wholes) (fewer-there trees (place + 1) wholes (one-there tests trees (set_plans schema set) wholes are.of_wholes)),
      )),
    )

pub claim-there : (trees : List Tree) (own : List Claim) (index : ℕ) (one : Claim) → AreClaimsOf trees own → slice_get own index ≡ Some one → IsClaimOf trees one
claim-there trees own index one there at = subst (IsClaimOf trees) (get_or_from_slice_get own index one one at) (there index one (slice_get_within own index one at))
