-- What is settled of the change query of a statement tells whether the statement is used.
use Rattle.std.proofs.Common.{◌≡◌, ◌↔◌, ◌≤◌, ℕ, List, [], length, Bool, true, false, All, if◌then◌else◌, Result, Ok, Err, inl, inr, refl, ap, sym, ◌∙◌, subst, arith}
use Rattle.std.specs.Prelude.{Contains}
use Rattle.std.proofs.lemmas.Bool.{cases_Bool}
use Rattle.std.proofs.lemmas.List.Elements.{All-nil}
use Rattle.formula_tree.specs.Trees as tree
use Rattle.formula_tree.specs.Values.{AreBelow, holds}
use Rattle.policy_model.specs.declared.request.Request.{Request}
use Rattle.policy_model.specs.declared.schema.Schema.{Schema}
use Rattle.policy_model.specs.declared.set.PolicySet.{PolicySet}
use Rattle.policy_model.specs.declared.set.Statement.{Statement}
use Rattle.policy_model.specs.declared.set.StatementName.{StatementName}
use Rattle.policy_model.specs.Requests.{IsValid}
use Rattle.policy_model.specs.Sets.{Allows}
use Rattle.policy_model.specs.Soundness.{SchemaFits, SchemaIsSound, TestSuits}
use Rattle.policy_model.specs.StatementNames.{Named, named_set}
use Rattle.policy_compile.specs.declared.outcome.Query.{Query}
use Rattle.policy_compile.specs.declared.outcome.QueryFault.{QueryFault}
use Rattle.policy_compile.specs.declared.outcome.QueryFault.TheVariants as query_fault
use Rattle.policy_model.specs.declared.test.Test.{Test}
use Rattle.policy_compile.specs.Laws.{AsksPair, TestsOfSetQueriesSuit}
use Rattle.policy_compile.specs.Limits.{AskTheSameTests, IsWithinLimits, MeetLimitsAlike}
use Rattle.policy_compile.specs.Meaning.{AnswersAs}
use Rattle.policy_compile.specs.Plans.{Plan, tests_in}
use Rattle.policy_compile.specs.Queries.{IsQuery, IsQueryOf, asked_tree}
use Rattle.policy_compile.specs.Sets.{query_plan, set_plan}
use Rattle.policy_compile.proofs.Laws.{All-collects, below-numbered, holds-numbered, part-asks, query-covers, query-holds, query-within, same-limits, suit-query}
use Rattle.refute_check.specs.Laws.{IsMetBy, MakesYes, NoneMeets}
use Rattle.refute_check.specs.Proofs.{Proof, proof_of}
use Rattle.refute_check.proofs.Laws.{queries_are_no}
use Rattle.refute_check.proofs.RunLaws.{makes-yes}
use Rattle.findings.specs.Answers.{QueryIsAskable}
use Rattle.set_questions.specs.declared.settling.Settled.{Settled}
use Rattle.set_questions.specs.declared.settling.Settled.TheVariants as settled
use Rattle.set_questions.specs.Idle.{Differ, IsNameIn, EachNamed}
use Rattle.set_questions.specs.Removal.{without_statement}
use Rattle.set_questions.specs.Changes.{IsUseTree}
use Rattle.set_questions.specs.Laws.{AsksAsTheSet, ChangeQueriesTell, DecidesUse}
use Rattle.refute_check.specs.Queries.{ClosesAll}
use Rattle.set_questions.specs.Settling.{SettlesQuery}
use Rattle.set_questions.specs.Uses.{AreLimitsMet, IsUseOf, change_plan, limits_told, use_told}
use Rattle.set_questions.proofs.Changing.{allow-adds, deny-takes, part-among, stays-fit}
use Rattle.set_questions.proofs.Losing.{SetLoses, set-loses}
use Rattle.set_questions.proofs.Placing.{named-there}

-- ---- queries of two sets

module _ (schema : Schema) (first second : PolicySet) (first_fits : SchemaFits schema first) (second_fits : SchemaFits schema second) (q : Query) (is : IsQuery (query_plan schema first second) q) where
  below : AreBelow (length q.tests) (asked_tree q)
  below = below-numbered q.tests (query_plan schema first second) (asked_tree q) is.tree

  suit : All (TestSuits schema) q.tests
  suit = All-collects (TestSuits schema) [] (tests_in (query_plan schema first second)) q.tests is.tests (All-nil (TestSuits schema)) (suit-query schema first second first_fits second_fits)

  pub query-askable : SchemaIsSound schema → QueryIsAskable schema q
  query-askable sound =
      let few : length q.tests ≤ 1000 = is.few in
      record { sound = sound; suit = suit; count = omega (arith, few); below = below }

  -- a request that makes the query yes is one that only the first set allows
  pub met-only : (r : Request) → IsMetBy schema q.tests (asked_tree q) [] r → Allows schema first r × ¬ Allows schema second r
  met-only r met =
      let plan_says = holds-numbered met.meets.0 r q.tests met.meets.1 (query_plan schema first second) (asked_tree q) is.tree in
      (query-holds schema r first second first_fits second_fits met.valid).0 (plan_says.0 met.meets.2)

  -- where none makes it yes, the second set allows each valid request that the first allows
  pub unmet-covers : NoneMeets schema q.tests (asked_tree q) [] → (r : Request) → IsValid schema r → Allows schema first r → Allows schema second r
  unmet-covers none r valid allowed =
      let some_yes : MakesYes q.tests tree.yes r = makes-yes q.tests tree.yes [] r (λ n b e. absurd (cc)) (λ n b t e at. absurd (cc)) refl in
      let total : ℕ → Bool = some_yes.0 in
      let say : AnswersAs total r q.tests = some_yes.1 in
      let asks : AsksPair schema first second r total (asked_tree q) = record { first_fits = first_fits; second_fits = second_fits; valid = valid; tests = q.tests; say = say; numbered = is.tree } in
      elim (cases_Bool (holds total (asked_tree q))) [
        | inl e ↦ absurd (none r (record { valid = valid; answers = λ n b t e at. absurd (cc); meets = (total, say, e) }))
        | inr e ↦ query-covers schema first second r (asked_tree q) total asks e allowed
      ]

-- where a refutation closes a query, none makes it yes
closed-unmet : (schema : Schema) (plan : Plan) (q : Query) → IsQuery plan q → (p : Proof) → ClosesAll schema q p → NoneMeets schema q.tests (asked_tree q) []
closed-unmet schema plan q is p closes r met = queries_are_no schema q.tests (asked_tree q) p (below-numbered q.tests plan (asked_tree q) is.tree) closes r met.valid met.meets

-- ---- change queries

-- by the effect
abbrev pub directed_plan : Bool → Schema → PolicySet → PolicySet → Plan
directed_plan allow schema set part = (if allow then query_plan schema set part else query_plan schema part set)

module _ (schema : Schema) (s : Statement) (set part : PolicySet) (lose : SetLoses s set part) where
  directed-tests : (allow : Bool) → AskTheSameTests (directed_plan allow schema set part) (set_plan schema set)
  directed-tests true = (part-asks schema set part (part-among s set part lose)).first
  directed-tests false = (part-asks schema set part (part-among s set part lose)).second

  pub directed-limits : (allow : Bool) → MeetLimitsAlike (directed_plan allow schema set part) (set_plan schema set)
  directed-limits allow = same-limits (directed_plan allow schema set part) (set_plan schema set) (directed-tests allow)

  module _ (set_fits : SchemaFits schema set) (part_fits : SchemaFits schema part) (q : Query) where
    directed-askable : (allow : Bool) → IsQuery (directed_plan allow schema set part) q → SchemaIsSound schema → QueryIsAskable schema q
    directed-askable true is sound = query-askable schema set part set_fits part_fits q is sound
    directed-askable false is sound = query-askable schema part set part_fits set_fits q is sound

    directed-met : (allow : Bool) → IsQuery (directed_plan allow schema set part) q → (r : Request) → IsMetBy schema q.tests (asked_tree q) [] r → Differ schema set part r
    directed-met true is r met = inl (met-only schema set part set_fits part_fits q is r met)
    directed-met false is r met = inr (met-only schema part set part_fits set_fits q is r met)

    directed-unmet : (allow : Bool) → s.allow ≡ allow → IsQuery (directed_plan allow schema set part) q → NoneMeets schema q.tests (asked_tree q) [] → (r : Request) → IsValid schema r → (Allows schema set r ↔ Allows schema part r)
    directed-unmet true effect is none r valid = (
      λ h. unmet-covers schema set part set_fits part_fits q is none r valid h,
      λ h. allow-adds schema s set part lose r effect h,
    )
    directed-unmet false effect is none r valid = (
      λ h. deny-takes schema s set part lose r effect h,
      λ h. unmet-covers schema part set part_fits set_fits q is none r valid h,
    )

-- the change query of a statement of the set
pub change-asks : (schema : Schema) (set : PolicySet) (named : Named) → Contains (named_set set) named → AsksAsTheSet schema set named
change-asks schema set (name, s) at =
    let lose = set-loses set name s at in
    record { tests = directed-tests schema s set (without_statement set name) lose s.allow; limits = directed-limits schema s set (without_statement set name) lose s.allow }

pub change-askable : (schema : Schema) (set : PolicySet) (name : StatementName) (s : Statement) (q : Query) → SchemaFits schema set → SchemaIsSound schema → Contains (named_set set) (name, s) → IsQuery (change_plan schema set (name, s)) q → QueryIsAskable schema q
change-askable schema set name s q fits sound at is =
    directed-askable schema s set (without_statement set name) (set-loses set name s at) fits (stays-fit schema set name fits) q s.allow is sound

pub use-settled : (schema : Schema) (splits states : ℕ) (set : PolicySet) (name : StatementName) (s : Statement) (q : Query) → SchemaFits schema set → Contains (named_set set) (name, s) → IsQuery (change_plan schema set (name, s)) q →
    (answer : Settled) → SettlesQuery schema splits states q answer → IsUseOf schema splits states set (name, s) (use_told answer)
use-settled schema splits states set name s q fits at is (settled.Met r) met =
    record { valid = met.valid; differ = directed-met schema s set (without_statement set name) (set-loses set name s at) fits (stays-fit schema set name fits) q s.allow is r met }
use-settled schema splits states set name s q fits at is (settled.Nobody r) h = (
  directed-unmet schema s set (without_statement set name) (set-loses set name s at) fits (stays-fit schema set name fits) q s.allow refl is (closed-unmet schema (change_plan schema set (name, s)) q is (proof_of r.value) h.closes),
  record { query = q; is = is; holds = h },
)
use-settled schema splits states set name s q fits at is settled.OutOfSplits h = record { query = q; is = is; holds = h }
use-settled schema splits states set name s q fits at is (settled.OutOfStates w) h = record { query = q; is = is; holds = h }

-- the set's limits are those of the change query
pub change-within : (schema : Schema) (set : PolicySet) (named : Named) → Contains (named_set set) named → IsWithinLimits (set_plan schema set) → IsWithinLimits (change_plan schema set named)
change-within schema set named at within =
    let alike = (change-asks schema set named at).limits in
    record { tests = λ many. within.tests (alike.tests.0 many); pieces = λ many. within.pieces (alike.pieces.0 many) }

-- what is asked with the part and the effect is the change query
pub directed-change : (schema : Schema) (set : PolicySet) (name : StatementName) (s : Statement) (part : PolicySet) (allow : Bool) → part ≡ without_statement set name → allow ≡ s.allow → directed_plan allow schema set part ≡ change_plan schema set (name, s)
directed-change schema set name s part allow same effect = ap (λ (p : PolicySet). directed_plan allow schema set p) same ∙ ap (λ (b : Bool). directed_plan b schema set (without_statement set name)) effect

pub directed-within : (schema : Schema) (set : PolicySet) (name : StatementName) (part : PolicySet) (allow : Bool) → IsNameIn set name → part ≡ without_statement set name → EachNamed set name (λ s. allow ≡ s.allow) → IsWithinLimits (set_plan schema set) → IsWithinLimits (directed_plan allow schema set part)
directed-within schema set name part allow is same effect within =
    let there = named-there set name is in
    subst IsWithinLimits (sym (directed-change schema set name there.0 part allow same (effect there.0 there.1))) (change-within schema set (name, there.0) there.1 within)

-- a query, or why there is none, tells whether the limits are met
pub limits-met : (plan : Plan) (r : Result Query QueryFault) → IsQueryOf plan r → AreLimitsMet plan (limits_told r)
limits-met plan (Ok q) is = query-within plan q is
limits-met plan (Err query_fault.TooManyTests) is = is
limits-met plan (Err query_fault.TooManyPieces) is = is
limits-met plan (Err query_fault.NoMemory) is = tt

-- ---- what queries tell

pub change-tells : ChangeQueriesTell
change-tells schema set (name, s) q fits at is =
    let lose = set-loses set name s at in
    let part_fits = stays-fit schema set name fits in
    record {
      askable = λ sound. directed-askable schema s set (without_statement set name) lose fits part_fits q s.allow is sound;
      used = λ r met. record { valid = met.valid; differ = directed-met schema s set (without_statement set name) lose fits part_fits q s.allow is r met };
      idle = λ none. directed-unmet schema s set (without_statement set name) lose fits part_fits q s.allow refl is none;
    }

-- a query whose tree tells of the use at each valid request
tree-decides : (schema : Schema) (set : PolicySet) (name : StatementName) (q : Query) → All (TestSuits schema) q.tests → length q.tests ≤ 1000 → IsUseTree schema set name q.tests (asked_tree q) → DecidesUse schema set name q
tree-decides schema set name q suit few tree_tells = record {
  askable = λ sound. record { sound = sound; suit = suit; count = omega (arith, few); below = tree_tells.below };
  used = λ r met. record { valid = met.valid; differ = (tree_tells.tells r met.meets.0 met.valid met.meets.1).used met.meets.2 };
  idle = λ none r valid.
      (let some_yes : MakesYes q.tests tree.yes r = makes-yes q.tests tree.yes [] r (λ n b e. absurd (cc)) (λ n b t e at. absurd (cc)) refl in
      let total : ℕ → Bool = some_yes.0 in
      let say : AnswersAs total r q.tests = some_yes.1 in
      elim (cases_Bool (holds total (asked_tree q))) [
        | inl e ↦ absurd (none r (record { valid = valid; answers = λ n b t e at. absurd (cc); meets = (total, say, e) }))
        | inr e ↦ (tree_tells.tells r total valid say).idle e
      ]);
}

-- over the tests of a set's query
pub asked-decides : TestsOfSetQueriesSuit → (schema : Schema) (set : PolicySet) (asked : Query) → IsQuery (set_plan schema set) asked → SchemaFits schema set → (name : StatementName) (q : Query) → q.tests ≡ asked.tests →
    IsUseTree schema set name q.tests (asked_tree q) → DecidesUse schema set name q
asked-decides law schema set asked is fits name q same tells =
    let few : length asked.tests ≤ 1000 = is.few in
    tree-decides schema set name q (subst (All (TestSuits schema)) (sym same) (law schema set asked.tests fits is.tests)) (subst (λ (ts : List Test). length ts ≤ 1000) (sym same) few) tells
