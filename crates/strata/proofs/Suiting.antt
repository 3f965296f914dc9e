-- The predicates that tests name suit the schema that the tests suit.
use Rattle.std.proofs.Common.{ℕ, List, [], ◌∷◌, ◌++◌, All, Option, Some, None, inl, inr, subst, if◌then◌else◌}
use Rattle.std.specs.Prelude.{MatchOption}
use Rattle.std.proofs.lemmas.Bool.{cases_Bool}
use Rattle.std.proofs.lemmas.List.Elements.{All-nil, All-cons, All-head, All-tail, All-append, All-map, All-push}
use Rattle.policy_model.specs.declared.cond.Cond.{Cond}
use Rattle.policy_model.specs.declared.schema.KeyRule.{KeyRule}
use Rattle.policy_model.specs.declared.schema.Schema.{Schema}
use Rattle.policy_model.specs.declared.test.Slot.{Slot}
use Rattle.policy_model.specs.declared.test.Slot.TheVariants as slot
use Rattle.policy_model.specs.declared.test.Test.{Test}
use Rattle.policy_model.specs.declared.test.Test.TheVariants as test
use Rattle.policy_model.specs.Conds.{IsCondOf}
use Rattle.policy_model.specs.Soundness.{IsKeyWith, TestSuits}
use Rattle.slot_theory.specs.Slots.{is_on, slot_of}
use Rattle.slot_theory.proofs.Laws.{on-slot}
use Rattle.text_table.specs.Table.{item_at}
use Rattle.strata.specs.declared.predicate.Predicate.{Predicate}
use Rattle.strata.specs.declared.predicate.Predicate.TheVariants.{Every, Principal, Word, Meets}
use Rattle.strata.specs.Predicates.{AreNamed, Gathers, SuitsSlot, gathers_none, gathers_again, gathers_anew, test_predicates, read_in}

-- of each of these the rule asks what P says
key-each : (schema : Schema) (key : List ℕ) (cs : List Cond) → IsKeyWith schema (λ rule. All (IsCondOf rule.kind) cs) key → All (λ c. IsKeyWith schema (λ rule. IsCondOf rule.kind c) key) cs
key-each schema key cs = by (item_at key schema.keys)
  where
    by : (o : Option KeyRule) → MatchOption o ⊥ (λ rule. All (IsCondOf rule.kind) cs) → All (λ c. MatchOption o ⊥ (λ rule. IsCondOf rule.kind c)) cs
    by None h = absurd h
    by (Some rule) h = h

-- what a test names suits the test's slot
own-suit : (schema : Schema) (t : Test) → TestSuits schema t → All (SuitsSlot schema (slot_of t)) (test_predicates t)
own-suit schema (test.Principal entry) suits = All-cons (SuitsSlot schema slot.Principal) (Principal entry) [] suits (All-nil (SuitsSlot schema slot.Principal))
own-suit schema (test.Action pattern) suits = All-cons (SuitsSlot schema slot.Action) (Word pattern) [] tt (All-nil (SuitsSlot schema slot.Action))
own-suit schema (test.Resource pattern) suits = All-cons (SuitsSlot schema slot.Resource) (Word pattern) [] tt (All-nil (SuitsSlot schema slot.Resource))
own-suit schema (test.Present key) suits = All-nil (SuitsSlot schema (slot.Key key))
own-suit schema (test.SomeMeets key c) suits = All-cons (SuitsSlot schema (slot.Key key)) (Meets c) [] suits (All-nil (SuitsSlot schema (slot.Key key)))
own-suit schema (test.SomeMeetsNone key cs) suits = All-map (SuitsSlot schema (slot.Key key)) Meets cs (key-each schema key cs suits)

-- what a test names in a slot suits it
one-suits : (schema : Schema) (s : Slot) (t : Test) → TestSuits schema t → All (SuitsSlot schema s) (if is_on s t then test_predicates t else [])
one-suits schema s t suits = elim (cases_Bool (is_on s t)) [
  | inl on ↦ rw on (subst (λ (x : Slot). All (SuitsSlot schema x) (test_predicates t)) (on-slot s t on) (own-suit schema t suits))
  | inr off ↦ rw off (All-nil (SuitsSlot schema s))
]

read-suit : (schema : Schema) (s : Slot) (tests : List Test) → All (TestSuits schema) tests → All (SuitsSlot schema s) (read_in s tests)
read-suit schema s [] suit = All-nil (SuitsSlot schema s)
read-suit schema s (t ∷ tests) suit = All-append (SuitsSlot schema s) (if is_on s t then test_predicates t else []) (read_in s tests) (one-suits schema s t (All-head (TestSuits schema) t tests suit)) (read-suit schema s tests (All-tail (TestSuits schema) t tests suit))

gathered-all : (P : Predicate → Type 0) (had read got : List Predicate) → Gathers had read got → All P had → All P read → All P got
gathered-all P had [] got gathers_none have each = have
gathered-all P had (p ∷ read) got (gathers_again here rest) have each = gathered-all P had read got rest have (All-tail P p read each)
gathered-all P had (p ∷ read) got (gathers_anew new rest) have each = gathered-all P (had ++ p ∷ []) read got rest (All-push P had p have (All-head P p read each)) (All-tail P p read each)

-- the predicates that are named suit the slot
pub named-suit : (schema : Schema) (s : Slot) (tests : List Test) (names : List Predicate) → All (TestSuits schema) tests → AreNamed s tests names → All (SuitsSlot schema s) names
named-suit schema s tests names suit named = gathered-all (SuitsSlot schema s) (Every ∷ []) (read_in s tests) names named (All-cons (SuitsSlot schema s) Every [] tt (All-nil (SuitsSlot schema s))) (read-suit schema s tests suit)
