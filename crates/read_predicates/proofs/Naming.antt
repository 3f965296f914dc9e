-- What holds of the predicates that tests name in their slots holds of those that a stratum keeps.
use Rattle.std.proofs.Common.{List, [], ◌∷◌, ◌++◌, if◌then◌else◌, All as Each, inl, inr, subst}
use Rattle.std.proofs.lemmas.Bool.{cases_Bool}
use Rattle.std.proofs.lemmas.List.Elements.{All-append, All-cons, All-head, All-nil, All-push, All-tail}
use Rattle.policy_model.specs.declared.schema.Schema.{Schema}
use Rattle.policy_model.specs.declared.test.Slot.{Slot}
use Rattle.policy_model.specs.declared.test.Test.{Test}
use Rattle.slot_theory.specs.Slots.{is_on, slot_of}
use Rattle.slot_theory.proofs.Laws.{on-slot}
use Rattle.strata.specs.declared.predicate.Predicate.{Predicate}
use Rattle.strata.specs.declared.predicate.Predicate.TheVariants.{Every}
use Rattle.strata.specs.declared.stratum.Stratum.{Stratum}
use Rattle.strata.specs.Below.{Keeps, drops_it, keeps_it, keeps_none}
use Rattle.strata.specs.Predicates.{Gathers, gathers_again, gathers_anew, gathers_none, read_in, test_predicates}
use Rattle.strata.specs.Strata.{IsStratum}

gathered-all : (P : Predicate → Type 0) (had read got : List Predicate) → Gathers had read got → Each P had → Each P read → Each P got
gathered-all P had [] got gathers_none have each = have
gathered-all P had (p ∷ read) got (gathers_again here rest) have each = gathered-all P had read got rest have (All-tail P p read each)
gathered-all P had (p ∷ read) got (gathers_anew new rest) have each =
    gathered-all P (had ++ p ∷ []) read got rest (All-push P had p have (All-head P p read each)) (All-tail P p read each)

kept-all : (P : Predicate → Type 0) (schema : Schema) (s : Slot) (earlier names kept : List Predicate) → Keeps schema s earlier names kept → Each P names → Each P kept
kept-all P schema s earlier [] kept keeps_none each = All-nil P
kept-all P schema s earlier (p ∷ names) kept (keeps_it {kept = more} h rest) each =
    All-cons P p more (All-head P p names each) (kept-all P schema s (earlier ++ p ∷ []) names more rest (All-tail P p names each))
kept-all P schema s earlier (p ∷ names) kept (drops_it h rest) each = kept-all P schema s (earlier ++ p ∷ []) names kept rest (All-tail P p names each)

-- F holds of `any` in each slot, and of what each test names in its own
module _ (F : Slot → Predicate → Type 0) (any : (s : Slot) → F s Every) where
  abbrev pub NamesOwn : Test → Type 0
  NamesOwn t = Each (F (slot_of t)) (test_predicates t)

  one-named : (s : Slot) (t : Test) → NamesOwn t → Each (F s) (if is_on s t then test_predicates t else [])
  one-named s t names = elim (cases_Bool (is_on s t)) [
    | inl on ↦ rw on (subst (λ (x : Slot). Each (F x) (test_predicates t)) (on-slot s t on) names)
    | inr off ↦ rw off (All-nil (F s))
  ]

  read-named : (s : Slot) (tests : List Test) → Each NamesOwn tests → Each (F s) (read_in s tests)
  read-named s [] names = All-nil (F s)
  read-named s (t ∷ tests) names =
      All-append (F s) (if is_on s t then test_predicates t else []) (read_in s tests)
      (one-named s t (All-head NamesOwn t tests names)) (read-named s tests (All-tail NamesOwn t tests names))

  pub stratum-named : (schema : Schema) (tests : List Test) (x : Stratum) → Each NamesOwn tests → IsStratum schema tests x → Each (F x.slot) x.predicates
  stratum-named schema tests x names is =
      let P : Predicate → Type 0 = F x.slot in
      let some = is.predicates in
      kept-all P schema x.slot [] some.names x.predicates some.kept
      (gathered-all P (Every ∷ []) (read_in x.slot tests) some.names some.named (All-cons P Every [] (any x.slot) (All-nil P)) (read-named x.slot tests names))
