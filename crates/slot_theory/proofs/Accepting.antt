-- The check of a core and its proof.
use Rattle.std.proofs.Common.{◌≡◌, ℕ, ◌<◌, ◌↔◌, IsTrue, List, [], ◌∷◌, length, get_or, slice_get, Bool, Some, None, Result, Ok, Err, IfOk, refl, sym, ap, ◌∙◌, subst, arith}
use Rattle.std.proofs.lemmas.Option.{slice_get-get_or}
use Rattle.formula_tree.specs.Answers.{Answers}
use Rattle.policy_model.specs.declared.schema.Schema.{Schema}
use Rattle.policy_model.specs.declared.test.Slot.{Slot}
use Rattle.policy_model.specs.declared.test.Test.{Test}
use Rattle.policy_model.specs.declared.test.Test.TheVariants.{Action}
use Rattle.slot_theory.specs.declared.outcome.SlotProof.{SlotProof}
use Rattle.slot_theory.specs.Slots.{slot_of, test_at}
use Rattle.slot_theory.specs.Cores.{Accepts, IsConflict, IsCore, Shows}
use Rattle.slot_theory.proofs.Wording.{at-test}

pub if-ok : {X E : Type 0} (r : Result X E) (P Q : X → Type 0) → ((x : X) → P x → Q x) → IfOk r P → IfOk r Q
if-ok (Ok x) P Q f h = f x h
if-ok (Err e) P Q f h = tt

module _ (schema : Schema) (tests : List Test) (path : Answers) (core : List ℕ) where
  first-is : (xs : List ℕ) (first d : ℕ) → slice_get xs 0 ≡ Some first → (get_or xs 0 d ≡ first) × (0 < length xs)
  first-is [] first d e = absurd (cc)
  first-is (x ∷ xs) first d e = (cc, omega arith)

  -- the slot of an accepted core is that of its first test
  same-slot : (s : Slot) (first : ℕ) (t : Test) → slice_get core 0 ≡ Some first → slice_get tests first ≡ Some t → IsCore tests path core s → slot_of t ≡ s
  same-slot s first t at here is =
      let f = first-is core first 0 at in
      let same : test_at tests first ≡ t = at-test tests first t here in
      let on : slot_of (test_at tests (get_or core 0 0)) ≡ s = is.on_slot 0 0 f.1 in
      ap slot_of (sym same) ∙ (ap (λ n. slot_of (test_at tests n)) (sym f.0) ∙ on)

  pub accepts-by : (proof : SlotProof) (first : ℕ) (t : Test) (ok : Bool) → slice_get core 0 ≡ Some first → slice_get tests first ≡ Some t →
      IsTrue ok ↔ IsConflict schema tests path (slot_of t) core proof → IsTrue ok ↔ Accepts schema tests path core proof
  accepts-by proof first t ok at here says = (
    λ y. record { slot = slot_of t; conflict = says.0 y },
    λ a.
        let e : slot_of t ≡ a.slot = same-slot a.slot first t at here a.conflict.core_is in
        says.1 (subst (λ (x : Slot). IsConflict schema tests path x core proof) (sym e) a.conflict),
  )

  none-empty : (xs : List ℕ) → slice_get xs 0 ≡ None → xs ≡ []
  none-empty [] e = refl
  none-empty (x ∷ xs) e = absurd (cc)

  pub no-first : (proof : SlotProof) → slice_get core 0 ≡ None → Accepts schema tests path core proof → ⊥
  no-first proof e a = a.conflict.core_is.nonempty (none-empty core e)

  pub no-test : (proof : SlotProof) (first : ℕ) → slice_get core 0 ≡ Some first → slice_get tests first ≡ None → Accepts schema tests path core proof → ⊥
  no-test proof first at none a =
      let f = first-is core first 0 at in
      let within : first < length tests = subst (λ (n : ℕ). n < length tests) f.0 (a.conflict.core_is.within 0 0 f.1) in
      let some : slice_get tests first ≡ Some (get_or tests first (Action [])) = slice_get-get_or tests first (Action []) within in
      absurd (cc)

-- the same where the tests, the core and the slot are named otherwise
pub accepts-where : (schema : Schema) (tests seen : List Test) (path : Answers) (core list : List ℕ) (s : Slot) (proof : SlotProof) (first : ℕ) (t : Test) (ok : Bool) → slice_get core 0 ≡ Some first → slice_get tests first ≡ Some t → seen ≡ tests → list ≡ core → s ≡ slot_of t →
    IsTrue ok ↔ IsConflict schema seen path s list proof → IsTrue ok ↔ Accepts schema tests path core proof
accepts-where schema tests seen path core list s proof first t ok at here same whole on says =
    let one = subst (λ (x : List Test). IsTrue ok ↔ IsConflict schema x path s list proof) same says in
    let two = subst (λ (x : List ℕ). IsTrue ok ↔ IsConflict schema tests path s x proof) whole one in
    accepts-by schema tests path core proof first t ok at here (subst (λ (x : Slot). IsTrue ok ↔ IsConflict schema tests path x core proof) on two)

-- what is left to show is what is shown, where the rest is known
pub conflict-by : (schema : Schema) (tests : List Test) (path : Answers) (s : Slot) (core : List ℕ) (proof : SlotProof) (ok : Bool) → IsCore tests path core s → IsTrue ok ↔ Shows schema tests path core s proof →
    IsTrue ok ↔ IsConflict schema tests path s core proof
conflict-by schema tests path s core proof ok is says = (λ t. record { core_is = is; shows = says.0 t }, λ w. says.1 w.shows)
