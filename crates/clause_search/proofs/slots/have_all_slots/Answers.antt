use Rattle.std.proofs.Common.{◌≡◌, ℕ, Bool, Any, get_or, refl, sym, subst, inl, inr, arith}
use Rattle.std.proofs.lemmas.Bool.{cases_lt}
use Rattle.policy_model.specs.declared.test.Slot.{Slot}
use Rattle.policy_model.proofs.Laws.{slice_get-at}
use Rattle.slot_theory.specs.Slots.{slot_of, test_at}
use Rattle.clause_search.proofs.Answering.{answered-at, at-answered, within-range}
use Rattle.clause_search.proofs.slots.have_all_slots.Goals as goal

pub has_value_on-requires : goal.has_value_on-requires
has_value_on-requires c =
    let p : ℕ × Bool = (c.in-Some.test, c.in-Some.field-0-1) in
    record { within = within-range c.args.asked.now.query.now.tests c.args.path.now c.in-Some.test c.requires.range (answered-at c.args.path.now c.answers.i p c.in-Some.ensures) }

pub answers-preserved : goal.answers-preserved
answers-preserved c k d low =
    let tests = c.args.asked.now.query.now.tests in
    let path = c.args.path.now in
    let p : ℕ × Bool = (c.in-Some.test, c.in-Some.field-0-1) in
    elim (cases_lt k c.answers.i) [
      | inl before ↦ c.answers.invariant k d before
      | inr behind ↦
          let last : c.answers.i ≡ k = omega arith in
          let at : get_or path c.answers.i d ≡ p = (slice_get-at path c.answers.i p d (sym c.in-Some.ensures)).1 in
          subst (λ j. Any (λ v. v.0 ≡ slot_of (test_at tests (get_or path j d).0)) c.args.values.now) last
          (subst (λ (q : ℕ × Bool). Any (λ v. v.0 ≡ slot_of (test_at tests q.0)) c.args.values.now) (sym at) (c.if-not-has_value_on.ensures refl))
    ]

pub returns : goal.returns
returns c = λ yes s asked.
    let tests = c.args.asked.now.query.now.tests in
    let values = c.args.values.now in
    subst (λ (x : Slot). Any (λ v. v.0 ≡ x) values) asked.is.on_slot
    (at-answered (λ n. Any (λ v. v.0 ≡ slot_of (test_at tests n)) values) c.args.path.now asked.number (λ k d within. c.answers.invariant k d (omega (arith, c.answers-test.false))) asked.is.answered)
