use Rattle.std.proofs.Common.{ap, List, ℕ, ◌+◌, get_or, nat_eq}
use Rattle.cnf_clauses.proofs.Hinting.{alike-refuted, alike-open, alike-unit, alike-end}
use Rattle.cnf_clauses.proofs.replaying.replay_from.Goals as goal

pub returns-in-Refuted : goal.returns-in-Refuted
returns-in-Refuted c =
    let same = c.as_slice-hint-items.ensures in
    alike-refuted c.args.clauses.now c.args.decided.now c.args.hints.now c.hints.decided c.hints.i _ (nat_eq (c.hints.i + 1) c.len.result)
    (rw same at c.hints-test.true) (ap (λ (x : List ℕ). get_or x c.hints.i 0) same) c.in-Refuted.ensures
    (ap (λ (x : ℕ). nat_eq (c.hints.i + 1) x) c.len.ensures) c.hints.invariant

pub returns-in-Open : goal.returns-in-Open
returns-in-Open c =
    let same = c.as_slice-hint-items.ensures in (
      λ h. absurd (cc),
      λ r. absurd (alike-open c.args.clauses.now c.args.decided.now c.args.hints.now c.hints.decided c.hints.i _
          (rw same at c.hints-test.true) (ap (λ (x : List ℕ). get_or x c.hints.i 0) same) c.in-Open.ensures c.hints.invariant r),
    )

pub hints-preserved : goal.hints-preserved
hints-preserved c =
    let same = c.as_slice-hint-items.ensures in
    rw c.in_ok-push-in-Unit.ensures.ok
    (alike-unit c.args.clauses.now c.args.decided.now c.args.hints.now c.hints.decided c.hints.i _ c.in-Unit.variable c.in-Unit.value
    (rw same at c.hints-test.true) (ap (λ (x : List ℕ). get_or x c.hints.i 0) same) c.in-Unit.ensures c.hints.invariant)

pub returns : goal.returns
returns c =
    let same = c.as_slice-hint-items.ensures in
    (λ h. absurd (cc), λ r. absurd (alike-end c.args.clauses.now c.args.decided.now c.args.hints.now c.hints.decided c.hints.i (rw same at c.hints-test.false) c.hints.invariant r))
