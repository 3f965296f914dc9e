use Rattle.std.proofs.Common.{ap}
use Rattle.value_theory.specs.declared.search.Solved.TheVariants.{Found}
use Rattle.value_theory.proofs.Points.{none_left, zero_tried, zero_found}
use Rattle.value_theory.proofs.search.solve.Goals as goal

pub returns-in-None-clause-answer : goal.returns-in-None-clause-answer
returns-in-None-clause-answer c =
    let none = rw (c.in-None.is, c.as_slice-conds.ensures, c.as_slice.ensures, c.as_slice-2.ensures) at c.first_meeting.ensures in
    let listed = rw c.as_slice-conds.ensures at c.in_ok-points.ensures.items in
    none_left c.args.wants.now.kind c.args.wants.now.conds c.args.wants.now.clauses c.in_ok-points.points listed none

pub returns-in-None-clause-zero : goal.returns-in-None-clause-zero
returns-in-None-clause-zero c =
    let none = rw (c.in-None.is, c.as_slice-conds.ensures, c.as_slice.ensures, c.as_slice-2.ensures) at c.first_meeting.ensures in
    let listed = rw c.as_slice-conds.ensures at c.in_ok-points.ensures.items in
    λ number met. absurd (zero_tried c.args.wants.now.kind c.args.wants.now.conds c.args.wants.now.clauses c.in_ok-points.points number met listed none)

pub returns-in-Some-clause-zero : goal.returns-in-Some-clause-zero
returns-in-Some-clause-zero c =
    let first = rw (c.in-Some.is, c.as_slice-conds.ensures, c.as_slice.ensures, c.as_slice-2.ensures) at c.first_meeting.ensures in
    let listed = rw c.as_slice-conds.ensures at c.in_ok-points.ensures.items in
    let removed = rw c.into_vec.ensures at c.remove.ensures.value in
    λ number met. ap Found (zero_found c.args.wants.now.kind c.args.wants.now.conds c.args.wants.now.clauses c.in_ok-points.points c.in-Some.index c.remove.result listed first.2 removed number met)
