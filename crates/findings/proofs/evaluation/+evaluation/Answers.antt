use Rattle.std.proofs.Common.{arith, length, sym}
use Rattle.formula_tree.specs.Trees.{trees_of}
use Rattle.findings.specs.Judging.{nth_answer}
use Rattle.findings.proofs.Evaluated.{each-done, each-false, each-next, read-as, some-done, some-next, some-true}
use Rattle.findings.proofs.Trees.{below-at, none_past, size-at}
use Rattle.findings.proofs.evaluation.+evaluation.Goals as goal

pub each_holds_by-holds_by-requires : goal.each_holds_by-holds_by-requires
each_holds_by-holds_by-requires t c = (
  rw c.deref.ensures (omega (arith, size-at (trees_of c.args.branches.now) c.branches.i _ c.in-Some.ensures)),
  rw c.deref.ensures (below-at (length c.args.answers.now) (trees_of c.args.branches.now) c.branches.i _ c.in-Some.ensures c.requires),
)

pub each_holds_by-returns-then-not-holds_by : goal.each_holds_by-returns-then-not-holds_by
each_holds_by-returns-then-not-holds_by t c =
    sym (each-false (nth_answer c.args.answers.now) (trees_of c.args.branches.now) c.branches.i _ c.in-Some.ensures (read-as (nth_answer c.args.answers.now) _ _ _ _ c.deref.ensures c.holds_by.ensures (cc)))

pub each_holds_by-branches-preserved : goal.each_holds_by-branches-preserved
each_holds_by-branches-preserved t c =
    each-next (nth_answer c.args.answers.now) (trees_of c.args.branches.now) c.branches.i _ c.in-Some.ensures c.branches.invariant (read-as (nth_answer c.args.answers.now) _ _ _ _ c.deref.ensures c.holds_by.ensures (cc))

pub each_holds_by-returns-in_default : goal.each_holds_by-returns-in_default
each_holds_by-returns-in_default t c =
    sym (each-done (nth_answer c.args.answers.now) (trees_of c.args.branches.now) c.branches.i (none_past (trees_of c.args.branches.now) c.branches.i (rw c.in_default.is at c.get.ensures)) c.branches.invariant)

pub some_holds_by-holds_by-requires : goal.some_holds_by-holds_by-requires
some_holds_by-holds_by-requires t c = (
  rw c.deref.ensures (omega (arith, size-at (trees_of c.args.branches.now) c.branches.i _ c.in-Some.ensures)),
  rw c.deref.ensures (below-at (length c.args.answers.now) (trees_of c.args.branches.now) c.branches.i _ c.in-Some.ensures c.requires),
)

pub some_holds_by-returns-then-holds_by : goal.some_holds_by-returns-then-holds_by
some_holds_by-returns-then-holds_by t c =
    sym (some-true (nth_answer c.args.answers.now) (trees_of c.args.branches.now) c.branches.i _ c.in-Some.ensures (read-as (nth_answer c.args.answers.now) _ _ _ _ c.deref.ensures c.holds_by.ensures (cc)))

pub some_holds_by-branches-preserved : goal.some_holds_by-branches-preserved
some_holds_by-branches-preserved t c =
    some-next (nth_answer c.args.answers.now) (trees_of c.args.branches.now) c.branches.i _ c.in-Some.ensures c.branches.invariant (read-as (nth_answer c.args.answers.now) _ _ _ _ c.deref.ensures c.holds_by.ensures (cc))

pub some_holds_by-returns-in_default : goal.some_holds_by-returns-in_default
some_holds_by-returns-in_default t c =
    sym (some-done (nth_answer c.args.answers.now) (trees_of c.args.branches.now) c.branches.i (none_past (trees_of c.args.branches.now) c.branches.i (rw c.in_default.is at c.get.ensures)) c.branches.invariant)
