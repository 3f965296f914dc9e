use Rattle.std.proofs.Common.{◌≤◌, length}
use Rattle.wildcard_lang.proofs.Deciding.{rest_taken, run_goes_on}
use Rattle.wildcard_lang.proofs.PatternParts.{none_behind, some_behind, first_behind, last_of_behind, part_of_behind}
use Rattle.wildcard_lang.proofs.matching.matches_runs.Goals as goal

pub returns-then-is_empty : goal.returns-then-is_empty
returns-then-is_empty g c =
    rest_taken g.X.Taken.taken _ _ _ _ _ _ _ c.in-Some.ensures.parts c.in-Some.ensures.run (none_behind _ _ c.is_empty.ensures c.if-is_empty.true) c.runs.invariant.last c.takes_rest.ensures c.runs.invariant.same

pub runs-preserved : goal.runs-preserved
runs-preserved g c =
    let some : 1 ≤ length c.in-Some.behind.now = some_behind _ _ c.is_empty.ensures c.if-is_empty.false in
    record {
      same = run_goes_on g.X.Taken.taken c.narrows.ensures g.met.X.Taken.star g.S.Source.left _ _ _ _ _ _ _ c.in-Some.ensures.parts c.runs.invariant.first c.in-Some.ensures.run c.runs.invariant.part some c.in-Some.ensures.next
          c.in-Some-first_start.ensures.found c.in-Some-first_start.ensures.left c.runs.invariant.same;
      first = first_behind _ some c.in-Some.ensures.next;
      last = last_of_behind _ _ c.in-Some.run'.now c.in-Some.behind.now c.in-Some.ensures.parts some c.runs.invariant.last;
      part = part_of_behind _ _ c.in-Some.run'.now c.in-Some.behind.now c.in-Some.ensures.parts c.runs.invariant.part;
    }
