use Rattle.nogoods.specs.Hits.{NoneBefore}
use Rattle.nogoods.proofs.watching.first_contained.Given as goal

abbrev pub invariant-each : goal.invariant-each
invariant-each l = NoneBefore l.lists l.path l.i
