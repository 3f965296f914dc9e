use Rattle.std.proofs.Common.{take}
use Rattle.test_relations.specs.Parts.{CondExcludesEach}
use Rattle.test_relations.proofs.lists.excludes_each.Given as goal

-- of those so far
abbrev pub invariant-others : goal.invariant-others
invariant-others l = CondExcludesEach l.one (take l.other-index l.other-items)
