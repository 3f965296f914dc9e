use Rattle.std.proofs.Common.{take}
use Rattle.test_relations.specs.Parts.{EachLeadsToSome}
use Rattle.test_relations.proofs.lists.each_leads_to_some.Given as goal

-- so do those so far
abbrev pub invariant-ones : goal.invariant-ones
invariant-ones l = EachLeadsToSome (take l.one-index l.one-items) l.others
