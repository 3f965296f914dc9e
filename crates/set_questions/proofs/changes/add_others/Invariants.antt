use Rattle.std.proofs.Common.{◌≡◌, ◌++◌, drop, map}
use Rattle.formula_nodes.specs.Claims.{turned_claim}
use Rattle.set_questions.specs.Removal.{without_item}
use Rattle.set_questions.proofs.changes.add_others.Given as goal

-- what was added, and what the claims that are left add, are all
abbrev pub invariant-loop-claim : goal.invariant-loop-claim
invariant-loop-claim l =
    l.others ++ map (turned_claim l.holds) (without_item l.left (drop l.claim-index l.claims)) ≡ l.fn.others ++ map (turned_claim l.holds) (without_item l.number l.claims)
