use Rattle.std.proofs.Common.{sym, ◌∙◌}
use Rattle.wildcard_lang.proofs.FrontSums.{sum-next}
use Rattle.wildcard_lang.proofs.marked.front_sum.Goals as goal

pub front-preserved : goal.front-preserved
front-preserved c =
    sum-next c.args.count c.front.counter c.front.sum c.next_sum-sum.result c.in-Some.c _ c.front.rest.now _ c.front-test.true c.in-len1-up.len_at_least (sym c.folded_character.ensures ∙ c.in-Some.is) c.next_sum-sum.ensures c.front.invariant
