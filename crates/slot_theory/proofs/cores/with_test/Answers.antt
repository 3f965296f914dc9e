use Rattle.std.proofs.Common.{◌∙◌}
use Rattle.slot_theory.proofs.Rising.{with-by}
use Rattle.slot_theory.proofs.cores.with_test.Goals as goal

pub returns : goal.returns
returns c =
    with-by _ _ _ _ _ c.requires.rises c.requires.new c.index_of-index.ensures.within c.index_of-index.ensures.before c.index_of-index.ensures.behind c.in_ok-numbers.ensures.items (c.from_vec.ensures ∙ c.in_ok-insert.ensures.items)
