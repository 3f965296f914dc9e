use Rattle.std.proofs.Common.{◌∙◌, ◌||◌, ap, get_or}
use Rattle.pattern_automata.specs.Packed.{mark_before, is_bit_on}
use Rattle.pattern_automata.proofs.Bits.{on-or}
use Rattle.pattern_automata.proofs.words.near_word.Goals as goal

pub returns : goal.returns
returns c = λ b h.
    on-or (get_or c.args.state.now c.args.index 0) c.shifted.result b
    ∙ (ap (λ x. is_bit_on (get_or c.args.state.now c.args.index 0) b || x) (c.shifted.ensures b h)
    ∙ ap (λ f. is_bit_on (get_or c.args.state.now c.args.index 0) b || mark_before f (is_bit_on (get_or c.args.state.now c.args.index 0)) b) c.carry.ensures)
