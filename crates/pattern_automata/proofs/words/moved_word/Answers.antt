use Rattle.std.proofs.Common.{◌∙◌, ap, get_or}
use Rattle.pattern_automata.specs.Packed.{is_bit_on, moved_marks}
use Rattle.pattern_automata.proofs.Bits.{on-moved}
use Rattle.pattern_automata.proofs.words.moved_word.Goals as goal

pub returns : goal.returns
returns c = λ b h.
    on-moved c.shifted.result c.args.one (get_or c.args.state.now c.args.index 0) c.args.stay c.carry.result c.shifted.ensures b h
    ∙ ap (λ f. moved_marks (is_bit_on c.args.one) (is_bit_on c.args.stay) (is_bit_on (get_or c.args.state.now c.args.index 0)) f b) c.carry.ensures
