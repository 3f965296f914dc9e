use Rattle.std.proofs.Common.{◌∙◌, ap, bit_or, ◌*◌, ◌%◌}
use Rattle.pattern_automata.specs.Packed.{is_bit_on}
use Rattle.pattern_automata.proofs.Bits.{on-shifted, byte-is}
use Rattle.pattern_automata.proofs.words.shifted.Goals as goal

pub returns : goal.returns
returns c = λ i h. ap (λ x. is_bit_on (bit_or (c.args.word * 2 % 18446744073709551616) x) i) (c.from.ensures ∙ byte-is c.args.first) ∙ on-shifted c.args.word c.args.first i h
