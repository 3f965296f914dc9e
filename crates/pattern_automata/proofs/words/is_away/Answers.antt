use Rattle.std.proofs.Common.{◌∙◌, ◌&&◌, ap, eqb, sym}
use Rattle.std.proofs.lemmas.Bool.{eqb-true}
use Rattle.std.proofs.lemmas.Nat.Bits.{bit_at-zero}
use Rattle.pattern_automata.specs.Packed.{is_bit_on}
use Rattle.pattern_automata.proofs.Bits.{on-and}
use Rattle.pattern_automata.proofs.words.is_away.Goals as goal

pub returns : goal.returns
returns c = λ h b l.
    ap (λ x. x && is_bit_on c.args.patch.differs b) (sym (c.near_word.ensures b l))
    ∙ (sym (on-and c.near_word.result c.args.patch.differs b) ∙ (ap (λ x. is_bit_on x b) (eqb-true _ _ h) ∙ ap (λ x. eqb x 1) (bit_at-zero b)))
