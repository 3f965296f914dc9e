use Rattle.std.proofs.Common.{◌∙◌, ◌+◌, ◌-◌, ap, arith, drop, length, sym, take}
use Rattle.command_words.proofs.Distinct.{all_distinct, differing, repeated}
use Rattle.command_words.specs.Asked.{is_one_of, texts_in}
use Rattle.command_words.proofs.dimensions.are_distinct.Goals as goal

pub returns-then-is_one_of : goal.returns-then-is_one_of
returns-then-is_one_of c =
    sym (repeated c.args.texts.now c.loop-i.i c.index-texts-i.result c.is_one_of.result c.loop-i-test.true c.index-texts-i.is
    (c.is_one_of.ensures ∙ ap (λ t. is_one_of t (texts_in (take (length c.args.texts.now - (c.loop-i.i + 1)) (drop (c.loop-i.i + 1) c.args.texts.now)))) c.as_str.ensures.value) c.if-is_one_of.true)
    ∙ c.loop-i.invariant

pub loop-i-preserved : goal.loop-i-preserved
loop-i-preserved c =
    sym (differing c.args.texts.now c.loop-i.i c.index-texts-i.result c.is_one_of.result c.loop-i-test.true c.index-texts-i.is
    (c.is_one_of.ensures ∙ ap (λ t. is_one_of t (texts_in (take (length c.args.texts.now - (c.loop-i.i + 1)) (drop (c.loop-i.i + 1) c.args.texts.now)))) c.as_str.ensures.value) c.if-is_one_of.false)
    ∙ c.loop-i.invariant

pub returns : goal.returns
returns c = sym (all_distinct c.args.texts.now c.loop-i.i (omega (arith, c.loop-i-test.false))) ∙ c.loop-i.invariant
