use Rattle.std.proofs.Common.{◌∙◌, Some, ap, arith, sym}
use Rattle.command_words.specs.Asked.{texts_in}
use Rattle.certified_summaries.proofs.Wordings.{other-text, others-all, others-more, same-text, texts-at}
use Rattle.certified_summaries.proofs.wording.number_of.Goals as goal

pub returns-then-eq : goal.returns-then-eq
returns-then-eq c =
    texts-at c.args.texts.now c.loop-i.i c.index-texts-i.result (omega arith) c.index-texts-i.is ∙ ap Some (sym c.as_str.ensures.value ∙ same-text c.as_str.result.now c.args.text.now c.if-eq.ensures)

pub loop-i-preserved : goal.loop-i-preserved
loop-i-preserved c =
    others-more (texts_in c.args.texts.now) c.loop-i.i c.as_str.result.now c.args.text.now
    (texts-at c.args.texts.now c.loop-i.i c.index-texts-i.result (omega arith) c.index-texts-i.is ∙ ap Some (sym c.as_str.ensures.value)) (other-text c.as_str.result.now c.args.text.now c.if-eq.ensures) c.loop-i.invariant

pub returns : goal.returns
returns c = others-all c.args.texts.now c.loop-i.i c.args.text.now (omega arith) c.loop-i.invariant
