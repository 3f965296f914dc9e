use Rattle.std.proofs.Common.{◌∙◌, List, get_or, ap, arith, length, subst}
use Rattle.std.specs.Str.{IsUtf8}
use Rattle.findings.specs.Texts.{predicate_text}
use Rattle.strata.specs.declared.predicate.Predicate.{Predicate}
use Rattle.certified_summaries.proofs.Wordings.{texts-more, utf8-more}
use Rattle.certified_summaries.proofs.wording.texts_of_dimension.Goals as goal

pub loop-predicate-preserved : goal.loop-predicate-preserved
loop-predicate-preserved c = (
  texts-more predicate_text c.args.stratum.now.predicates c.loop-predicate.predicate-index c.predicate-item.result c.loop-predicate.texts c.push.new.self c.in_ok-text.text (omega (arith, ap length c.as_slice-predicate-items.ensures)) (c.predicate-item.is ∙ ap (λ (xs : List Predicate). get_or xs c.loop-predicate.predicate-index c.predicate-item.result) c.as_slice-predicate-items.ensures) c.loop-predicate.invariant.0 c.in_ok-text.ensures c.in_ok-push.ensures.ok,
  utf8-more c.loop-predicate.texts c.push.new.self c.in_ok-text.text c.loop-predicate.invariant.1 (subst IsUtf8 c.as_str-words.ensures.value c.as_str-words.utf8) c.in_ok-push.ensures.ok,
)
