use Rattle.std.proofs.Common.{◌≡◌, All, map, take}
use Rattle.std.specs.Str.{IsUtf8}
use Rattle.command_words.specs.Asked.{texts_in}
use Rattle.findings.specs.Texts.{predicate_text}
use Rattle.certified_summaries.proofs.wording.texts_of_dimension.Given as goal

abbrev pub invariant-loop-predicate : goal.invariant-loop-predicate
invariant-loop-predicate l = (texts_in l.texts ≡ map predicate_text (take l.predicate-index l.stratum.predicates)) × All IsUtf8 (texts_in l.texts)
