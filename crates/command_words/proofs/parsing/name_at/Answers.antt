use Rattle.std.proofs.Common.{◌∙◌, ap}
use Rattle.std.proofs.lemmas.Result.{IfOk-weaker}
use Rattle.clap.specs.Words.{found_of}
use Rattle.clap.proofs.WalkLemmas.{first_value-rows}
use Rattle.command_words.proofs.Readings.{text_or}
use Rattle.command_words.proofs.parsing.name_at.Goals as goal

pub returns : goal.returns
returns c =
    let text = c.get_str.ensures ∙ first_value-rows (found_of c.args.matches.now) c.args.id.now in
    let name = ap (λ s. s.now) c.unwrap_or.ensures ∙ text_or c.get_str.result _ _ text in
    IfOk-weaker c.from_str.result _ _ (λ n h. h ∙ name) c.from_str.ensures.ok
