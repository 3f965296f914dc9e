use Rattle.std.proofs.Common.{◌∙◌, ap, []}
use Rattle.std.specs.Prelude.{unwrap_or}
use Rattle.std.proofs.lemmas.Result.{IfOk-weaker}
use Rattle.clap.specs.Words.{found_of}
use Rattle.clap.proofs.WalkLemmas.{raw_values-rows}
use Rattle.command_words.specs.Asked.{texts_in}
use Rattle.command_words.proofs.parsing.names_at.Goals as goal

pub returns-in-Some : goal.returns-in-Some
returns-in-Some c =
    let values = c.in-Some.ensures ∙ raw_values-rows (found_of c.args.matches.now) c.args.id.now in
    IfOk-weaker c.owned.result _ _ (λ all h. h ∙ ap (λ o. unwrap_or o []) values) c.owned.ensures

pub returns-in-None : goal.returns-in-None
returns-in-None c =
    let values = c.in-None.ensures ∙ raw_values-rows (found_of c.args.matches.now) c.args.id.now in
    ap texts_in c.new.ensures.items ∙ ap (λ o. unwrap_or o []) values
