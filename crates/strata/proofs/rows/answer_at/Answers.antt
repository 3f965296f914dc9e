use Rattle.std.proofs.Common.{ap, sym, ◌∙◌}
use Rattle.std.specs.Option.{option_copied}
use Rattle.strata.proofs.Telling.{answer-none}
use Rattle.strata.proofs.rows.answer_at.Goals as goal

pub returns-in-None : goal.returns-in-None
returns-in-None c = answer-none c.args.answers.now c.args.number (sym c.get.ensures ∙ ap option_copied c.in-None.is)
