use Rattle.std.proofs.Common.{sym, ◌∙◌}
use Rattle.findings.proofs.Saying.{adds-last, adds-none}
use Rattle.findings.proofs.known.add_answer.Goals as goal

pub returns-in-Some : goal.returns-in-Some
returns-in-Some c = adds-none c.args.path.now c.args.test c.args.answer

pub returns-in_ok-push-in-None : goal.returns-in_ok-push-in-None
returns-in_ok-push-in-None c =
    adds-last c.args.path.now c.push.new.self c.args.test c.args.answer (sym c.answer.ensures ∙ c.in-None.is) c.in_ok-push-in-None.ensures.ok
