use Rattle.std.proofs.Common.{◌∙◌}
use Rattle.std.proofs.lemmas.Result.{IfOk-weaker}
use Rattle.compare_program.proofs.Words.{all-left, behind-first}
use Rattle.compare_program.proofs.over.behind_first.Goals as goal

pub returns : goal.returns
returns c =
    IfOk-weaker c.collect.result _ _
    (λ v ran. ran.2.0 ∙ all-left c.next-program.new.self ran.0 ran.1 ∙ behind-first c.args.words c.next-program.new.self c.next-program.result c.next-program.ensures.cases)
    c.collect.ensures.ran
