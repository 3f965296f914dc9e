use Rattle.std.proofs.Common.{◌++◌}
use Rattle.policy_model.specs.StatementNames.{named_statements}
use Rattle.set_questions.specs.Requirements.{names_with}
use Rattle.set_questions.proofs.Counting.{statements-next}
use Rattle.set_questions.proofs.names.add_statements.Goals as goal

pub loop-i-preserved : goal.loop-i-preserved
loop-i-preserved c =
    let e = c.args.effect in
    let i = c.loop-i.i in
    let x = c.index-statements-i.result in
    rw (c.in_ok-add_if.ensures, c.has_effect.ensures)
    (statements-next e c.args.document i c.loop-i.names (c.args.names.now ++ names_with e (named_statements c.args.document 1 c.args.statements.now)) c.args.statements.now x c.loop-i-test.true c.loop-i.invariant)
