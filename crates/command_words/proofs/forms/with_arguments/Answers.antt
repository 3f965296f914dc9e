use Rattle.std.proofs.Common.{arith}
use Rattle.command_words.proofs.Filled.{all_added}
use Rattle.command_words.proofs.forms.with_arguments.Goals as goal

pub returns : goal.returns
returns c =
    let at = c.loop-argument in
    all_added c.args.arguments.now at.argument-index _ _ (omega (arith, c.loop-argument-test.false)) at.invariant
