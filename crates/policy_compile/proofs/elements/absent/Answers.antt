use Rattle.policy_compile.proofs.Steps.{yes-built}
use Rattle.policy_compile.proofs.elements.absent.Goals as goal

pub returns : goal.returns
returns c = yes-built c.args.builder.now c.insert.new.self c.in_ok-index.index c.in_ok-index.ensures
