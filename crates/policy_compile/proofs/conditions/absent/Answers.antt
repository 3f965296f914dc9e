use Rattle.policy_compile.specs.Conditions.{present_plan}
use Rattle.policy_compile.proofs.Steps.{not-built}
use Rattle.policy_compile.proofs.conditions.absent.Goals as goal

pub returns : goal.returns
returns c =
    not-built c.args.builder.now c.present.new.builder c.insert.new.self (present_plan c.args.condition.now) c.in_ok-present.present c.in_ok-index.index c.in_ok-present.ensures c.in_ok-index.ensures
