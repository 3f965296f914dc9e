use Rattle.policy_compile.specs.Sets.{set_plan}
use Rattle.policy_compile.proofs.Steps.{not-built}
use Rattle.policy_compile.proofs.sets.refused.Goals as goal

pub returns : goal.returns
returns c =
    not-built c.args.builder.now c.set_node.new.builder c.insert.new.self (set_plan c.args.schema.now c.args.set.now) c.in_ok-allowed.allowed c.in_ok-index.index c.in_ok-allowed.ensures c.in_ok-index.ensures
