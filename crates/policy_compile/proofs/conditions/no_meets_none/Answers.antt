use Rattle.policy_compile.specs.Conditions.{some_meets_none}
use Rattle.policy_compile.proofs.Steps.{not-built}
use Rattle.policy_compile.proofs.conditions.no_meets_none.Goals as goal

pub returns : goal.returns
returns c =
    not-built c.args.builder.now c.some_meets_none.new.builder c.insert.new.self (some_meets_none c.args.kind c.args.condition.now) c.in_ok-some.some c.in_ok-index.index c.in_ok-some.ensures c.in_ok-index.ensures
