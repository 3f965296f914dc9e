use Rattle.std.proofs.Common.{◌∷◌, []}
use Rattle.request_schema.specs.Uses.{use_of}
use Rattle.request_schema.proofs.Finding.{all-found, conditions-left, no-conditions, part-found, pushed-use}
use Rattle.request_schema.proofs.found.add_conditions.Goals as goal

pub loop-condition-preserved : goal.loop-condition-preserved
loop-condition-preserved c =
    let x = c.condition-item.result in
    let left = conditions-left c.args.second c.args.name c.loop-condition.condition-index c.args.conditions.now x c.loop-condition-test.true c.condition-item.is in
    part-found _ _ (use_of c.args.second c.args.name x ∷ []) _ _ _ (pushed-use _ _ _ c.in_ok-push.ensures.items) left c.loop-condition.invariant

pub returns : goal.returns
returns c = all-found _ _ _ (no-conditions c.args.second c.args.name c.loop-condition.condition-index c.args.conditions.now c.loop-condition-test.false) c.loop-condition.invariant
