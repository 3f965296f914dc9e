use Rattle.policy_model.specs.declared.test.Test.TheVariants.{Action, Present, Resource, SomeMeets}
use Rattle.test_relations.proofs.Holding.{action-always, always-equal, required-is-present, required-to-some, resource-always}
use Rattle.test_relations.proofs.tests.always.Goals as goal

pub returns-in-Action : goal.returns-in-Action
returns-in-Action c h =
    always-equal c.args.schema.now c.args.test.now (Action c.in-Action.pattern) c.in-Action.is (action-always c.args.schema.now c.in-Action.pattern (c.matches_each.ensures h))

pub returns-in-Resource : goal.returns-in-Resource
returns-in-Resource c h =
    always-equal c.args.schema.now c.args.test.now (Resource c.in-Resource.pattern) c.in-Resource.is (resource-always c.args.schema.now c.in-Resource.pattern (c.matches_each-in-Resource.ensures h))

pub returns-in-Present : goal.returns-in-Present
returns-in-Present c h =
    always-equal c.args.schema.now c.args.test.now (Present c.in-Present.key) c.in-Present.is (required-is-present c.args.schema.now c.in-Present.key (c.is_required.ensures h))

pub returns-then-is_required : goal.returns-then-is_required
returns-then-is_required c h =
    let on = c.in-SomeMeets in
    always-equal c.args.schema.now c.args.test.now (SomeMeets on.key on.cond) on.is (required-to-some c.args.schema.now on.key on.cond (c.is_required-in-SomeMeets.ensures (cc)) (c.is_met_by_each.ensures h))
