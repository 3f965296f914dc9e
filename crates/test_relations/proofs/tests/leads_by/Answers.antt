use Rattle.policy_model.specs.declared.test.Test.TheVariants.{Action, Present, Principal, Resource, SomeMeets, SomeMeetsNone}
use Rattle.test_relations.proofs.Holding.{actions-lead, entries-lead, leads-equal, none-is-present, none-to-none, present-is-present, present-to-some, resources-lead, some-is-present, some-to-none, some-to-some}
use Rattle.test_relations.proofs.tests.leads_by.Goals as goal

pub returns-in-Principal-Principal : goal.returns-in-Principal-Principal
returns-in-Principal-Principal c h =
    let on = c.in-Principal-Principal in
    leads-equal c.args.schema.now c.args.one.now c.args.other.now (Principal on.first) (Principal on.second) on.is-0 on.is-1
    (entries-lead c.args.schema.now on.first on.second (c.entry_leads.ensures h))

pub returns-in-Action-Action : goal.returns-in-Action-Action
returns-in-Action-Action c h =
    let on = c.in-Action-Action in
    leads-equal c.args.schema.now c.args.one.now c.args.other.now (Action on.first) (Action on.second) on.is-0 on.is-1
    (actions-lead c.args.schema.now on.first on.second (c.covers.ensures.0 h))

pub returns-in-Resource-Resource : goal.returns-in-Resource-Resource
returns-in-Resource-Resource c h =
    let on = c.in-Resource-Resource in
    leads-equal c.args.schema.now c.args.one.now c.args.other.now (Resource on.first) (Resource on.second) on.is-0 on.is-1
    (resources-lead c.args.schema.now on.first on.second (c.covers-in-Resource-Resource.ensures.0 h))

pub returns-in-Present-Present : goal.returns-in-Present-Present
returns-in-Present-Present c h =
    let on = c.in-Present-Present in
    leads-equal c.args.schema.now c.args.one.now c.args.other.now (Present on.key) (Present on.also) on.is-0 on.is-1
    (present-is-present c.args.schema.now on.key on.also (c.is_one_key.ensures h))

pub returns-in-SomeMeets-Present : goal.returns-in-SomeMeets-Present
returns-in-SomeMeets-Present c h =
    let on = c.in-SomeMeets-Present in
    leads-equal c.args.schema.now c.args.one.now c.args.other.now (SomeMeets on.key on.field-1-0) (Present on.also) on.is-0 on.is-1
    (some-is-present c.args.schema.now on.key on.also on.field-1-0 (c.is_one_key-in-SomeMeets-Present.ensures h))

pub returns-in-SomeMeetsNone-Present : goal.returns-in-SomeMeetsNone-Present
returns-in-SomeMeetsNone-Present c h =
    let on = c.in-SomeMeetsNone-Present in
    leads-equal c.args.schema.now c.args.one.now c.args.other.now (SomeMeetsNone on.key on.field-1-0) (Present on.also) on.is-0 on.is-1
    (none-is-present c.args.schema.now on.key on.also on.field-1-0 (c.is_one_key-in-SomeMeetsNone-Present.ensures h))

pub returns-then-is_one_key-2 : goal.returns-then-is_one_key-2
returns-then-is_one_key-2 c h =
    let on = c.in-SomeMeets-SomeMeets in
    leads-equal c.args.schema.now c.args.one.now c.args.other.now (SomeMeets on.key on.first) (SomeMeets on.also on.second) on.is-0 on.is-1
    (some-to-some c.args.schema.now on.key on.also on.first on.second (c.is_one_key-in-SomeMeets-SomeMeets.ensures (cc)) (c.cond_leads.ensures h))

pub returns-then-is_one_key-3 : goal.returns-then-is_one_key-3
returns-then-is_one_key-3 c h =
    let on = c.in-SomeMeets-SomeMeetsNone in
    leads-equal c.args.schema.now c.args.one.now c.args.other.now (SomeMeets on.key on.first) (SomeMeetsNone on.also on.seconds) on.is-0 on.is-1
    (some-to-none c.args.schema.now on.key on.also on.first on.seconds (c.is_one_key-in-SomeMeets-SomeMeetsNone.ensures (cc)) (c.excludes_each.ensures h))

pub returns-then-is_one_key-4 : goal.returns-then-is_one_key-4
returns-then-is_one_key-4 c h =
    let on = c.in-SomeMeetsNone-SomeMeetsNone in
    let key = c.is_one_key-in-SomeMeetsNone-SomeMeetsNone.ensures (cc) in
    leads-equal c.args.schema.now c.args.one.now c.args.other.now (SomeMeetsNone on.key on.firsts) (SomeMeetsNone on.also on.seconds) on.is-0 on.is-1
    (none-to-none c.args.schema.now on.key on.also on.firsts on.seconds key (c.each_leads_to_some.ensures h))

pub returns-then-is_one_key : goal.returns-then-is_one_key
returns-then-is_one_key c h =
    let on = c.in-Present-SomeMeets in
    let key = c.is_one_key-in-Present-SomeMeets.ensures (cc) in
    leads-equal c.args.schema.now c.args.one.now c.args.other.now (Present on.key) (SomeMeets on.also on.second) on.is-0 on.is-1
    (present-to-some c.args.schema.now on.key on.also on.second key (c.is_met_by_each.ensures h))
