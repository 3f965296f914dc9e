use Rattle.std.proofs.Common.{subst, sym}
use Rattle.policy_model.specs.declared.test.Test.TheVariants.{Action, Principal, Resource, SomeMeets, SomeMeetsNone}
use Rattle.policy_model.specs.Soundness.{IsKeyWith}
use Rattle.test_relations.specs.Parts.{IsSingle}
use Rattle.test_relations.proofs.Holding.{actions-exclude, entries-exclude, excludes-equal, resources-exclude, some-excludes-none, some-excludes-some, turned}
use Rattle.test_relations.proofs.tests.excludes.Goals as goal

pub returns-in-Principal-Principal : goal.returns-in-Principal-Principal
returns-in-Principal-Principal c h =
    let on = c.in-Principal-Principal in
    excludes-equal c.args.schema.now c.args.one.now c.args.other.now (Principal on.first) (Principal on.second) on.is-0 on.is-1
    (entries-exclude c.args.schema.now on.first on.second (c.are_entries_apart.ensures h))

pub returns-in-Action-Action : goal.returns-in-Action-Action
returns-in-Action-Action c h =
    let on = c.in-Action-Action in
    excludes-equal c.args.schema.now c.args.one.now c.args.other.now (Action on.first) (Action on.second) on.is-0 on.is-1
    (actions-exclude c.args.schema.now on.first on.second (c.clashes.ensures.0 h))

pub returns-in-Resource-Resource : goal.returns-in-Resource-Resource
returns-in-Resource-Resource c h =
    let on = c.in-Resource-Resource in
    excludes-equal c.args.schema.now c.args.one.now c.args.other.now (Resource on.first) (Resource on.second) on.is-0 on.is-1
    (resources-exclude c.args.schema.now on.first on.second (c.clashes-in-Resource-Resource.ensures.0 h))

pub returns-then-is_one_single_key : goal.returns-then-is_one_single_key
returns-then-is_one_single_key c h =
    let on = c.in-SomeMeets-SomeMeets in
    let single = c.is_one_single_key.ensures (cc) in
    excludes-equal c.args.schema.now c.args.one.now c.args.other.now (SomeMeets on.key on.first) (SomeMeets on.also on.second) on.is-0 on.is-1
    (some-excludes-some c.args.schema.now on.key on.also on.first on.second single.0 (c.cond_excludes.ensures h) single.1)

pub returns-then-is_one_single_key-2 : goal.returns-then-is_one_single_key-2
returns-then-is_one_single_key-2 c h =
    let on = c.in-SomeMeets-SomeMeetsNone in
    let single = c.is_one_single_key-in-SomeMeets-SomeMeetsNone.ensures (cc) in
    excludes-equal c.args.schema.now c.args.one.now c.args.other.now (SomeMeets on.key on.first) (SomeMeetsNone on.also on.seconds) on.is-0 on.is-1
    (some-excludes-none c.args.schema.now on.key on.also on.first on.seconds single.0 (c.leads_to_some.ensures h) single.1)

pub returns-then-is_one_single_key-3 : goal.returns-then-is_one_single_key-3
returns-then-is_one_single_key-3 c h =
    let on = c.in-SomeMeetsNone-SomeMeets in
    let single = c.is_one_single_key-in-SomeMeetsNone-SomeMeets.ensures (cc) in
    let none = some-excludes-none c.args.schema.now on.also on.key on.second on.firsts (sym single.0) (c.leads_to_some-then-is_one_single_key-3.ensures h) (subst (IsKeyWith c.args.schema.now IsSingle) single.0 single.1) in
    excludes-equal c.args.schema.now c.args.one.now c.args.other.now (SomeMeetsNone on.key on.firsts) (SomeMeets on.also on.second) on.is-0 on.is-1
    (turned c.args.schema.now (SomeMeets on.also on.second) (SomeMeetsNone on.key on.firsts) none)
