use Rattle.policy_model.specs.declared.cond.Cond.TheVariants.{Compares}
use Rattle.test_relations.proofs.Asking.{bounds-exclude, excludes-equal}
use Rattle.test_relations.proofs.conds.cond_excludes.Goals as goal

pub returns-in-Compares-Compares : goal.returns-in-Compares-Compares
returns-in-Compares-Compares c h =
    let on = c.in-Compares-Compares in
    excludes-equal c.args.one.now c.args.other.now (Compares on.first on.bound) (Compares on.second on.limit) on.is-0 on.is-1 (bounds-exclude on.first on.second on.bound on.limit (c.bound_excludes.ensures h))
