use Rattle.policy_model.specs.declared.cond.Cond.TheVariants.{Compares, Inside, Matches}
use Rattle.test_relations.proofs.Asking.{blocks-lead, bounds-lead, leads-equal, patterns-lead}
use Rattle.test_relations.proofs.conds.cond_leads.Goals as goal

pub returns-in-Matches-Matches : goal.returns-in-Matches-Matches
returns-in-Matches-Matches c h =
    let on = c.in-Matches-Matches in
    leads-equal c.args.one.now c.args.other.now (Matches on.first) (Matches on.second) on.is-0 on.is-1 (patterns-lead on.first on.second (c.covers.ensures.0 h))

pub returns-in-Compares-Compares : goal.returns-in-Compares-Compares
returns-in-Compares-Compares c h =
    let on = c.in-Compares-Compares in
    leads-equal c.args.one.now c.args.other.now (Compares on.first on.bound) (Compares on.second on.limit) on.is-0 on.is-1 (bounds-lead on.first on.second on.bound on.limit (c.bound_leads.ensures h))

pub returns-in-Inside-Inside : goal.returns-in-Inside-Inside
returns-in-Inside-Inside c h =
    let on = c.in-Inside-Inside in
    leads-equal c.args.one.now c.args.other.now (Inside on.first) (Inside on.second) on.is-0 on.is-1 (blocks-lead on.first on.second (c.block_leads.ensures h))
