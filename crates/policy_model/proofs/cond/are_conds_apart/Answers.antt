use Rattle.policy_model.proofs.Apart.{patterns-apart}
use Rattle.policy_model.proofs.cond.are_conds_apart.Goals as goal

pub returns-in-Matches-Matches : goal.returns-in-Matches-Matches
returns-in-Matches-Matches c h =
    patterns-apart c.args.one.now c.args.other.now c.in-Matches-Matches.first c.in-Matches-Matches.second c.in-Matches-Matches.is-0 c.in-Matches-Matches.is-1 (c.clashes.ensures.0 h)
