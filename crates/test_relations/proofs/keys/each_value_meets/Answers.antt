use Rattle.test_relations.proofs.Fitting.{texts-meet}
use Rattle.test_relations.proofs.keys.each_value_meets.Goals as goal

pub returns-in-Text-Matches : goal.returns-in-Text-Matches
returns-in-Text-Matches c h =
    let on = c.in-Text-Matches in
    texts-meet c.args.one.now c.args.rule.now on.pattern on.is-0 on.is-1 (c.matches_each.ensures h)
