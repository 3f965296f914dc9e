use Rattle.command_words.specs.Asked.{texts_in}
use Rattle.run_inputs.proofs.FileLaws.{or_answered_weaker}
use Rattle.reach_answers.proofs.Reaching.{outside-printed}
use Rattle.reach_answers.proofs.outside_zone.print_outside.Goals as goal

pub returns : goal.returns
returns c =
    let said = outside-printed c.zones_leave_the_outside.ensures c.zones_keep_schemas.ensures c.summaries_cover.ensures (texts_in c.args.names.now) c.args.limits c.args.one.now c.in_ok-left.left c.args.zone.now c.requires.takes c.in_ok-left.ensures.value in
    or_answered_weaker c.print_subject_findings.result _ _ _ _ said said c.print_subject_findings.ensures
