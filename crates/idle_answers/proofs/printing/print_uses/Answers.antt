use Rattle.std.proofs.Common.{if◌then◌else◌, inr, ap, ◌∙◌}
use Rattle.std.specs.List.{list_any}
use Rattle.run_inputs.specs.declared.status.Status.TheVariants as status
use Rattle.idle_answers.specs.UseTexts.{is_undecided}
use Rattle.idle_answers.proofs.printing.print_uses.Goals as goal

pub returns : goal.returns
returns c =
    let told = c.in_ok-told.told in
    let written = c.in_ok-told.ensures in
    inr (record {
      within = c.in_ok-query.ensures.within;
      has_request = c.sound_schemas_have_requests.ensures c.args.one.now.schema c.requires.fitting.sound;
      answers = written.answers;
      are = written.are;
      prints = (
        written.text,
        c.told_status-status.ensures
            ∙ ap (λ b. (if b then status.Undecided else (if told.idle then status.Fails else status.Holds))) written.undecided
            ∙ ap (λ b. (if list_any is_undecided written.answers then status.Undecided else (if b then status.Fails else status.Holds))) written.idle,
      );
    })
