use Rattle.std.proofs.Common.{subst}
use Rattle.command_words.specs.Asked.{texts_in}
use Rattle.run_inputs.specs.declared.printed.Printed.{Printed}
use Rattle.run_inputs.proofs.FileLaws.{or_answered_weaker}
use Rattle.summary_answers.specs.declared.subject.Subject.{Subject}
use Rattle.summary_answers.specs.declared.limits.TheConstants.{MOST_CHANGE_PREDICATES}
use Rattle.summary_answers.specs.Subjects.{subject_of_pair}
use Rattle.certified_summaries.specs.Judged.{IsSubjectChecked}
use Rattle.access_answers.specs.NewAccessChecked.{IsNewAccessJudged}
use Rattle.access_answers.proofs.Changes.{has-all}
use Rattle.access_answers.proofs.check.print_pair_check.Goals as goal

pub returns : goal.returns
returns c =
    let names = texts_in c.args.names.now in
    let states = c.args.states in
    let bytes = c.args.proof.now in
    let pair = c.args.pair in
    let says : (p : Printed) → IsSubjectChecked names MOST_CHANGE_PREDICATES states bytes c.subject_of_pair-subject.result p → IsNewAccessJudged names states bytes pair p =
    λ p v.
    let checked : IsSubjectChecked names MOST_CHANGE_PREDICATES states bytes (subject_of_pair pair) p =
    subst (λ (s : Subject). IsSubjectChecked names MOST_CHANGE_PREDICATES states bytes s p) c.subject_of_pair-subject.ensures.value v in
    record { checked = checked; sound = λ holds. has-all names states bytes pair c.requires.fitting p holds checked } in
    or_answered_weaker c.print_subject_checked.result _ _ _ _ says says c.print_subject_checked.ensures
