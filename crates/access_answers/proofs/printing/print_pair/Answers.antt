use Rattle.std.proofs.Common.{Bool, inl, inr, subst, sym, true, false}
use Rattle.command_words.specs.Asked.{texts_in}
use Rattle.run_inputs.specs.declared.printed.Printed.{Printed}
use Rattle.run_inputs.proofs.FileLaws.{or_answered_weaker}
use Rattle.summary_answers.specs.declared.subject.Subject.{Subject}
use Rattle.summary_answers.specs.Printed.{IsSubjectPrinted, status_by}
use Rattle.certified_summaries.specs.Certified.{IsSubjectCertified}
use Rattle.access_answers.specs.NewAccessPrinted.{IsNewAccessOfPair}
use Rattle.access_answers.proofs.Said.{of-certified, of-printed}
use Rattle.access_answers.proofs.printing.print_pair.Goals as goal

pub returns-then-certified : goal.returns-then-certified
returns-then-certified c =
    let names = texts_in c.args.names.now in
    let limits = c.args.limits in
    let pair = c.args.pair in
    let says : (p : Printed) → IsSubjectCertified status_by names limits c.subject_of_pair-subject.result p → IsNewAccessOfPair c.args.certified names limits pair p =
    λ p v. subst (λ (b : Bool). IsNewAccessOfPair b names limits pair p) (sym c.if-certified.true)
    (of-certified c.summaries_cover.ensures names limits pair c.requires.fitting p
    (subst (λ (s : Subject). IsSubjectCertified status_by names limits s p) c.subject_of_pair-subject.ensures.value v)) in
    or_answered_weaker c.print_findings_certified.result _ _ _ _ says says c.print_findings_certified.ensures

pub returns : goal.returns
returns c =
    let names = texts_in c.args.names.now in
    let limits = c.args.limits in
    let pair = c.args.pair in
    let says : (p : Printed) → IsSubjectPrinted status_by names limits c.subject_of_pair-subject.result p → IsNewAccessOfPair c.args.certified names limits pair p =
    λ p v. subst (λ (b : Bool). IsNewAccessOfPair b names limits pair p) (sym c.if-certified.false)
    (of-printed c.summaries_cover.ensures names limits pair c.requires.fitting p
    (subst (λ (s : Subject). IsSubjectPrinted status_by names limits s p) c.subject_of_pair-subject.ensures.value v)) in
    or_answered_weaker c.print_subject_findings.result _ _ _ _ says says c.print_subject_findings.ensures
