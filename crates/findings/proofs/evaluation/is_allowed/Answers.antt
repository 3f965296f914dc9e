use Rattle.std.proofs.Common.{List, subst}
use Rattle.policy_model.specs.declared.test.Test.{Test}
use Rattle.findings.specs.Judging.{AreAnswersOf}
use Rattle.findings.proofs.Evaluated.{allowed-told, range-lent}
use Rattle.findings.proofs.evaluation.is_allowed.Goals as goal

pub holds_by-requires : goal.holds_by-requires
holds_by-requires c =
    let are = subst (λ (ts : List Test). AreAnswersOf c.args.request.now ts c.in_ok-answers.answers.items) c.as_slice.ensures c.in_ok-answers.ensures in
    range-lent c.args.base.now c.args.request.now c.in_ok-answers.answers.items c.as_slice-2.result.now c.deref.result.now c.requires are c.as_slice-2.ensures.value c.deref.ensures

pub returns : goal.returns
returns c =
    let are = subst (λ (ts : List Test). AreAnswersOf c.args.request.now ts c.in_ok-answers.answers.items) c.as_slice.ensures c.in_ok-answers.ensures in
    allowed-told c.args.base.now c.args.request.now c.in_ok-answers.answers.items c.as_slice-2.result.now c.deref.result.now c.holds_by.result are c.as_slice-2.ensures.value c.deref.ensures c.holds_by.ensures
