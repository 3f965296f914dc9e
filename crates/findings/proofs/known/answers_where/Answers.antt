use Rattle.std.proofs.Common.{List, ◌∙◌, subst, sym}
use Rattle.std.specs.Prelude.{IfOk}
use Rattle.policy_model.specs.declared.test.Test.{Test}
use Rattle.findings.specs.KnownAnswers.{AnswersTests}
use Rattle.findings.proofs.Saying.{says-none, says-read}
use Rattle.findings.proofs.known.answers_where.Goals as goal

pub returns-in_default : goal.returns-in_default
returns-in_default c = says-none c.args.schema.now c.args.met c.args.slot.now c.args.one.now c.args.less.now.query.tests c.new.result c.new.ensures

pub returns : goal.returns
returns c =
    let told = subst (λ (ts : List Test). IfOk c.path_of.result (AnswersTests c.args.schema.now c.in-Some.test c.args.met ts)) c.as_slice-tests.ensures c.path_of.ensures in
    says-read c.args.schema.now c.args.met c.args.slot.now c.args.one.now c.args.less.now.query.tests c.path_of.result c.in-Some.test (sym c.in_ok-test.ensures ∙ c.in-Some.is) told
