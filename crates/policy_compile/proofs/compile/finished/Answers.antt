use Rattle.policy_compile.proofs.Finishing.{no-formula, query-made}
use Rattle.policy_compile.proofs.compile.finished.Goals as goal

pub returns-in_err-formula : goal.returns-in_err-formula
returns-in_err-formula c = λ plan makes.
    no-formula c.args.builder plan c.args.index c.from_residual.result c.in_err-formula.field-0.0 makes c.args.builder.few c.from_residual.ensures.1 c.in_err-formula.ensures

pub returns : goal.returns
returns c = λ plan makes. query-made c.args.builder plan c.args.index c.in_ok-formula.formula c.in_ok-tests.tests makes c.in_ok-formula.ensures c.in_ok-tests.ensures c.args.builder.few
