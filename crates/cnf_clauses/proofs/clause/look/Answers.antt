use Rattle.cnf_clauses.proofs.Scanning.{nothing-found, look-step, look-stop, look-end}
use Rattle.cnf_clauses.proofs.clause.look.Goals as goal

pub look-init : goal.look-init
look-init c = nothing-found c.args.decided.now

pub returns-in-Open : goal.returns-in-Open
returns-in-Open c =
    look-stop c.args.decided.now c.args.literals.now _ c.found_after-found.result c.in-Open.is
    (look-step c.args.decided.now c.args.literals.now c.look.literal-index _ c.look.found c.found_after-found.result c.value.result c.look-test.true c.value.ensures c.found_after-found.ensures c.look.invariant)

pub look-preserved : goal.look-preserved
look-preserved c =
    look-step c.args.decided.now c.args.literals.now c.look.literal-index _ c.look.found c.found_after-found.result c.value.result c.look-test.true c.value.ensures c.found_after-found.ensures c.look.invariant

pub returns : goal.returns
returns c = look-end c.args.decided.now c.args.literals.now c.look.literal-index c.look.found c.look-test.false c.look.invariant
