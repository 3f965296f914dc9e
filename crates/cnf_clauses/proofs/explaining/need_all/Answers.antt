use Rattle.std.proofs.Common.{refl}
use Rattle.cnf_clauses.proofs.Marking.{needs-none, needs-step, needs-end}
use Rattle.cnf_clauses.proofs.explaining.need_all.Goals as goal

pub literals-init : goal.literals-init
literals-init c = needs-none c.args.needed.now.items

pub literals-preserved : goal.literals-preserved
literals-preserved c =
    needs-step c.args.literals.now c.literals.literal-index _ _ c.args.needed.now.items c.literals.needed.items c.fill_to.new.items.items c.literals-test.true refl
    c.literals.invariant c.in_ok-fill_to.ensures.same c.in_ok-fill_to.ensures.room

pub returns : goal.returns
returns c = needs-end c.args.literals.now c.literals.literal-index c.args.needed.now.items c.literals.needed.items c.literals-test.false c.literals.invariant
