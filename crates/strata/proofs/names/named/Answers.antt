use Rattle.std.proofs.Common.{◌∷◌, [], List, sym, subst}
use Rattle.strata.specs.declared.predicate.Predicate.{Predicate}
use Rattle.strata.specs.declared.predicate.Predicate.TheVariants.{Every}
use Rattle.strata.specs.Predicates.{Gathers, gathers_none, read_of}
use Rattle.strata.proofs.Gathering.{gathers-all, gathers-more, named-all}
use Rattle.strata.proofs.names.named.Goals as goal

pub loop-test-init : goal.loop-test-init
loop-test-init c = subst (λ (ps : List Predicate). Gathers (Every ∷ []) [] ps) (sym c.in_ok-names.ensures) gathers_none

pub loop-test-preserved : goal.loop-test-preserved
loop-test-preserved c =
    gathers-more (read_of c.args.slot.now) c.args.tests.now c.loop-test.test-index c.test-item.result (Every ∷ []) c.loop-test.names.keys c.add_read.new.names.keys c.loop-test-test.true c.test-item.is c.loop-test.invariant c.in_ok-add_read.ensures

pub returns : goal.returns
returns c =
    named-all c.args.slot.now c.args.tests.now c.loop-test.names.keys c.listed.result c.listed.ensures
    (gathers-all (read_of c.args.slot.now) c.args.tests.now c.loop-test.test-index (Every ∷ []) c.loop-test.names.keys c.loop-test-test.false c.loop-test.invariant)
