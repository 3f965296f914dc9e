use Rattle.std.proofs.Common.{◌∷◌, [], List, subst}
use Rattle.policy_model.specs.declared.cond.Cond.{Cond}
use Rattle.strata.specs.declared.predicate.Predicate.{Predicate}
use Rattle.strata.specs.declared.predicate.Predicate.TheVariants.{Meets}
use Rattle.strata.specs.Predicates.{Gathers, gathers_none}
use Rattle.strata.proofs.Gathering.{flat-one, gathers-all, gathers-more}
use Rattle.strata.proofs.names.add_conds.Goals as goal

pub loop-cond-init : goal.loop-cond-init
loop-cond-init c = gathers_none

pub loop-cond-preserved : goal.loop-cond-preserved
loop-cond-preserved c =
    gathers-more (λ k. Meets k ∷ []) c.args.conds.now c.loop-cond.cond-index c.cond-item.result c.args.names.now.keys c.loop-cond.names.keys c.add.new.names.keys c.loop-cond-test.true c.cond-item.is c.loop-cond.invariant
    (subst (λ (k : Cond). Gathers c.loop-cond.names.keys (Meets k ∷ []) c.add.new.names.keys) c.in_ok-copied.ensures c.in_ok-add.ensures)

pub returns : goal.returns
returns c =
    subst (λ (ps : List Predicate). Gathers c.args.names.now.keys ps c.loop-cond.names.keys) (flat-one Meets c.args.conds.now)
    (gathers-all (λ k. Meets k ∷ []) c.args.conds.now c.loop-cond.cond-index c.args.names.now.keys c.loop-cond.names.keys c.loop-cond-test.false c.loop-cond.invariant)
