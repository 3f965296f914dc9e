use Rattle.std.proofs.Common.{◌∷◌, [], take}
use Rattle.std.specs.List.{flat_map}
use Rattle.strata.specs.declared.predicate.Predicate.TheVariants.{Meets}
use Rattle.strata.specs.Predicates.{Gathers}
use Rattle.strata.proofs.names.add_conds.Given as goal

-- what is asked so far is named
abbrev pub invariant-loop-cond : goal.invariant-loop-cond
invariant-loop-cond l = Gathers l.initial.names.keys (flat_map (λ k. Meets k ∷ []) (take l.cond-index l.conds)) l.names.keys
