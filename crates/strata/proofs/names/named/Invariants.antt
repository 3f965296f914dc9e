use Rattle.std.proofs.Common.{◌∷◌, [], take}
use Rattle.std.specs.List.{flat_map}
use Rattle.strata.specs.declared.predicate.Predicate.TheVariants.{Every}
use Rattle.strata.specs.Predicates.{Gathers, read_of}
use Rattle.strata.proofs.names.named.Given as goal

-- what the tests so far name is named
abbrev pub invariant-loop-test : goal.invariant-loop-test
invariant-loop-test l = Gathers (Every ∷ []) (flat_map (read_of l.slot) (take l.test-index l.tests)) l.names.keys
