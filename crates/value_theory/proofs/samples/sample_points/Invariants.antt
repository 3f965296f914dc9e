use Rattle.std.proofs.Common.{◌≡◌, ◌++◌, take, All}
use Rattle.std.specs.List.{flat_map}
use Rattle.value_theory.specs.Meaning.{IsOfPlainKind}
use Rattle.value_theory.specs.Samples.{first_samples, samples_at}
use Rattle.value_theory.proofs.samples.sample_points.Given as goal

abbrev pub invariant-loop-cond : goal.invariant-loop-cond
invariant-loop-cond l = record {
  items : l.points ≡ first_samples l.fn.kind l.conds ++ flat_map samples_at (take l.cond-index l.conds);
  kinds : All (IsOfPlainKind l.fn.kind) l.points;
}
