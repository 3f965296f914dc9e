use Rattle.std.proofs.Common.{length, refl}
use Rattle.formula_tree.specs.Runs.{unanswered_count}
use Rattle.refute_check.proofs.Existing.{some-propagated}
use Rattle.refute_check.proofs.runs.paths_have_propagated_runs.Goals as goal

pub returns : goal.returns
returns c = λ schema tests tree path below never. some-propagated schema tests tree below (unanswered_count path (length tests)) path refl never
