use Rattle.std.proofs.Common.{All, take}
use Rattle.refute_check.specs.Labels.{IsAnswered}
use Rattle.search_parts.proofs.shortening.has_answers.Given as goal

abbrev pub invariant-pairs : goal.invariant-pairs
invariant-pairs l = All (IsAnswered l.path) (take l.pair-index l.answers)
