use Rattle.std.proofs.Common.{All, IsSome, take}
use Rattle.formula_tree.specs.Answers.{answer_of}
use Rattle.search_parts.proofs.shortening.are_answered.Given as goal

abbrev pub invariant-tests : goal.invariant-tests
invariant-tests l = All (λ n. IsSome (answer_of l.path n)) (take l.test-index l.tests)
