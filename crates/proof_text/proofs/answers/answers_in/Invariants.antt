use Rattle.std.specs.Option.{option_copied}
use Rattle.proof_text.specs.LineForms.{answer_said}
use Rattle.proof_text.specs.Steps.{is_answer_small, parts_left}
use Rattle.proof_text.proofs.Reading.{IsReadSoFar, rest_size}
use Rattle.proof_text.proofs.answers.answers_in.Given as goal

abbrev pub invariant-loop-rest : goal.invariant-loop-rest
invariant-loop-rest l = IsReadSoFar answer_said is_answer_small (parts_left 32 (option_copied l.fn.behind)) (parts_left 32 (option_copied l.rest)) l.large l.answers

abbrev pub decreases-loop-rest : goal.decreases-loop-rest
decreases-loop-rest l = rest_size (option_copied l.rest)
