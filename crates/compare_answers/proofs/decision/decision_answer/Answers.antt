-- The search finds this unasked; asked for here, a wrong body is refused without a longer search.
use Rattle.std.proofs.Common.{rules}
use Rattle.compare_answers.proofs.decision.decision_answer.Goals as goal

pub returns-in-Refuted : goal.returns-in-Refuted
returns-in-Refuted c = search rules

pub returns-in-Met : goal.returns-in-Met
returns-in-Met c = search rules

pub returns-in-OutOfSplits : goal.returns-in-OutOfSplits
returns-in-OutOfSplits c = search rules

pub returns-in-OutOfStates : goal.returns-in-OutOfStates
returns-in-OutOfStates c = search rules
