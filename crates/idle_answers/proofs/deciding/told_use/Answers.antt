-- The search finds this unasked; asked for here, a wrong body is refused without a longer search.
use Rattle.std.proofs.Common.{rules}
use Rattle.idle_answers.proofs.deciding.told_use.Goals as goal

pub returns-in-Used : goal.returns-in-Used
returns-in-Used c = search rules

pub returns-in-Idle : goal.returns-in-Idle
returns-in-Idle c = search rules

pub returns-in-OutOfSplits : goal.returns-in-OutOfSplits
returns-in-OutOfSplits c = search rules

pub returns-in-OutOfStates : goal.returns-in-OutOfStates
returns-in-OutOfStates c = search rules
