use Rattle.policy_compile.proofs.Ranges.{below-numbered}
use Rattle.policy_compile.proofs.meaning.numbers_are_below.Goals as goal

pub returns : goal.returns
returns c = λ plan tests tree numbered. below-numbered tests plan tree numbered
