use Rattle.policy_compile.proofs.Members.{part-asks}
use Rattle.policy_compile.proofs.limits.parts_ask_no_other_tests.Goals as goal

pub returns : goal.returns
returns c = λ schema set part among. part-asks schema set part among
