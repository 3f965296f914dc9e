use Rattle.std.proofs.Common.{[]}
use Rattle.std.proofs.lemmas.List.Elements.{All-nil}
use Rattle.policy_compile.specs.Asked.{IsAskedBy, SomeStatementOf}
use Rattle.policy_compile.specs.Plans.{tests_in}
use Rattle.policy_compile.specs.Sets.{set_plan}
use Rattle.policy_compile.proofs.Ranges.{All-collects, set-asked}
use Rattle.policy_compile.proofs.limits.tests_come_from_elements.Goals as goal

pub returns : goal.returns
returns c = λ schema set tests collects.
    All-collects (λ t. SomeStatementOf (IsAskedBy schema t) set) [] (tests_in (set_plan schema set)) tests collects (All-nil (λ t. SomeStatementOf (IsAskedBy schema t) set)) (set-asked schema set)
