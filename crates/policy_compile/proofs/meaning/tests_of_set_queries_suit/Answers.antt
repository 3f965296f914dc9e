use Rattle.std.proofs.Common.{[]}
use Rattle.std.proofs.lemmas.List.Elements.{All-nil}
use Rattle.policy_model.specs.Soundness.{TestSuits}
use Rattle.policy_compile.specs.Plans.{tests_in}
use Rattle.policy_compile.specs.Sets.{set_plan}
use Rattle.policy_compile.proofs.Ranges.{All-collects, suit-set}
use Rattle.policy_compile.proofs.meaning.tests_of_set_queries_suit.Goals as goal

pub returns : goal.returns
returns c = λ schema set tests fits collects.
    All-collects (TestSuits schema) [] (tests_in (set_plan schema set)) tests collects (All-nil (TestSuits schema)) (suit-set schema set fits)
