use Rattle.std.proofs.Common.{[]}
use Rattle.std.proofs.lemmas.List.Elements.{All-nil}
use Rattle.policy_model.specs.Soundness.{TestSuits}
use Rattle.policy_compile.specs.Plans.{tests_in}
use Rattle.policy_compile.specs.Sets.{query_plan}
use Rattle.policy_compile.proofs.Ranges.{All-collects, suit-query}
use Rattle.policy_compile.proofs.meaning.tests_of_queries_suit.Goals as goal

pub returns : goal.returns
returns c = λ schema first second tests fits also_fits collects.
    All-collects (TestSuits schema) [] (tests_in (query_plan schema first second)) tests collects (All-nil (TestSuits schema)) (suit-query schema first second fits also_fits)
