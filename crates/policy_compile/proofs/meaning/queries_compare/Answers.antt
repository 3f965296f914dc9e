use Rattle.policy_compile.specs.Sets.{query_plan}
use Rattle.policy_compile.proofs.Meanings.{holds-numbered, query-holds}
use Rattle.policy_compile.proofs.meaning.queries_compare.Goals as goal

pub returns : goal.returns
returns c = λ schema first second r answers tree asks.
    let tree_says = holds-numbered answers r asks.tests asks.say (query_plan schema first second) tree asks.numbered in
    let plan_says = query-holds schema r first second asks.first_fits asks.second_fits asks.valid in
    (λ e. plan_says.0 (tree_says.0 e), λ a. tree_says.1 (plan_says.1 a))
