use Rattle.policy_compile.specs.Sets.{set_plan}
use Rattle.policy_compile.proofs.Meanings.{holds-numbered, set-holds}
use Rattle.policy_compile.proofs.meaning.set_queries_allow.Goals as goal

pub returns : goal.returns
returns c = λ schema set r answers tree asks.
    let tree_says = holds-numbered answers r asks.tests asks.say (set_plan schema set) tree asks.numbered in
    let plan_says = set-holds schema r set asks.fits asks.valid in
    (λ e. plan_says.0 (tree_says.0 e), λ a. tree_says.1 (plan_says.1 a))
