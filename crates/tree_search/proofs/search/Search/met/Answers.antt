use Rattle.std.proofs.Common.{Result, Ok, Err, IfOk}
use Rattle.policy_model.specs.declared.request.Request.{Request}
use Rattle.policy_compile.specs.Queries.{asked_tree}
use Rattle.refute_check.proofs.RunLaws.{makes-yes}
use Rattle.tree_search.proofs.search.Search.met.Goals as goal

from-both : {E : Type 0} (r : Result Request E) (P Q S : Request → Type 0) → ((q : Request) → P q → Q q → S q) → IfOk r P → IfOk r Q → IfOk r S
from-both (Ok q) P Q S f p h = f q p h
from-both (Err e) P Q S f p h = tt

pub returns : goal.returns
returns c =
    let query = c.args.self.now.query.now in
    from-both c.build.result _ _ _ (λ q valid says. record { valid = valid; answers = says; meets = makes-yes query.tests (asked_tree query) c.args.state.now.path q c.requires.carries.range says c.requires.yes }) c.build.ensures.valid c.build.ensures.answers
