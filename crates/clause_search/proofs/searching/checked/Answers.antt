use Rattle.policy_compile.specs.Queries.{asked_tree}
use Rattle.clause_proofs.proofs.Cited.{clausal_refute}
use Rattle.clause_search.proofs.searching.checked.Goals as goal

pub returns-then-branch : goal.returns-then-branch
returns-then-branch c =
    let a = c.args.asked.now in
    clausal_refute a.schema.now a.query.now.tests (asked_tree a.query.now) c.as_slice-lines.result.now c.requires.ready.below (c.in_ok-refutes.ensures.0 c.if-branch.true)
