use Rattle.std.proofs.Common.{◌≡◌, rules, true}
use Rattle.formula_nodes.specs.Standing.{node_trees}
use Rattle.set_questions.proofs.Excluded.{denied-known, known-all, known-more, one-fails}
use Rattle.set_questions.proofs.excluding.+is_known.Goals as goal

pub is_known-returns-then-is_denied : goal.is_known-returns-then-is_denied
is_known-returns-then-is_denied t c e = denied-known (node_trees c.args.nodes.now) c.args.denied.now c.args.claim (c.is_denied.ensures c.if-is_denied.true)

pub is_known-returns-in-All : goal.is_known-returns-in-All
is_known-returns-in-All t c e answers fail = (c.in-All.ensures.1 answers).1 (c.are_known.ensures e answers fail)

pub is_known-returns-in-OneOf : goal.is_known-returns-in-OneOf
is_known-returns-in-OneOf t c e answers fail = (c.in-OneOf.ensures.1 answers).1 (c.some_fails.ensures e answers fail)

pub are_known-claims-preserved : goal.are_known-claims-preserved
are_known-claims-preserved t c =
    let known : c.is_known.result ≡ true = search rules in
    known-more (node_trees c.args.nodes.now) c.args.denied.now c.args.claims.now c.claims.claim-index _ c.claims-test.true c.claims.invariant (c.is_known.ensures known)

pub are_known-returns : goal.are_known-returns
are_known-returns t c e = known-all (node_trees c.args.nodes.now) c.args.denied.now c.args.claims.now c.claims.claim-index c.claims-test.false c.claims.invariant

pub some_fails-returns-then-is_known : goal.some_fails-returns-then-is_known
some_fails-returns-then-is_known t c e = one-fails (node_trees c.args.nodes.now) c.args.denied.now c.args.claims.now c.claims.claim-index _ c.opposite.result c.claims-test.true c.opposite.ensures.node c.opposite.ensures.holds (c.is_known.ensures c.if-is_known.true)
