use Rattle.std.proofs.Common.{Bool, List, sym, subst}
use Rattle.std.proofs.lemmas.Result.{IfOk-weaker}
use Rattle.std.proofs.lemmas.List.Elements.{All-push}
use Rattle.formula_nodes.specs.Claims.{AreClaimsOf, IsClaimOf}
use Rattle.formula_nodes.specs.Standing.{node_trees}
use Rattle.formula_nodes.proofs.Laws.{stay-claims, stays-claim}
use Rattle.query_reduction.specs.Reducers.{ClaimsAgree}
use Rattle.test_relations.specs.Relations.{SchemaTests}
use Rattle.set_questions.specs.Cutting.{AreLeftOf}
use Rattle.set_questions.proofs.Cut.{left-agree}
use Rattle.set_questions.proofs.UseClaims.{joint-is}
use Rattle.set_questions.proofs.changes.joint.Goals as goal

pub all-requires : goal.all-requires
all-requires c =
    let base = node_trees c.left_of.new.nodes in
    subst (AreClaimsOf base) (sym c.in_ok-push.ensures.ok)
    (All-push (IsClaimOf base) c.in_ok-left.left c.args.one c.in_ok-left.ensures.left.0 (stays-claim (node_trees c.args.nodes.now) base c.args.one c.left_of.ensures.grows c.requires.there))

pub returns-clause-tests : goal.returns-clause-tests
returns-clause-tests c t below = c.reduced.ensures.asks t (c.all.ensures.tests t (c.left_of.ensures.tests t below))

pub returns-clause-joint : goal.returns-clause-joint
returns-clause-joint c =
    let of = c.args.reducer.now in
    let old = node_trees c.args.nodes.now in
    let base = node_trees c.left_of.new.nodes in
    let mid = node_trees c.all.new.self in
    let new = node_trees c.reduced.new.nodes in
    let one = c.args.one in
    let others = c.args.others.now in
    let left = c.in_ok-left.left in
    let denied = c.in_ok-denied.denied.items in
    let grows = c.left_of.ensures.grows in
    let are : AreLeftOf base denied others left = subst (λ (bs : List Bool). AreLeftOf base bs others left) c.as_slice.ensures.value c.in_ok-left.ensures.left in
    IfOk-weaker c.reduced.result _ _
    (λ claim agree. joint-is of base mid new one others left c.push.new.self c.in_ok-whole.whole claim c.all.ensures.grows c.reduced.ensures.grows
    (stays-claim old base one grows c.requires.there) (stay-claims old base others grows c.requires.all_there) are.0
    (left-agree of old base one denied others left grows c.requires.there c.in_ok-denied.ensures.count c.in_ok-denied.ensures.denied are)
    c.in_ok-push.ensures.ok c.in_ok-whole.ensures.each
    (subst (λ (x : SchemaTests). ClaimsAgree x.schema x.tests new c.in_ok-whole.whole claim) c.in_ok-denied.ensures.same agree))
    c.reduced.ensures.agree
