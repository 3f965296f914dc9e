use Rattle.std.proofs.Common.{◌≡◌, ◌<◌, List, length, refl, sym, ap, ◌∙◌, subst}
use Rattle.formula_nodes.specs.Claims.{AreClaimsOf}
use Rattle.formula_nodes.specs.Standing.{node_trees}
use Rattle.formula_nodes.specs.declared.claim.Claim.{Claim}
use Rattle.policy_model.specs.Soundness.{SchemaFits}
use Rattle.policy_model.specs.declared.set.StatementName.{StatementName}
use Rattle.policy_compile.specs.Queries.{asked_tree}
use Rattle.set_questions.specs.Changes.{IsListedAt, SchemaSet, other_claims}
use Rattle.set_questions.specs.Laws.{DecidesUse}
use Rattle.set_questions.proofs.Making.{asked-within}
use Rattle.set_questions.proofs.UseClaims.{change-there, changes-stay, claim-there, use-tree}
use Rattle.set_questions.proofs.Using.{asked-decides}
use Rattle.set_questions.proofs.changes.Changes.query_of.Goals as goal

pub other_claims-requires-clause-asked : goal.other_claims-requires-clause-asked
other_claims-requires-clause-asked c =
    let s = c.self.inside in
    subst (λ (ws : List Claim). c.in-Some.place.asked < length ws) (sym c.as_slice-3.ensures) (asked-within s.schema.now s.set.now s.query.now.tests (node_trees s.nodes) s.claims s.wholes c.self.invariant.claimed c.in-Some.place.asked c.in-Some-get.own.now (sym c.in-Some-get.ensures))

pub joint-requires-clause-there : goal.joint-requires-clause-there
joint-requires-clause-there c =
    let s = c.self.inside in
    let own = c.in-Some-get.own.now in
    let there = change-there s.schema.now s.set.now s.query.now.tests (node_trees s.nodes) s.claims s.wholes c.self.invariant.claimed c.in-Some.place.asked c.in-Some.place.index own (sym c.in-Some-get.ensures)
    (other_claims own s.wholes c.in-Some.place.asked c.in-Some.place.index) refl in
    claim-there (node_trees s.nodes) own c.in-Some.place.index c.in-Some-get-2.one.now there.0 (sym c.in-Some-get-2.ensures)

pub joint-requires-clause-all_there : goal.joint-requires-clause-all_there
joint-requires-clause-all_there c =
    let s = c.self.inside in
    let own = c.in-Some-get.own.now in
    let are : c.as_slice-4.result.now ≡ other_claims own s.wholes c.in-Some.place.asked c.in-Some.place.index =
    c.as_slice-4.ensures ∙ c.in_ok-others.ensures ∙ ap (λ (cs : List Claim). other_claims cs c.as_slice-3.result.now c.in-Some.place.asked c.in-Some.place.index) c.as_slice-2.ensures
    ∙ ap (λ (cs : List Claim). other_claims own cs c.in-Some.place.asked c.in-Some.place.index) c.as_slice-3.ensures in
    (change-there s.schema.now s.set.now s.query.now.tests (node_trees s.nodes) s.claims s.wholes c.self.invariant.claimed c.in-Some.place.asked c.in-Some.place.index own (sym c.in-Some-get.ensures) c.as_slice-4.result.now are).1

pub invariant_of-self : goal.invariant_of-self
invariant_of-self c =
    changes-stay c.self.inside.schema.now c.self.inside.set.now c.self.inside.query.now c.self.inside.reducer c.joint.new.reducer (node_trees c.self.inside.nodes) (node_trees c.joint.new.nodes) c.self.inside.names c.self.inside.claims c.self.inside.wholes
    c.joint.ensures.same c.joint.ensures.grows c.joint.ensures.tests c.self.invariant

pub invariant_of-self-in_err-query : goal.invariant_of-self-in_err-query
invariant_of-self-in_err-query c =
    changes-stay c.self.inside.schema.now c.self.inside.set.now c.self.inside.query.now c.self.inside.reducer c.joint.new.reducer (node_trees c.self.inside.nodes) (node_trees c.joint.new.nodes) c.self.inside.names c.self.inside.claims c.self.inside.wholes
    c.joint.ensures.same c.joint.ensures.grows c.joint.ensures.tests c.self.invariant

pub invariant_of-self-2 : goal.invariant_of-self-2
invariant_of-self-2 c =
    changes-stay c.self.inside.schema.now c.self.inside.set.now c.self.inside.query.now c.self.inside.reducer c.joint.new.reducer (node_trees c.self.inside.nodes) (node_trees c.joint.new.nodes) c.self.inside.names c.self.inside.claims c.self.inside.wholes
    c.joint.ensures.same c.joint.ensures.grows c.joint.ensures.tests c.self.invariant

pub returns-clause-decides : goal.returns-clause-decides
returns-clause-decides c =
    let s = c.self.inside in
    let own = c.in-Some-get.own.now in
    let are : c.as_slice-4.result.now ≡ other_claims own s.wholes c.in-Some.place.asked c.in-Some.place.index =
    c.as_slice-4.ensures ∙ c.in_ok-others.ensures ∙ ap (λ (cs : List Claim). other_claims cs c.as_slice-3.result.now c.in-Some.place.asked c.in-Some.place.index) c.as_slice-2.ensures
    ∙ ap (λ (cs : List Claim). other_claims own cs c.in-Some.place.asked c.in-Some.place.index) c.as_slice-3.ensures in
    let new = node_trees c.joint.new.nodes in
    let later = changes-stay s.schema.now s.set.now s.query.now s.reducer s.reducer (node_trees s.nodes) new s.names s.claims s.wholes refl c.joint.ensures.grows c.joint.ensures.tests c.self.invariant in
    let fits : SchemaFits s.schema.now s.set.now = subst (λ (v : SchemaSet). SchemaFits v.schema v.set) (sym c.self.view_is) c.requires in
    let listed : IsListedAt s.names c.args.name c.in-Some.place.asked c.in-Some.place.index = subst (λ (ns : List (List StatementName)). IsListedAt ns c.args.name c.in-Some.place.asked c.in-Some.place.index) c.as_slice.ensures c.in-Some.ensures in
    let q = c.in_ok-query.query in
    let tells = use-tree s.schema.now s.set.now s.query.now s.reducer new s.names s.claims s.wholes later fits c.args.name c.in-Some.place.asked c.in-Some.place.index listed own (sym c.in-Some-get.ensures) c.in-Some-get-2.one.now (sym c.in-Some-get-2.ensures)
    c.as_slice-4.result.now are c.in_ok-claim.claim c.in_ok-claim.ensures.joint q.tests (asked_tree q) c.in_ok-query.ensures.tests c.in_ok-query.ensures.tree in
    subst (λ (v : SchemaSet). DecidesUse v.schema v.set c.args.name q) c.self.view_is
    (asked-decides c.tests_of_set_queries_suit.ensures s.schema.now s.set.now s.query.now c.self.invariant.asked fits c.args.name q c.in_ok-query.ensures.tests tells)
