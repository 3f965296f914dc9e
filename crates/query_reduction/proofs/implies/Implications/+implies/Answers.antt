use Rattle.std.proofs.Common.{◌≡◌, ◌∙◌, ◌+◌, true, List, All, take, subst, sym, rules}
use Rattle.std.proofs.lemmas.List.{take_all}
use Rattle.std.proofs.lemmas.List.Elements.{All-more}
use Rattle.formula_nodes.specs.Standing.{node_trees}
use Rattle.formula_nodes.specs.declared.claim.Claim.{Claim}
use Rattle.test_relations.specs.Relations.{SchemaTests}
use Rattle.query_reduction.specs.Claims.{ClaimImplies}
use Rattle.query_reduction.proofs.Related.{never-implies, part-implied, some-implies}
use Rattle.query_reduction.proofs.Truth.{turned-implies}
use Rattle.query_reduction.proofs.implies.Implications.+implies.Goals as goal

pub implies-returns-then-is_always-clause-implied : goal.implies-returns-then-is_always-clause-implied
implies-returns-then-is_always-clause-implied t c = λ e.
    subst (λ (of : SchemaTests). ClaimImplies of (node_trees c.args.nodes.now) c.args.one c.args.other) c.test_implies.ensures.same (c.is_always.ensures c.if-is_always.true c.args.one)

pub implies-returns-then-is_always-2-clause-implied : goal.implies-returns-then-is_always-2-clause-implied
implies-returns-then-is_always-2-clause-implied t c = λ e.
    subst (λ (of : SchemaTests). ClaimImplies of (node_trees c.args.nodes.now) c.args.one c.args.other) c.test_implies.ensures.same
    (never-implies _ (node_trees c.args.nodes.now) c.args.one c.opposite.result c.args.other c.opposite.ensures.node c.opposite.ensures.holds (c.is_always-2.ensures c.if-is_always-2.true))

pub implies-returns-clause-implied : goal.implies-returns-clause-implied
implies-returns-clause-implied t c = λ e.
    subst (λ (of : SchemaTests). ClaimImplies of (node_trees c.args.nodes.now) c.args.one c.args.other) c.test_implies.ensures.same (c.part_implies.ensures.implied e)

pub implies_each-others-preserved : goal.implies_each-others-preserved
implies_each-others-preserved t c =
    let same = c.implies.ensures.same ∙ c.others.invariant.0 in
    let held : c.implies.result ≡ true = search rules in
    let P = λ (of : SchemaTests) (x : Claim). ClaimImplies of (node_trees c.args.nodes.now) c.args.one x in (
      same,
      subst (λ (of : SchemaTests). All (P of) (take (c.others.other-index + 1) c.args.others.now)) (sym c.implies.ensures.same)
          (All-more (P c.others.self.relations) c.args.others.now c.others.other-index _ c.others-test.true c.others.invariant.1 (c.implies.ensures.implied held)),
    )

pub implies_each-returns-clause-implied : goal.implies_each-returns-clause-implied
implies_each-returns-clause-implied t c = λ e.
    let P = λ (of : SchemaTests) (x : Claim). ClaimImplies of (node_trees c.args.nodes.now) c.args.one x in
    subst (λ (of : SchemaTests). All (P of) c.args.others.now) c.others.invariant.0
    (subst (λ (xs : List Claim). All (P c.others.self.relations) xs) (take_all c.others.other-index c.args.others.now c.others-test.false) c.others.invariant.1)

pub part_implies-returns-clause-implied : goal.part_implies-returns-clause-implied
part_implies-returns-clause-implied t c = λ e.
    turned-implies c.args.self.now.relations (node_trees c.args.nodes.now) c.args.one c.args.other c.opposite-3.result c.opposite-2.result
    c.opposite-3.ensures.node c.opposite-3.ensures.holds c.opposite-2.ensures.node c.opposite-2.ensures.holds
    (subst (λ (of : SchemaTests). ClaimImplies of (node_trees c.args.nodes.now) c.opposite-2.result c.opposite-3.result) c.some_implies.ensures.same (c.some_implies-2.ensures.implied e))

pub some_implies-returns-then-stands_in-clause-implied : goal.some_implies-returns-then-stands_in-clause-implied
some_implies-returns-then-stands_in-clause-implied t c = λ e.
    part-implied c.args.self.now.relations (node_trees c.args.nodes.now) c.args.one c.args.other c.in-Some.parts.now c.in-Some.ensures.same (c.stands_in.ensures c.if-stands_in.true)

pub some_implies-returns-then-implies-clause-implied : goal.some_implies-returns-then-implies-clause-implied
some_implies-returns-then-implies-clause-implied t c = λ e.
    let h = rw c.parts.invariant at (c.implies.ensures.implied c.if-implies.true) in
    some-implies c.args.self.now.relations (node_trees c.args.nodes.now) c.args.one c.args.other c.in-Some.parts.now c.parts.part-index _ c.in-Some.ensures.same c.parts-test.true h
