use Rattle.std.proofs.Common.{◌<◌, ℕ, List, Some, [], length, get_or, ap, arith, inr, refl, subst, sym, ◌∙◌}
use Rattle.std.proofs.lemmas.Option.{slice_get-get_or}
use Rattle.formula_tree.specs.Trees.{tree_of}
use Rattle.refute_check.proofs.Laws.{fails-within}
use Rattle.refute_check.specs.Closing.{at_first}
use Rattle.refute_check.specs.Proofs.{proof_of, size}
use Rattle.refute_check.specs.Verdicts.{IsVerdict}
use Rattle.refute_check.specs.declared.refutation.Refutation.{Refutation}
use Rattle.refute_check.specs.declared.verdict.Verdict.{Verdict}
use Rattle.refute_check.specs.declared.verdict.Verdict.TheVariants.{Fails}
use Rattle.refute_check.specs.Queries.{FailsAll}
use Rattle.certified_summaries.proofs.check.print_closing.Goals as goal

pub bounds-as_slice-node : goal.bounds-as_slice-node
bounds-as_slice-node c =
    let schema = c.args.schema.now in
    let query = c.args.query.now in
    let proof = proof_of c.args.read.now.refutation.value in
    let there : IsVerdict schema query c.deref.result.now (Fails c.in-Fails.node) = subst (λ (v : Verdict). IsVerdict schema query c.deref.result.now v) c.in-Fails.is c.in_ok-check.ensures in
    let fails : FailsAll schema query proof c.in-Fails.node = subst (λ (r : Refutation). IsVerdict schema query r (Fails c.in-Fails.node)) c.deref.ensures there in
    let within : c.in-Fails.node < size proof = fails-within schema query.tests (tree_of query.formula.value) at_first proof [] c.in-Fails.node fails in
    omega (arith, within, c.requires.lines, ap length c.as_slice.ensures)

pub returns-in_ok-not_closing_line-in-Fails : goal.returns-in_ok-not_closing_line-in-Fails
returns-in_ok-not_closing_line-in-Fails c =
    let schema = c.args.schema.now in
    let query = c.args.query.now in
    let node = c.in-Fails.node in
    let lines = c.args.read.now.lines in
    let proof = proof_of c.args.read.now.refutation.value in
    let there : IsVerdict schema query c.deref.result.now (Fails node) = subst (λ (v : Verdict). IsVerdict schema query c.deref.result.now v) c.in-Fails.is c.in_ok-check.ensures in
    let fails : FailsAll schema query proof node = subst (λ (r : Refutation). IsVerdict schema query r (Fails node)) c.deref.ensures there in
    let within : node < size proof = fails-within schema query.tests (tree_of query.formula.value) at_first proof [] node fails in
    let here : node < length lines = omega (arith, within, c.requires.lines) in
    inr (node, _, fails, slice_get-get_or lines node 0 here ∙ ap (λ (ls : List ℕ). Some (get_or ls node 0)) (sym c.as_slice.ensures), (c.in_ok-not_closing_line-in-Fails.ensures, refl))
