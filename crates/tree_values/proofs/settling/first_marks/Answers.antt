use Rattle.std.proofs.Common.{List, arith, ap, get_or, length, length-append, [], ◌∷◌, ◌+◌, sym, subst, ◌∙◌}
use Rattle.std.proofs.lemmas.Option.{slice_get-get_or}
use Rattle.tree_values.specs.Models.{answer_at}
use Rattle.tree_values.specs.Nodes.{node_seen}
use Rattle.tree_values.specs.declared.node.Node.TheVariants.{Yes}
use Rattle.formula_tree.specs.declared.looks.Look.{Look}
use Rattle.tree_values.proofs.Agreeing.{AreSettledBefore, before-all, before-next}
use Rattle.tree_values.proofs.settling.first_marks.Goals as goal

pub nodes-preserved : goal.nodes-preserved
nodes-preserved c =
    let nodes = c.args.nodes.now in
    let answers = answer_at c.args.answers.now in
    let marks = c.nodes.marks.items in
    let node = get_or nodes c.nodes.i Yes in
    let seen = c.node_seen-seen.result in (
      omega (arith, ap length c.in_ok-push.ensures.items, length-append marks (seen ∷ []), c.nodes.invariant.0),
      subst (λ (ms : List Look). AreSettledBefore nodes answers ms (c.nodes.i + 1)) (sym c.in_ok-push.ensures.items)
          (before-next nodes answers marks c.nodes.i node seen c.requires (slice_get-get_or nodes c.nodes.i Yes (omega arith)) c.nodes.invariant.0
          (c.node_seen-seen.ensures ∙ ap (λ (ms : List Look). node_seen answers ms node) c.as_slice.ensures.value) c.nodes.invariant.1),
    )

pub returns-clause-settled : goal.returns-clause-settled
returns-clause-settled c = before-all c.args.nodes.now (answer_at c.args.answers.now) c.nodes.marks.items c.nodes.i (omega arith) c.nodes.invariant.1
