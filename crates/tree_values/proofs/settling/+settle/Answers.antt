use Rattle.std.proofs.Common.{◌≡◌, ◌+◌, ◌++◌, ◌∙◌, List, ℕ, ap, arith, drop, get_or, length-set, refl, sym, subst, true}
use Rattle.std.proofs.lemmas.List.{drop_all, drop_more, get_or_read}
use Rattle.std.proofs.lemmas.Option.{slice_get-get_or, slice_get_within}
use Rattle.tree_values.specs.Models.{answer_at}
use Rattle.tree_values.specs.Nodes.{AreSettledBut, holds_number, list_at, node_seen}
use Rattle.tree_values.specs.declared.node.Node.TheVariants.{Yes}
use Rattle.formula_tree.specs.declared.looks.Look.{Look}
use Rattle.formula_tree.specs.declared.looks.Look.TheVariants as seen
use Rattle.tree_values.proofs.Agreeing.{settled-same, settled-write}
use Rattle.tree_values.proofs.Lists.{listed-at}
use Rattle.tree_values.proofs.settling.+settle.Goals as goal

pub returns-then-is_same-clause-settled : goal.returns-then-is_same-clause-settled
returns-then-is_same-clause-settled t c =
    let nodes = c.args.graph.now.nodes.items in
    let marks = c.args.marks.now.items in
    let index = c.args.index in
    let answers = answer_at c.args.answers.now in
    let node = get_or nodes index Yes in
    let read = get_or_read nodes index c.index.result.now c.requires.within c.index.ensures Yes in
    let is = c.node_seen-seen.ensures ∙ ap (λ (ms : List Look). node_seen answers ms c.index.result.now) c.as_slice.ensures.value ∙ ap (node_seen answers marks) read in
    let was = get_or_read marks index c.index-2.result.now (omega (arith, c.requires.within, c.requires.long)) c.index-2.ensures seen.Yes in
    settled-same nodes answers marks index node (slice_get-get_or nodes index Yes c.requires.within) (sym was ∙ sym (c.if-is_same.ensures.0 refl) ∙ is)

pub parents-init : goal.parents-init
parents-init t c = (length-set c.args.marks.now.items c.args.index c.node_seen-seen.result ∙ c.requires.long, λ pending but. but)

pub settle-requires : goal.settle-requires
settle-requires t c =
    let index = c.args.index in
    let items = c.list_at-parent-items.result.now in
    let k = c.parents.parent-index in
    let own = c.list_at-parent-items.ensures ∙ ap (λ (ls : List (List ℕ)). list_at ls index) c.as_slice-2.ensures.value in
    let up = c.requires.graph.later index (get_or items k 0) (listed-at items (list_at c.args.graph.now.parents.items index) k 0 own c.parents-test.true) in
    (omega (arith, up.0, up.1), (c.requires.graph, (up.1, c.parents.invariant.0)))

pub parents-preserved : goal.parents-preserved
parents-preserved t c =
    let nodes = c.args.graph.now.nodes.items in
    let answers = answer_at c.args.answers.now in
    let items = c.list_at-parent-items.result.now in
    let k = c.parents.parent-index in (
      c.settle.ensures.long,
      λ pending but.
          c.settle.ensures.settled (drop (k + 1) items ++ pending) (subst (λ (xs : List ℕ). AreSettledBut nodes answers c.parents.marks.items (xs ++ pending)) (drop_more items k 0 c.parents-test.true) (c.parents.invariant.1 pending but)),
    )

pub returns-clause-settled : goal.returns-clause-settled
returns-clause-settled t c =
    let nodes = c.args.graph.now.nodes.items in
    let marks = c.args.marks.now.items in
    let index = c.args.index in
    let answers = answer_at c.args.answers.now in
    let node = get_or nodes index Yes in
    let items = c.list_at-parent-items.result.now in
    let k = c.parents.parent-index in
    let read = get_or_read nodes index c.index.result.now c.requires.within c.index.ensures Yes in
    let is = c.node_seen-seen.ensures ∙ ap (λ (ms : List Look). node_seen answers ms c.index.result.now) c.as_slice.ensures.value ∙ ap (node_seen answers marks) read in
    let own = c.list_at-parent-items.ensures ∙ ap (λ (ls : List (List ℕ)). list_at ls index) c.as_slice-2.ensures.value in
    λ pending but.
    subst (λ (xs : List ℕ). AreSettledBut nodes answers c.parents.marks.items (xs ++ pending)) (drop_all k items (omega arith))
    (c.parents.invariant.1 pending
    (settled-write nodes answers marks index node c.node_seen-seen.result items (slice_get-get_or nodes index Yes c.requires.within) is (omega (arith, c.requires.within, c.requires.long))
    (λ i n there child. subst (λ (xs : List ℕ). holds_number xs i ≡ true) (sym own) (c.requires.graph.up i index n (slice_get_within nodes i n there) there child)) pending but))
