use Rattle.std.proofs.Common.{◌≡◌, ◌∙◌, List, ℕ, Bool, Option, ap, true, set, sym, subst, rules}
use Rattle.std.proofs.lemmas.Option.{slice_get_within}
use Rattle.tree_values.specs.Models.{answer_at}
use Rattle.tree_values.specs.Nodes.{AreSettled, AreSettledBut, holds_number, list_at}
use Rattle.tree_values.proofs.Agreeing.{changed-set, settled-answer}
use Rattle.tree_values.proofs.Lists.{listed-at}
use Rattle.tree_values.proofs.settling.change.Goals as goal

pub settle_all-requires-clause-within : goal.settle_all-requires-clause-within
settle_all-requires-clause-within c =
    let own = c.list_at-leaves.ensures ∙ ap (λ (ls : List (List ℕ)). list_at ls c.args.test) c.as_slice.ensures.value in
    let leaves = c.list_at-leaves.result.now in
    λ k d lt. c.requires.graph.there c.args.test _ (listed-at leaves (list_at c.args.graph.now.leaves.items c.args.test) k d own lt)

pub returns-clause-settled : goal.returns-clause-settled
returns-clause-settled c =
    let nodes = c.args.graph.now.nodes.items in
    let old = c.args.answers.now.items in
    let new = set old c.args.test c.args.answer in
    let leaves = c.list_at-leaves.result.now in
    let own = c.list_at-leaves.ensures ∙ ap (λ (ls : List (List ℕ)). list_at ls c.args.test) c.as_slice.ensures.value in
    let but = settled-answer nodes old new c.args.marks.now.items c.args.test c.args.answer leaves (changed-set old c.args.test c.args.answer c.requires.room)
    (λ i n there h. subst (λ (xs : List ℕ). holds_number xs i ≡ true) (sym own) (c.requires.graph.asked i c.args.test n (slice_get_within nodes i n there) there h)) c.requires.settled in
    let given = subst (λ (t : List (Option Bool)). AreSettledBut nodes (answer_at t) c.args.marks.now.items leaves) (sym c.as_slice-2.ensures.value) but in
    subst (λ (t : List (Option Bool)). AreSettled nodes (answer_at t) c.settle_all.new.marks.items) c.as_slice-2.ensures.value (c.settle_all.ensures.settled given)

pub returns-clause-changed : goal.returns-clause-changed
returns-clause-changed c = search rules
