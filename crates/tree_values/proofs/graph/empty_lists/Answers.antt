use Rattle.std.proofs.Common.{◌∙◌, List, ℕ, [], length, ap, arith}
use Rattle.std.proofs.lemmas.List.{length_push}
use Rattle.tree_values.specs.Nodes.{list_at}
use Rattle.tree_values.proofs.Lists.{grown}
use Rattle.tree_values.proofs.graph.empty_lists.Goals as goal

pub lists-init : goal.lists-init
lists-init c = (ap (λ (ls : List (List ℕ)). length ls) c.new-lists.ensures.items, λ i. ap (λ (ls : List (List ℕ)). list_at ls i) c.new-lists.ensures.items)

pub lists-preserved : goal.lists-preserved
lists-preserved c = (
  omega (arith, ap (λ (ls : List (List ℕ)). length ls) c.in_ok-push.ensures.items, length_push c.lists.lists.items c.new.result, c.lists.invariant.0),
  λ i. grown c.lists.lists.items c.push.new.self.items c.new.result [] c.in_ok-push.ensures.items c.new.ensures i ∙ c.lists.invariant.1 i,
)

pub returns-clause-empty : goal.returns-clause-empty
returns-clause-empty c = c.lists.invariant.1
