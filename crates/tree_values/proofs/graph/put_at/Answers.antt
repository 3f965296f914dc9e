use Rattle.std.proofs.Common.{List, ℕ, [], ◌∷◌, ◌++◌, ◌∙◌, ap}
use Rattle.std.proofs.lemmas.List.{get_or_read}
use Rattle.tree_values.proofs.Entering.{puts-at}
use Rattle.tree_values.proofs.graph.put_at.Goals as goal

pub returns-clause-put : goal.returns-clause-put
returns-clause-put c =
    let old = c.args.lists.now.items in
    let read = get_or_read old c.args.at c.index_mut.result.now c.requires c.index_mut.ensures.value [] in
    let add : List ℕ → List ℕ = λ xs. xs ++ c.args.number ∷ [] in
    puts-at old c.args.at c.args.number c.push.new.self c.requires (c.in_ok-push.ensures.ok ∙ ap add read)
