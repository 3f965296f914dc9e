use Rattle.std.proofs.Common.{◌≡◌, [], IfOk, sym, subst}
use Rattle.std.proofs.lemmas.Option.{get_or_from_slice_get}
use Rattle.formula_tree.specs.Answers.{Answers}
use Rattle.search_parts.proofs.leaves.stored.Goals as goal

pub returns : goal.returns
returns c =
    subst (λ (x : Answers). IfOk c.copy.result (λ answers. answers ≡ x)) (sym (get_or_from_slice_get c.args.learned.now.lists c.args.number c.at.result.now [] c.at.ensures)) c.copy.ensures
