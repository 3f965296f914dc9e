use Rattle.std.proofs.Common.{◌∙◌, ap, refl}
use Rattle.formula_tree.specs.Answers.{answer_of}
use Rattle.formula_tree.specs.Looks.{pick_in, look_of_tree}
use Rattle.formula_tree.specs.Trees.{tree_of}
use Rattle.formula_tree.proofs.Looking.{clause-unanswered, clause-unknown, clause-within, pick-is, value-is, waits-unanswered, waits-within}
use Rattle.formula_tree.proofs.value.pick.Goals as goal

pub returns : goal.returns
returns c =
    let path = c.args.path.now in
    let tree = tree_of c.args.formula.now in
    let look = look_of_tree (answer_of path) tree in
    record {
      value = c.pick_in.ensures ∙ ap pick_in c.look_at.ensures ∙ pick-is path (answer_of path) (λ n. refl) tree;
      unknown = rw (c.pick_in.ensures, c.look_at.ensures, ← (value-is path (answer_of path) (λ n. refl) tree)) (clause-unknown look);
      unanswered = rw (c.pick_in.ensures, c.look_at.ensures) (clause-unanswered (answer_of path) look (waits-unanswered (answer_of path) tree));
      within = rw (c.pick_in.ensures, c.look_at.ensures) (clause-within tree look (λ k n. waits-within (answer_of path) k tree n));
    }
