use Rattle.std.proofs.Common.{◌∙◌, ap}
use Rattle.tree_values.specs.Models.{answer_at, answered_tree}
use Rattle.formula_tree.specs.Looks.{pick_in, look_of_tree}
use Rattle.formula_tree.proofs.Laws.{clause-unanswered, clause-unknown, clause-within, pick-is, value-is, waits-unanswered, waits-within}
use Rattle.tree_values.proofs.tree_values.TreeValues.pick.Goals as goal

pub returns : goal.returns
returns c =
    let answers = answer_at c.args.self.now.answers in
    let tree = answered_tree c.args.self.now in
    let seen = look_of_tree answers tree in
    let is = c.seen.ensures in
    record {
      value = λ path same. c.pick_in.ensures ∙ ap pick_in is ∙ pick-is path answers same tree;
      unknown = λ path same. rw (c.pick_in.ensures, is, ← (value-is path answers same tree)) (clause-unknown seen);
      unanswered = rw (c.pick_in.ensures, is) (clause-unanswered answers seen (waits-unanswered answers tree));
      within = rw (c.pick_in.ensures, is) (clause-within tree seen (λ k n. waits-within answers k tree n));
    }
