use Rattle.std.proofs.Common.{◌∙◌, Bool, List, Option, ap, refl, sym}
use Rattle.tree_values.specs.Models.{answer_at}
use Rattle.tree_values.proofs.Agreeing.{changed-not}
use Rattle.tree_values.proofs.settling.change_to.Goals as goal

pub returns-then-is_same_answer-clause-changed : goal.returns-then-is_same_answer-clause-changed
returns-then-is_same_answer-clause-changed c =
    let read = ap (λ (t : List (Option Bool)). answer_at t c.args.test) c.as_slice.ensures.value in
    changed-not c.args.answers.now.items c.args.test c.args.answer (sym (c.answer_at.ensures ∙ read) ∙ c.if-is_same_answer.ensures.0 refl)
