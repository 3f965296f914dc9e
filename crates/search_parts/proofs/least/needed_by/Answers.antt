use Rattle.std.proofs.Common.{IfOk, subst}
use Rattle.formula_tree.specs.Answers.{Answers}
use Rattle.search_parts.specs.Least.{AreChosen}
use Rattle.search_parts.specs.Needs.{needs_list}
use Rattle.search_parts.proofs.least.needed_by.Goals as goal

pub returns-clause-chosen : goal.returns-clause-chosen
returns-clause-chosen c =
    let first = subst (λ (l : Answers). IfOk c.chosen.result (AreChosen c.args.path.now l c.listed-2.result.now)) c.listed.ensures c.chosen.ensures.chosen in
    subst (λ (l : Answers). IfOk c.chosen.result (AreChosen c.args.path.now (needs_list c.args.yes.now) l)) c.listed-2.ensures first
