use Rattle.std.proofs.Common.{◌↔◌, IsTrue, All, subst}
use Rattle.formula_tree.specs.Answers.{Answers}
use Rattle.refute_check.specs.Labels.{IsAnswered}
use Rattle.search_parts.proofs.Fewer.{stored-in}
use Rattle.search_parts.proofs.shortening.Shortening.has_stored.Goals as goal

pub returns : goal.returns
returns c =
    let says = subst (λ (l : Answers). IsTrue c.has_answers.result ↔ All (IsAnswered c.args.path.now) l) c.as_slice.ensures.value c.has_answers.ensures in
    stored-in c.args.self.now.learned.now.lists c.args.number c.at.result.now c.args.path.now c.has_answers.result c.at.ensures c.as_slice.ensures.distinct says
