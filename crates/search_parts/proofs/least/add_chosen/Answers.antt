use Rattle.std.proofs.Common.{◌+◌, sym, ◌∙◌, subst, arith}
use Rattle.formula_tree.specs.Answers.{Answers}
use Rattle.search_parts.specs.Least.{AreChosenBelow}
use Rattle.search_parts.proofs.Adding.{ok-to}
use Rattle.search_parts.proofs.Choosing.{chosen-more, chosen-passed}
use Rattle.search_parts.proofs.least.add_chosen.Goals as goal

pub push-requires : goal.push-requires
push-requires c = c.requires.behind c.args.test (omega arith)

pub returns-in-Some : goal.returns-in-Some
returns-in-Some c =
    ok-to c.push.result
    (λ new. subst (λ (a : Answers). AreChosenBelow c.args.path.now c.args.first.now c.args.second.now (c.args.test + 1) a) (sym new)
    (chosen-more c.args.path.now c.args.first.now c.args.second.now c.args.test c.args.answers.now c.requires c.in-Some.answer (sym c.chosen_answer.ensures ∙ c.in-Some.is)))
    c.push.ensures.ok

pub returns-in-None : goal.returns-in-None
returns-in-None c =
    chosen-passed c.args.path.now c.args.first.now c.args.second.now c.args.test c.args.answers.now c.requires (sym c.chosen_answer.ensures ∙ c.in-None.is)
