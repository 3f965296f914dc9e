use Rattle.std.proofs.Common.{ℕ, Bool, List, All, false, refl, subst}
use Rattle.std.proofs.lemmas.List.{take_all}
use Rattle.std.proofs.lemmas.List.Elements.{All-more}
use Rattle.refute_check.specs.Labels.{IsAnswered}
use Rattle.search_parts.proofs.shortening.has_answers.Goals as goal

pub pairs-preserved : goal.pairs-preserved
pairs-preserved c =
    All-more (IsAnswered c.args.path.now) c.args.answers.now c.pairs.pair-index (0, false) c.pairs-test.true c.pairs.invariant (c.if-not-has_answer.ensures.0 refl)

pub returns : goal.returns
returns c = (
  λ yes. subst (λ (l : List (ℕ × Bool)). All (IsAnswered c.args.path.now) l) (take_all c.pairs.pair-index c.args.answers.now c.pairs-test.false) c.pairs.invariant,
  λ all. refl,
)
