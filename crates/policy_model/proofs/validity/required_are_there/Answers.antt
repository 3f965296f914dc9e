use Rattle.std.proofs.Common.{◌≡◌, [], All, refl, rules, subst, sym}
use Rattle.std.proofs.lemmas.List.Elements.{All-nil}
use Rattle.text_table.proofs.Laws.{walk-next, walk-stops}
use Rattle.policy_model.specs.Requests.{IsThere}
use Rattle.policy_model.proofs.validity.required_are_there.Goals as goal

pub loop-key-preserved : goal.loop-key-preserved
loop-key-preserved c = walk-next (IsThere c.args.context.now) _ _ _ _ c.in-Some.ensures.steps c.loop-key.invariant (search rules)

pub returns-then-not-is_there : goal.returns-then-not-is_there
returns-then-not-is_there c = (
  λ e. absurd (cc),
  λ all. absurd (walk-stops (IsThere c.args.context.now) _ _ _ _ c.in-Some.ensures.steps c.loop-key.invariant (λ h. search rules) all),
)

pub returns : goal.returns
returns c =
    let e : c.loop-key.key-iterator ≡ [] = c.in-None.ensures.steps.0 in
    (λ _. c.loop-key.invariant.1 (subst (All (IsThere c.args.context.now)) (sym e) (All-nil (IsThere c.args.context.now))), λ _. refl)
