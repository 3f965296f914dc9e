use Rattle.std.proofs.Common.{All, arith, refl, subst, sym}
use Rattle.std.proofs.lemmas.List.{take_all}
use Rattle.std.proofs.lemmas.List.Elements.{All-get_or, All-more, All-nil}
use Rattle.policy_model.specs.Requests.{HasValue}
use Rattle.policy_model.proofs.required.has_values.Goals as goal

pub names-init : goal.names-init
names-init c = All-nil (HasValue c.args.context.now)

pub names-preserved : goal.names-preserved
names-preserved c =
    let here = subst (HasValue c.args.context.now) c.name-item.is (c.has_value.ensures.0 (cc)) in
    All-more (HasValue c.args.context.now) c.args.names.now c.names.name-index c.name-item.result (omega arith) c.names.invariant here

pub returns-then-not-has_value : goal.returns-then-not-has_value
returns-then-not-has_value c = (
  λ e. absurd (cc),
  λ all. (
      let here = All-get_or (HasValue c.args.context.now) c.args.names.now c.names.name-index c.name-item.result (omega arith) all in
      let yes_ = c.has_value.ensures.1 (subst (HasValue c.args.context.now) (sym c.name-item.is) here) in
      absurd (cc)),
)

pub returns : goal.returns
returns c = (
  λ _. subst (All (HasValue c.args.context.now)) (take_all c.names.name-index c.args.names.now (omega arith)) c.names.invariant,
  λ _. refl,
)
