use Rattle.std.proofs.Common.{◌≡◌, ◌++◌, List, All, ◌∙◌, ap, arith, subst, sym}
use Rattle.std.specs.List.{flat_map}
use Rattle.std.proofs.lemmas.List.{append-nil, take_all}
use Rattle.value_theory.specs.declared.kinds.PlainCond.{PlainCond}
use Rattle.value_theory.specs.declared.kinds.PlainValue.{PlainValue}
use Rattle.value_theory.specs.Meaning.{plain_kind, IsOfPlainKind}
use Rattle.value_theory.specs.Samples.{first_samples, last_samples, samples_at}
use Rattle.value_theory.proofs.Pushing.{more_points, more_kinds}
use Rattle.value_theory.proofs.samples.sample_points.Goals as goal

pub loop-cond-preserved : goal.loop-cond-preserved
loop-cond-preserved c =
    let pushed = c.in_ok-push_points.ensures in
    let kind : plain_kind c.cond-item.result ≡ c.args.kind = ap plain_kind c.cond-item.is ∙ c.requires c.loop-cond.cond-index c.cond-item.result c.loop-cond-test.true in
    record {
      items = more_points samples_at (first_samples c.args.kind c.args.conds.now) c.loop-cond.points c.push_points.new.points c.args.conds.now c.loop-cond.cond-index c.cond-item.result c.loop-cond-test.true c.cond-item.is c.loop-cond.invariant.items pushed.items;
      kinds = more_kinds (IsOfPlainKind c.args.kind) c.loop-cond.points (samples_at c.cond-item.result) c.push_points.new.points c.loop-cond.invariant.kinds (subst (λ k. All (IsOfPlainKind k) (samples_at c.cond-item.result)) kind pushed.kinds) pushed.items;
    }

pub loop-cond-init : goal.loop-cond-init
loop-cond-init c =
    let first : List PlainValue = first_samples c.args.kind c.args.conds.now in
    let start = c.in_ok-push_first.ensures.items ∙ ap (λ (points : List PlainValue). points ++ first) c.new-points.ensures in
    record {
      items = start ∙ sym (append-nil first);
      kinds = subst (All (IsOfPlainKind c.args.kind)) (sym start) c.in_ok-push_first.ensures.kinds;
    }

pub returns-clause-items : goal.returns-clause-items
returns-clause-items c =
    let all = take_all c.loop-cond.cond-index c.args.conds.now (omega (arith, c.loop-cond-test.false)) in
    c.in_ok-push_last.ensures.items
    ∙ ap (λ (points : List PlainValue). points ++ last_samples c.args.kind)
    (c.loop-cond.invariant.items ∙ ap (λ (conds : List PlainCond). first_samples c.args.kind c.args.conds.now ++ flat_map samples_at conds) all)

pub returns-clause-kinds : goal.returns-clause-kinds
returns-clause-kinds c =
    more_kinds (IsOfPlainKind c.args.kind) c.loop-cond.points (last_samples c.args.kind) _ c.loop-cond.invariant.kinds c.in_ok-push_last.ensures.kinds c.in_ok-push_last.ensures.items
