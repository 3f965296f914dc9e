use Rattle.std.proofs.Common.{◌∙◌, arith, subst}
use Rattle.std.proofs.lemmas.List.{take_all}
use Rattle.std.proofs.lemmas.List.Elements.{All-more, All-nil}
use Rattle.policy_model.specs.Conds.{SharesNoValue}
use Rattle.test_relations.specs.Parts.{CondExcludesEach}
use Rattle.test_relations.proofs.lists.excludes_each.Goals as goal

pub others-init : goal.others-init
others-init c = All-nil (SharesNoValue c.args.one.now)

pub others-preserved : goal.others-preserved
others-preserved c =
    let here = subst (SharesNoValue c.args.one.now) c.other-item.is (c.cond_excludes.ensures (cc)) in
    All-more (SharesNoValue c.args.one.now) c.as_slice-other-items.result.now c.others.other-index c.other-item.result (omega arith) c.others.invariant here

pub returns : goal.returns
returns c h = subst (CondExcludesEach c.args.one.now) (take_all c.others.other-index c.as_slice-other-items.result.now (omega arith) ∙ c.as_slice-other-items.ensures) c.others.invariant
