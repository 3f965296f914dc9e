use Rattle.std.proofs.Common.{◌∙◌, List, arith, subst}
use Rattle.std.proofs.lemmas.List.{take_all}
use Rattle.std.proofs.lemmas.List.Elements.{All-more, All-nil}
use Rattle.policy_model.specs.declared.cond.Cond.{Cond}
use Rattle.test_relations.specs.Parts.{CondLeadsToSome, EachLeadsToSome}
use Rattle.test_relations.proofs.lists.each_leads_to_some.Goals as goal

pub ones-init : goal.ones-init
ones-init c = All-nil (λ (one : Cond). CondLeadsToSome one c.args.others.now)

pub ones-preserved : goal.ones-preserved
ones-preserved c =
    let leads = λ (one : Cond). CondLeadsToSome one c.args.others.now in
    let here = subst leads c.one-item.is (c.leads_to_some.ensures (cc)) in
    All-more leads c.as_slice-one-items.result.now c.ones.one-index c.one-item.result (omega arith) c.ones.invariant here

pub returns : goal.returns
returns c h =
    subst (λ (ones : List Cond). EachLeadsToSome ones c.args.others.now) (take_all c.ones.one-index c.as_slice-one-items.result.now (omega arith) ∙ c.as_slice-one-items.ensures) c.ones.invariant
