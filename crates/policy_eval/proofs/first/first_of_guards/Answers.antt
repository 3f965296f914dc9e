use Rattle.std.proofs.Common.{◌≡◌, ◌+◌, List, length, get_or, drop, None, arith, ap, ◌∙◌}
use Rattle.policy_model.specs.StatementNames.{named_documents}
use Rattle.policy_eval.specs.Deciding.{FirstIs}
use Rattle.std.specs.Prelude.{sum_by}
use Rattle.std.proofs.lemmas.List.Sums.{sum_by-drop_more}
use Rattle.policy_model.specs.declared.set.Document.{Document}
use Rattle.policy_eval.proofs.Firsts.{guard-passed, guards-left, first-none}
use Rattle.policy_eval.proofs.first.first_of_guards.Goals as goal

pub loop-guard-preserved : goal.loop-guard-preserved
loop-guard-preserved c =
    let e : c.len-next.result ≡ length (get_or c.args.guards.now c.loop-guard.guard-index c.guard-item.result) = c.len-next.ensures ∙ ap (λ (g : List Document). length g) c.guard-item.is in
    let s : sum_by (λ g. length g) (drop c.loop-guard.guard-index c.args.guards.now) ≡ length (get_or c.args.guards.now c.loop-guard.guard-index c.guard-item.result) + sum_by (λ g. length g) (drop (c.loop-guard.guard-index + 1) c.args.guards.now) =
    sum_by-drop_more (λ (g : List Document). length g) c.args.guards.now c.loop-guard.guard-index c.guard-item.result c.loop-guard-test.true in
    let none : FirstIs c.args.schema.now c.args.allow c.args.request.now (named_documents c.loop-guard.next (get_or c.args.guards.now c.loop-guard.guard-index c.guard-item.result)) None =
    first-none c.args.schema.now c.args.allow c.args.request.now _ _ c.first_of_documents-first.result (cc)
    (ap (named_documents c.loop-guard.next) (c.as_slice.ensures ∙ c.guard-item.is)) c.first_of_documents-first.ensures in (
      λ o first. c.loop-guard.invariant.0 o (guard-passed c.args.schema.now c.args.allow c.args.request.now c.loop-guard.next c.loop-guard.guard-index c.args.guards.now c.guard-item.result c.loop-guard-test.true none o (rw e at first)),
      omega arith,
    )

pub returns : goal.returns
returns c = c.loop-guard.invariant.0 None (guards-left c.args.schema.now c.args.allow c.args.request.now c.loop-guard.next c.loop-guard.guard-index c.args.guards.now c.loop-guard-test.false)
