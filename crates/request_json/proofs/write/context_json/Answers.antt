use Rattle.std.proofs.Common.{◌∙◌, length, ap, arith}
use Rattle.std.proofs.lemmas.List.{length_push, take_all}
use Rattle.std.proofs.lemmas.Map.Iter.{iter_end, iter_turn}
use Rattle.serde_json.specs.Data.{object}
use Rattle.serde_json.specs.View.{members_view}
use Rattle.serde_json.proofs.Views.{view-Object}
use Rattle.request_json.specs.RequestTexts.{context_members}
use Rattle.request_json.proofs.Contexts.{adds}
use Rattle.request_json.proofs.write.context_json.Goals as goal

pub loop-key-preserved : goal.loop-key-preserved
loop-key-preserved c =
    let start = c.into_iter-key-iterator.ensures.into_iter_gives ∙ c.iter-key-items.ensures.value in
    let turn = iter_turn _ c.args.context.now c.loop-key.yielded _ _ _ _ start c.loop-key.yielded_by (c.in-Some.key, c.in-Some.values) c.in-Some.is c.next.ensures.steps in
    rw (length_push c.loop-key.yielded (c.in-Some.key, c.in-Some.values)) (
    adds c.args.context.now (length c.loop-key.yielded) c.in-Some.key.now c.in-Some.values.now (members_view c.loop-key.members.entries) (members_view c.add_key.new.members.entries) turn.1 c.loop-key.invariant c.in_ok-add_key.ensures
    )

pub returns : goal.returns
returns c =
    let start = c.into_iter-key-iterator.ensures.into_iter_gives ∙ c.iter-key-items.ensures.value in
    let end = iter_end _ c.args.context.now c.loop-key.yielded _ _ _ _ start c.loop-key.yielded_by c.in-None.is c.next.ensures.steps in
    let all = c.loop-key.invariant ∙ ap context_members (take_all (length c.loop-key.yielded) c.args.context.now (omega (arith, end.1))) in
    view-Object c.loop-key.members ∙ ap object all
