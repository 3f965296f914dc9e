use Rattle.std.proofs.Common.{◌∙◌, length, ap, arith}
use Rattle.std.proofs.lemmas.List.{length_push, take_all}
use Rattle.std.proofs.lemmas.Map.Iter.{iter_end, iter_turn}
use Rattle.request_build.specs.Taken.{context_in, key_values}
use Rattle.request_build.proofs.Filling.{folded-at, grows, sound-at}
use Rattle.request_build.proofs.First.{found-or-stated}
use Rattle.request_build.proofs.context.context_in.Goals as goal

pub key_values-requires : goal.key_values-requires
key_values-requires c =
    let start = c.into_iter-key-iterator.ensures.into_iter_gives ∙ c.iter-keys.ensures.value in
    let turn = iter_turn _ c.args.schema.now.keys c.loop-key.yielded _ _ _ _ start c.loop-key.yielded_by (c.in-Some.key, c.in-Some.rule) c.in-Some.is c.next.ensures.steps in
    sound-at c.args.schema.now.keys (length c.loop-key.yielded) c.in-Some.key.now c.in-Some.rule.now c.requires.rules turn.1

pub add_values-requires : goal.add_values-requires
add_values-requires c =
    let start = c.into_iter-key-iterator.ensures.into_iter_gives ∙ c.iter-keys.ensures.value in
    let turn = iter_turn _ c.args.schema.now.keys c.loop-key.yielded _ _ _ _ start c.loop-key.yielded_by (c.in-Some.key, c.in-Some.rule) c.in-Some.is c.next.ensures.steps in
    folded-at c.args.schema.now.keys (length c.loop-key.yielded) c.in-Some.key.now c.in-Some.rule.now c.iter-keys.ensures.folded turn.1

pub loop-key-preserved : goal.loop-key-preserved
loop-key-preserved c =
    let start = c.into_iter-key-iterator.ensures.into_iter_gives ∙ c.iter-keys.ensures.value in
    let turn = iter_turn _ c.args.schema.now.keys c.loop-key.yielded _ _ _ _ start c.loop-key.yielded_by (c.in-Some.key, c.in-Some.rule) c.in-Some.is c.next.ensures.steps in
    let own = found-or-stated c.args.values.now c.in_ok-found.found c.in-Some.key.now c.in-Some.rule.now c.in_ok-own.own c.in_ok-found.ensures c.in_ok-own.ensures in
    rw (length_push c.loop-key.yielded (c.in-Some.key, c.in-Some.rule)) (
    grows (key_values c.args.values.now) c.args.schema.now.keys (length c.loop-key.yielded) c.in-Some.key.now c.in-Some.rule.now c.in_ok-own.own c.loop-key.context c.add_values.new.context
    c.iter-keys.ensures.ordered turn.1 c.loop-key.invariant own c.in_ok-add_values.ensures
    )

pub returns-clause-value : goal.returns-clause-value
returns-clause-value c =
    let start = c.into_iter-key-iterator.ensures.into_iter_gives ∙ c.iter-keys.ensures.value in
    let end = iter_end _ c.args.schema.now.keys c.loop-key.yielded _ _ _ _ start c.loop-key.yielded_by c.in-None.is c.next.ensures.steps in
    c.loop-key.invariant ∙ ap (context_in c.args.values.now) (take_all (length c.loop-key.yielded) c.args.schema.now.keys (omega (arith, end.1)))
