use Rattle.std.proofs.Common.{map}
use Rattle.json_shapes.proofs.Laws.{from_end}
use Rattle.request_schema.proofs.Putting.{added-sound}
use Rattle.request_schema.proofs.global_keys.add_keys.Goals as goal

pub returns-clause-sound : goal.returns-clause-sound
returns-clause-sound c =
    let past = from_end (λ n. n.now) c.args.names.now c.loop-name.name-index c.loop-name-test.false in
    added-sound c.args.kind c.args.many (map (λ n. n.now) c.args.names.now) _ c.args.rules.now c.loop-name.rules past c.loop-name.invariant
