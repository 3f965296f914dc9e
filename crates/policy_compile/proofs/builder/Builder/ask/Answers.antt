use Rattle.policy_compile.proofs.Asking.{asked, no-room, one-too-many, room}
use Rattle.policy_compile.proofs.builder.Builder.ask.Goals as goal

pub returns-then-not-has_room : goal.returns-then-not-has_room
returns-then-not-has_room c =
    let full = no-room c.args.self.now.tests.keys c.args.test c.has_room.result c.if-not-has_room.true c.has_room.ensures in
    one-too-many c.args.self.now.tests.keys c.args.test full.0 full.1

pub number-requires : goal.number-requires
number-requires c = room c.args.self.now.tests.keys c.args.test c.has_room.result c.if-not-has_room.false c.has_room.ensures

pub returns : goal.returns
returns c = asked c.args.self.now c.number.new.self c.insert.new.self c.args.test c.in_ok-number.number c.in_ok-index.index c.in_ok-number.ensures c.in_ok-index.ensures
