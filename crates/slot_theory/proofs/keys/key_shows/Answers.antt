use Rattle.std.proofs.Common.{rules, ◌↔◌, IsTrue, IfOk, All, Bool, sym, subst}
use Rattle.set_operators.specs.declared.ask.KeyAsk.{KeyAsk}
use Rattle.set_operators.specs.Asks.{AskIsOf, Asks}
use Rattle.set_operators.specs.Shown.{ShowsAbsent, ShowsPoints, ShowsRequired, ShowsSomeMember, ShowsTogether}
use Rattle.slot_theory.specs.Cores.{MemberShows}
use Rattle.slot_theory.proofs.Keyed.{asks-few, asks-suit, key-sound}
use Rattle.slot_theory.proofs.keys.key_shows.Goals as goal

pub shows_points-requires-clause-sound : goal.shows_points-requires-clause-sound
shows_points-requires-clause-sound c = key-sound c.args.question.now c.args.rule.now c.args.core.now c.requires.key c.requires.core

pub shows_points-requires-clause-asks : goal.shows_points-requires-clause-asks
shows_points-requires-clause-asks c =
    subst (λ (asks : Asks). All (λ (a : KeyAsk × Bool). AskIsOf c.args.rule.now.kind a.0) asks) (sym c.in_ok-asks.ensures)
    (asks-suit c.args.question.now c.args.rule.now c.args.core.now c.requires.key c.requires.core)

pub shows_points-requires-clause-count : goal.shows_points-requires-clause-count
shows_points-requires-clause-count c = rw c.in_ok-asks.ensures (asks-few c.args.question.now c.args.rule.now c.args.core.now c.requires.key c.requires.core)

pub returns-in-Points : goal.returns-in-Points
returns-in-Points c =
    rw c.in-Points.is (subst (λ (asks : Asks). IfOk c.shows_points.result (λ yes. IsTrue yes ↔ ShowsPoints c.args.rule.now asks)) c.in_ok-asks.ensures c.shows_points.ensures)

pub returns-in-Absent : goal.returns-in-Absent
returns-in-Absent c =
    rw c.in-Absent.is (subst (λ (asks : Asks). IsTrue c.shows_absent.result ↔ ShowsAbsent asks) c.in_ok-asks.ensures c.shows_absent.ensures)

pub returns-in-Required : goal.returns-in-Required
returns-in-Required c =
    rw c.in-Required.is (subst (λ (asks : Asks). IsTrue c.shows_required.result ↔ ShowsRequired c.args.rule.now asks) c.in_ok-asks.ensures c.shows_required.ensures)

pub shows_together-requires : goal.shows_together-requires
shows_together-requires c = record {
  sound = key-sound c.args.question.now c.args.rule.now c.args.core.now c.requires.key c.requires.core;
}

pub returns-in-Word : goal.returns-in-Word
returns-in-Word c =
    rw c.in-Word.is (subst (λ (asks : Asks). IfOk c.shows_together.result (λ yes. IsTrue yes ↔ ShowsTogether c.args.rule.now asks c.in-Word.closed)) c.in_ok-asks.ensures c.shows_together.ensures)

pub member_shows-requires-clause-sound : goal.member_shows-requires-clause-sound
member_shows-requires-clause-sound c = key-sound c.args.question.now c.args.rule.now c.args.core.now c.requires.key c.requires.core

pub returns-in-Member : goal.returns-in-Member
returns-in-Member c =
    rw c.in-Member.is (subst (λ (asks : Asks). IfOk c.member_shows.result (λ yes. IsTrue yes ↔ MemberShows c.args.rule.now asks c.args.core.now c.in-Member.n c.in-Member.closed)) c.in_ok-asks.ensures c.member_shows.ensures)

pub shows_some_member-requires : goal.shows_some_member-requires
shows_some_member-requires c = record {
  sound = key-sound c.args.question.now c.args.rule.now c.args.core.now c.requires.key c.requires.core;
}

pub returns : goal.returns
returns c =
    rw c.in-SomeMember.is (subst (λ (asks : Asks). IfOk c.shows_some_member.result (λ yes. IsTrue yes ↔ ShowsSomeMember c.args.rule.now asks c.in-SomeMember.closed)) c.in_ok-asks.ensures c.shows_some_member.ensures)

pub returns-in-Kinds : goal.returns-in-Kinds
returns-in-Kinds c = search rules
