use Rattle.std.proofs.Common.{All, Bool, sym, subst}
use Rattle.std.proofs.lemmas.Option.{slice_get-get_or}
use Rattle.set_operators.specs.declared.answer.KeyAnswer.TheVariants.{Found, Absent, Required, Points, Together, Member, SomeMember, TooMany}
use Rattle.set_operators.specs.declared.ask.KeyAsk.{KeyAsk}
use Rattle.set_operators.specs.Asks.{AskIsOf, Asks}
use Rattle.slot_theory.specs.declared.outcome.SlotProof.TheVariants as proof
use Rattle.slot_theory.specs.declared.outcome.SlotValue.TheVariants.{Values}
use Rattle.slot_theory.proofs.Keyed.{answer-at, asks-few, asks-suit, index-within, key-new, key-permitted, key-shown, key-sound, key-wider}
use Rattle.slot_theory.proofs.Products.{tried-attempt}
use Rattle.slot_theory.proofs.keys.attempt_key.Goals as goal

pub solve-requires-clause-sound : goal.solve-requires-clause-sound
solve-requires-clause-sound c = key-sound c.args.question.now c.args.rule.now c.args.core.now c.requires.key c.requires.core

pub solve-requires-clause-asks : goal.solve-requires-clause-asks
solve-requires-clause-asks c =
    subst (λ (asks : Asks). All (λ (a : KeyAsk × Bool). AskIsOf c.args.rule.now.kind a.0) asks) (sym c.in_ok-asks.ensures)
    (asks-suit c.args.question.now c.args.rule.now c.args.core.now c.requires.key c.requires.core)

pub solve-requires-clause-count : goal.solve-requires-clause-count
solve-requires-clause-count c = rw c.in_ok-asks.ensures (asks-few c.args.question.now c.args.rule.now c.args.core.now c.requires.key c.requires.core)

pub returns-in-Found : goal.returns-in-Found
returns-in-Found c =
    let q = c.args.question.now in
    let values = c.in-Found.values in
    let found = answer-at c.args.rule.now c.args.question.now.states _ _ _ (Found values) c.in_ok-asks.ensures c.in-Found.is c.in_ok-values.ensures.answer in
    tried-attempt q c.args.core.now (Values values) c.tried.result (key-permitted q c.args.rule.now c.args.core.now c.requires.key c.requires.core values found.0)
    (λ n. key-new q c.args.rule.now c.args.core.now c.requires.key c.requires.core values n found.1) c.tried.ensures

pub returns-in-Absent : goal.returns-in-Absent
returns-in-Absent c =
    key-shown c.args.question.now c.args.rule.now c.args.core.now c.requires.key c.requires.core proof.Absent
    (answer-at c.args.rule.now c.args.question.now.states _ _ _ Absent c.in_ok-asks.ensures c.in-Absent.is c.in_ok-values.ensures.answer)

pub returns-in-Required : goal.returns-in-Required
returns-in-Required c =
    key-shown c.args.question.now c.args.rule.now c.args.core.now c.requires.key c.requires.core proof.Required
    (answer-at c.args.rule.now c.args.question.now.states _ _ _ Required c.in_ok-asks.ensures c.in-Required.is c.in_ok-values.ensures.answer)

pub returns-in-Points : goal.returns-in-Points
returns-in-Points c =
    key-shown c.args.question.now c.args.rule.now c.args.core.now c.requires.key c.requires.core proof.Points
    (answer-at c.args.rule.now c.args.question.now.states _ _ _ Points c.in_ok-asks.ensures c.in-Points.is c.in_ok-values.ensures.answer)

pub returns-in-Together : goal.returns-in-Together
returns-in-Together c =
    key-shown c.args.question.now c.args.rule.now c.args.core.now c.requires.key c.requires.core (proof.Word c.in-Together.set)
    (answer-at c.args.rule.now c.args.question.now.states _ _ _ (Together c.in-Together.set) c.in_ok-asks.ensures c.in-Together.is c.in_ok-values.ensures.answer)

pub bounds-core-index : goal.bounds-core-index
bounds-core-index c =
    index-within c.args.question.now c.args.rule.now c.args.core.now c.requires.key c.requires.core c.in-Member.index c.in-Member.set
    (answer-at c.args.rule.now c.args.question.now.states _ _ _ (Member c.in-Member.index c.in-Member.set) c.in_ok-asks.ensures c.in-Member.is c.in_ok-values.ensures.answer)

pub returns-in-Member : goal.returns-in-Member
returns-in-Member c =
    let shown = answer-at c.args.rule.now c.args.question.now.states _ _ _ (Member c.in-Member.index c.in-Member.set) c.in_ok-asks.ensures c.in-Member.is c.in_ok-values.ensures.answer in
    let within = index-within c.args.question.now c.args.rule.now c.args.core.now c.requires.key c.requires.core c.in-Member.index c.in-Member.set shown in
    key-shown c.args.question.now c.args.rule.now c.args.core.now c.requires.key c.requires.core (proof.Member _ c.in-Member.set)
    (c.in-Member.index, slice_get-get_or c.args.core.now c.in-Member.index 0 within, shown)

pub returns-in-SomeMember : goal.returns-in-SomeMember
returns-in-SomeMember c =
    key-shown c.args.question.now c.args.rule.now c.args.core.now c.requires.key c.requires.core (proof.SomeMember c.in-SomeMember.set)
    (answer-at c.args.rule.now c.args.question.now.states _ _ _ (SomeMember c.in-SomeMember.set) c.in_ok-asks.ensures c.in-SomeMember.is c.in_ok-values.ensures.answer)

pub returns : goal.returns
returns c =
    key-wider c.args.question.now c.args.rule.now c.args.core.now c.requires.key c.requires.core c.args.question.now.states c.in-TooMany.texts
    (answer-at c.args.rule.now c.args.question.now.states _ _ _ (TooMany c.in-TooMany.texts) c.in_ok-asks.ensures c.in-TooMany.is c.in_ok-values.ensures.answer).1
