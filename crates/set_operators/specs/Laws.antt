-- What holds of every list of values of a key.
use Rattle.std.specs.Prelude.{◌≡◌, ◌↔◌, ◌⊎◌, ℕ, List, true, false, Any}
use Rattle.wildcard_lang.specs.Text.{IsText}
use Rattle.pattern_automata.specs.Closed.{Meets}
use Rattle.policy_model.specs.declared.schema.KeyRule.{KeyRule}
use Rattle.policy_model.specs.declared.value.Kind.TheVariants.{Text}
use Rattle.policy_model.specs.declared.value.Value.{Value}
use Rattle.policy_model.specs.declared.value.Value.TheVariants.{Word}
use Rattle.set_operators.specs.declared.ask.KeyAsk.{KeyAsk}
use Rattle.set_operators.specs.declared.answer.KeyAnswer.{KeyAnswer}
use Rattle.set_operators.specs.Asks.{AskHolds, Asks, HaveNone, HaveSome}
use Rattle.set_operators.specs.Members.{HasMember, HasMembers, IsMemberFor, MeetsAsk, NeedsValue}
use Rattle.set_operators.specs.Shown.{AbsentIsWanted, ShowsNone}
use Rattle.set_operators.specs.Wants.{value_clauses, value_patterns}

-- an ask holds of values exactly where some member meets it; so one that is answered no holds of no member
abbrev pub AsksAreOfMembers : Type 0
AsksAreOfMembers = (values : List Value) (ask : KeyAsk) → AskHolds values ask ↔ Any (λ v. MeetsAsk v ask) values

-- of a key with several values one member for each ask that is answered yes is enough, where each of them meets nothing that is
-- answered no, and one is needed
abbrev pub OneMemberEach : Type 0
OneMemberEach = (rule : KeyRule) (asks : Asks) → rule.many ≡ true → HaveSome rule asks ↔ HasMembers rule asks

-- of a key with at most one value either the empty list does, or one value has to meet all asks
abbrev pub OneValueOrNone : Type 0
OneValueOrNone =
    (rule : KeyRule) (asks : Asks) → rule.many ≡ false →
    HaveSome rule asks ↔ ((¬ NeedsValue rule asks) ⊎ HasMember rule asks)

-- a text meets what asks and rule want exactly where it is a member for the asks, if no ask wants the key to be absent
abbrev pub WantsAreOfMembers : Type 0
WantsAreOfMembers =
    (rule : KeyRule) (asks : Asks) (t : List ℕ) → rule.kind ≡ Text → ¬ AbsentIsWanted asks → IsText t →
    Meets (value_patterns rule asks) (value_clauses rule asks) t ↔ IsMemberFor rule asks (Word t)

-- what shows that there are no values is right, whoever says so
abbrev pub ShownIsRight : Type 0
ShownIsRight = (rule : KeyRule) (asks : Asks) (answer : KeyAnswer) → ShowsNone rule asks answer → HaveNone rule asks
