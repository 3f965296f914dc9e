-- What shows that no values of a key answer asks as is wanted. These are the rules of certificates on keys.
use Rattle.std.specs.Prelude.{◌≡◌, ◌≢◌, ℕ, List, true, false, Contains, IsSomeAnd, slice_get}
use Rattle.policy_model.specs.declared.schema.KeyRule.{KeyRule}
use Rattle.policy_model.specs.declared.value.Kind.TheVariants.{Text}
use Rattle.set_operators.specs.declared.ask.KeyAsk.TheVariants.{Present}
use Rattle.set_operators.specs.declared.answer.KeyAnswer.{KeyAnswer}
use Rattle.set_operators.specs.declared.answer.KeyAnswer.TheVariants.{Found, Absent, Required, Points, TooMany}
use Rattle.set_operators.specs.declared.answer.KeyAnswer.TheVariants.{Together, Member, SomeMember}
use Rattle.set_operators.specs.Asks.{Asks, HaveNone}
use Rattle.set_operators.specs.Members.{NeedsValue, SomeIsWanted, denied_asks, member_asks}
use Rattle.set_operators.specs.Wants.{IsClosedForValue}

-- that there is a value is answered no
abbrev pub AbsentIsWanted : Asks → Type 0
AbsentIsWanted asks = Contains asks (Present, false)

-- the key is to be absent, and another ask, which holds of no absent key, is answered yes
abbrev pub ShowsAbsent : Asks → Type 0
ShowsAbsent asks = AbsentIsWanted asks × SomeIsWanted asks

-- the key is to be absent, and it is required
abbrev pub ShowsRequired : KeyRule → Asks → Type 0
ShowsRequired rule asks = (rule.required ≡ true) × AbsentIsWanted asks

-- the values aren't texts, and none answer so; the check decides that itself
pub record ShowsPoints (rule : KeyRule) (asks : Asks) : Type 0 where
  pub kind : rule.kind ≢ Text
  pub none : HaveNone rule asks

-- a text key with at most one value, which needs it: no text meets all asks together
pub record ShowsTogether (rule : KeyRule) (asks : Asks) (set : List (List (List ℕ))) : Type 0 where
  pub kind : rule.kind ≡ Text
  pub single : rule.many ≡ false
  pub needs : NeedsValue rule asks
  pub closed : IsClosedForValue rule asks set

-- a text key with several values: no text can be the member for ask k, which is answered yes
pub record ShowsMember (rule : KeyRule) (asks : Asks) (k : ℕ) (set : List (List (List ℕ))) : Type 0 where
  pub kind : rule.kind ≡ Text
  pub several : rule.many ≡ true
  pub wanted : IsSomeAnd (slice_get asks k) (λ a. a.1 ≡ true)
  pub closed : IsClosedForValue rule (member_asks asks k) set

-- a text key with several values that is required: no text can be a member at all
pub record ShowsSomeMember (rule : KeyRule) (asks : Asks) (set : List (List (List ℕ))) : Type 0 where
  pub kind : rule.kind ≡ Text
  pub several : rule.many ≡ true
  pub required : rule.required ≡ true
  pub closed : IsClosedForValue rule (denied_asks asks) set

-- the answer shows that no values of the rule answer the asks so
abbrev pub ShowsNone : KeyRule → Asks → KeyAnswer → Type 0
ShowsNone rule asks (Found values) = ⊥
ShowsNone rule asks Absent = ShowsAbsent asks
ShowsNone rule asks Required = ShowsRequired rule asks
ShowsNone rule asks Points = ShowsPoints rule asks
ShowsNone rule asks (Together set) = ShowsTogether rule asks set
ShowsNone rule asks (Member k set) = ShowsMember rule asks k set
ShowsNone rule asks (SomeMember set) = ShowsSomeMember rule asks set
ShowsNone rule asks (TooMany texts) = ⊥
