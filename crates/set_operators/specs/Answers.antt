-- What a search for the values of a key may answer.
use Rattle.std.specs.Prelude.{◌≡◌, ℕ, Bool, true, false}
use Rattle.wildcard_lang.specs.Places.{ShowWider}
use Rattle.policy_model.specs.declared.schema.KeyRule.{KeyRule}
use Rattle.policy_model.specs.declared.value.Kind.TheVariants.{Text}
use Rattle.set_operators.specs.declared.answer.KeyAnswer.{KeyAnswer}
use Rattle.set_operators.specs.declared.answer.KeyAnswer.TheVariants.{Found, Absent, Required, Points, TooMany}
use Rattle.set_operators.specs.declared.answer.KeyAnswer.TheVariants.{Together, Member, SomeMember}
use Rattle.set_operators.specs.Asks.{AnswerAll, AreValuesOf, Asks}
use Rattle.set_operators.specs.Shown.{ShowsAbsent, ShowsMember, ShowsPoints, ShowsRequired, ShowsSomeMember, ShowsTogether}
use Rattle.set_operators.specs.Wants.{value_patterns}

-- values of the rule that answer the asks as is wanted; or what shows that there are none; or, of a text key, one more text than
-- the number of states, with different product states of the asks' patterns and the rule's
abbrev pub IsKeyAnswer : KeyRule → Asks → ℕ → KeyAnswer → Type 0
IsKeyAnswer rule asks states (Found values) = AreValuesOf rule values × AnswerAll values asks
IsKeyAnswer rule asks states Absent = ShowsAbsent asks
IsKeyAnswer rule asks states Required = ShowsRequired rule asks
IsKeyAnswer rule asks states Points = ShowsPoints rule asks
IsKeyAnswer rule asks states (Together set) = ShowsTogether rule asks set
IsKeyAnswer rule asks states (Member k set) = ShowsMember rule asks k set
IsKeyAnswer rule asks states (SomeMember set) = ShowsSomeMember rule asks set
IsKeyAnswer rule asks states (TooMany texts) = (rule.kind ≡ Text) × ShowWider (value_patterns rule asks) states texts

-- whether values were found
abbrev pub is_found : KeyAnswer → Bool
is_found (Found values) = true
is_found Absent = false
is_found Required = false
is_found Points = false
is_found (Together set) = false
is_found (Member k set) = false
is_found (SomeMember set) = false
is_found (TooMany texts) = false
