-- The answers of a search for values that aren't texts.
use Rattle.std.proofs.Common.{◌≡◌, ◌≢◌, ◌↔◌, Bool, true, false, not, IsTrue, IfOk, Result, Ok, Err, refl, sym}
use Rattle.policy_model.specs.declared.schema.KeyRule.{KeyRule}
use Rattle.policy_model.specs.declared.value.Kind.TheVariants.{Text}
use Rattle.set_operators.specs.declared.answer.KeyAnswer.{KeyAnswer}
use Rattle.set_operators.specs.declared.answer.KeyAnswer.TheVariants.{Found, Absent, Required, Points, TooMany, Together, Member, SomeMember}
use Rattle.set_operators.specs.Answers.{IsKeyAnswer, is_found}
use Rattle.set_operators.specs.Asks.{Asks, HaveNone}
use Rattle.set_operators.specs.Shown.{ShowsPoints}
use Rattle.set_operators.proofs.Membership.{shown_is_right}

shown-none : (rule : KeyRule) (asks : Asks) (a : KeyAnswer) → rule.kind ≢ Text → IsKeyAnswer rule asks 1 a → is_found a ≡ false → HaveNone rule asks
shown-none rule asks (Found values) other is e = absurd (let wrong : true ≡ false = e in cc)
shown-none rule asks Absent other is e = shown_is_right rule asks Absent is
shown-none rule asks Required other is e = shown_is_right rule asks Required is
shown-none rule asks Points other is e = is.none
shown-none rule asks (Together set) other is e = absurd (other is.kind)
shown-none rule asks (Member k set) other is e = absurd (other is.kind)
shown-none rule asks (SomeMember set) other is e = absurd (other is.kind)
shown-none rule asks (TooMany texts) other is e = absurd (other is.0)

found-some : (rule : KeyRule) (asks : Asks) (a : KeyAnswer) → IsKeyAnswer rule asks 1 a → is_found a ≡ true → HaveNone rule asks → ⊥
found-some rule asks (Found values) is e none = none values is.0 is.1
found-some rule asks Absent is e none = let wrong : false ≡ true = e in cc
found-some rule asks Required is e none = let wrong : false ≡ true = e in cc
found-some rule asks Points is e none = let wrong : false ≡ true = e in cc
found-some rule asks (Together set) is e none = let wrong : false ≡ true = e in cc
found-some rule asks (Member k set) is e none = let wrong : false ≡ true = e in cc
found-some rule asks (SomeMember set) is e none = let wrong : false ≡ true = e in cc
found-some rule asks (TooMany texts) is e none = let wrong : false ≡ true = e in cc

-- none are found exactly where there are none
pub none-found : (rule : KeyRule) (asks : Asks) (a : KeyAnswer) (b : Bool) → rule.kind ≢ Text → IsKeyAnswer rule asks 1 a → b ≡ is_found a → IsTrue (not b) ↔ HaveNone rule asks
none-found rule asks a true other is e = (λ h. absurd (let wrong : false ≡ true = h in cc), λ none. absurd (found-some rule asks a is (sym e) none))
none-found rule asks a false other is e = (λ h. shown-none rule asks a other is (sym e), λ none. refl)

pub points-shown : (rule : KeyRule) (asks : Asks) {E : Type 0} (r : Result Bool E) → rule.kind ≢ Text → IfOk r (λ found. IsTrue found ↔ HaveNone rule asks) → IfOk r (λ found. IsTrue found ↔ ShowsPoints rule asks)
points-shown rule asks (Ok b) other is = (λ h. record { kind = other; none = is.0 h }, λ shows. is.1 shows.none)
points-shown rule asks (Err e) other is = tt
