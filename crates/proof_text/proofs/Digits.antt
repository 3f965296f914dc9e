-- Texts that are decimals.
use Rattle.std.proofs.Common.{◌≡◌, ℕ, ◌<◌, ◌≤◌, Bool, true, false, List, Option, Some, None, MatchOption, decimal, refl, sym, ap, ◌∙◌, arith, if◌then◌else◌}
use Rattle.std.specs.Str.Parse.{digits_value}
use Rattle.std.proofs.lemmas.Bool.{le-leb}
use Rattle.proof_text.specs.LineForms.{is_number, number_said}
use Rattle.proof_text.specs.Reads.{IsNoDecimal}
use Rattle.proof_text.specs.declared.limits.TheConstants.{MOST_NUMBER}
use Rattle.proof_text.proofs.Decimals.{number-written}
use Rattle.proof_text.proofs.Texts.{number-spelled}

said-none : (b : Bool) (v : ℕ) → b ≡ false → (if b then Some v else None) ≡ None
said-none true v e = absurd (cc)
said-none false v e = refl

said-some : (b : Bool) (v : ℕ) → b ≡ true → (if b then Some v else None) ≡ Some v
said-some true v e = refl
said-some false v e = absurd (cc)

-- a decimal says its number
written : (text : List ℕ) (n : ℕ) → n ≤ MOST_NUMBER → text ≡ decimal n → number_said text ≡ Some n
written text n small is = ap number_said is ∙ number-written n (omega arith)

pub decimal-other : (text : List ℕ) → is_number text ≡ false → IsNoDecimal text
decimal-other text other n small is =
    let none : number_said text ≡ None = said-none (is_number text) (digits_value 10 text) other in
    let some = written text n small is in
    absurd (cc)

some-same : (n m : ℕ) → Some n ≡ Some m → n ≡ m
some-same n m e = cc

pub decimal-is : (text : List ℕ) (o : Option ℕ) → is_number text ≡ true → MatchOption o (MOST_NUMBER < digits_value 10 text) (λ n. (n ≡ digits_value 10 text) × (n ≤ MOST_NUMBER)) → MatchOption o (IsNoDecimal text) (λ n. text ≡ decimal n)
decimal-is text (Some n) number read =
    number-spelled text n (said-some (is_number text) (digits_value 10 text) number ∙ ap Some (sym read.0)) (le-leb n MOST_NUMBER read.1)
decimal-is text None number large = λ n small is.
    let same : digits_value 10 text ≡ n = some-same (digits_value 10 text) n (sym (said-some (is_number text) (digits_value 10 text) number) ∙ written text n small is) in
    absurd (omega (arith, same, small, large))
