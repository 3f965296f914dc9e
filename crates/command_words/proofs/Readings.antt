-- What is read of an option's text.
use Rattle.std.proofs.Common.{◌≡◌, ◌<◌, ◌≤◌, ◌^◌, ℕ, Bool, true, false, arith, refl, sym, ap, codes, List, Option, Some, None, Result, Ok, Err}
use Rattle.std.specs.Prelude.{IfSome, option_map, pos, unwrap_or}
use Rattle.std.specs.Borrow.{Bor}
use Rattle.std.specs.Option.{option_map_or}
use Rattle.std.specs.Str.{bytes_eq}
use Rattle.std.specs.Str.Parse.{ParsesBool, ParsesUnsigned}
use Rattle.std.proofs.lemmas.Slice.Eq.{bytes_eq-Decides}
use Rattle.clap.specs.Matches.{ReadsOne}
use Rattle.clap.specs.Values.{IsSignedIn}
use Rattle.command_words.proofs.Numbers.{number_in_range}
use Rattle.command_words.specs.Asked.{written_number}

pub text_or : (o : Option (Bor (List ℕ))) (t : Option (List ℕ)) (d : Bor (List ℕ)) → option_map (λ s. s.now) o ≡ t → (unwrap_or o d).now ≡ unwrap_or t d.now
text_or None t d e = rw (← e) refl
text_or (Some s) t d e = rw (← e) refl

number_read : (E : Type 0) (G : List ℕ → Result ℕ E → Type 0) (most : ℕ) (t : List ℕ) (r : Option ℕ) → ReadsOne G t r
    → ((u : List ℕ) (x : Result ℕ E) → G u x → ParsesUnsigned 32 10 u x) → most < 2 ^ 32 → IsSignedIn (pos 1) (pos most) t → r ≡ Some (written_number t)
number_read E G most t (Some n) read only fits passed = ap Some (only t (Ok n) read).1
number_read E G most t None read only fits passed =
    let range = number_in_range most t passed in
    absurd (only t (Err read.0) read.1 (range.1, omega arith))

-- a number of an option, or the number without one, in the option's range
pub number_or_default : (E : Type 0) (G : List ℕ → Result ℕ E → Type 0) (most default : ℕ) (o : Option (List ℕ)) (r : Option ℕ)
    → IfSome o (IsSignedIn (pos 1) (pos most)) → (o ≡ None → r ≡ None) → ((t : List ℕ) → o ≡ Some t → ReadsOne G t r)
    → ((u : List ℕ) (x : Result ℕ E) → G u x → ParsesUnsigned 32 10 u x) → most < 2 ^ 32 → 1 ≤ default → default ≤ most
    → (unwrap_or r default ≡ option_map_or written_number o default) × (1 ≤ unwrap_or r default) × (unwrap_or r default ≤ most)
number_or_default E G most default None r has none value only fits least below = rw (none refl) (refl, least, below)
number_or_default E G most default (Some t) r has none value only fits least below =
    let range = number_in_range most t has in
    rw (number_read E G most t r (value t refl) only fits has) (refl, range.2, range.3)

pub other_text : (t u : List ℕ) → (t ≡ u → ⊥) → bytes_eq t u ≡ false
other_text t u other = go (bytes_eq t u) refl
  where
    go : (b : Bool) → bytes_eq t u ≡ b → bytes_eq t u ≡ false
    go true e = absurd (other ((bytes_eq-Decides t u).0 e))
    go false e = e

flag_read : (E : Type 0) (t : List ℕ) (r : Option Bool) → ReadsOne {T = Bool} {E = E} ParsesBool t r → unwrap_or r false ≡ bytes_eq t (codes "true")
flag_read E t (Some true) read = rw read refl
flag_read E t (Some false) read = rw read refl
flag_read E t None read = sym (other_text t (codes "true") read.1.0)

pub flag_or_false : (E : Type 0) (o : Option (List ℕ)) (r : Option Bool) → (o ≡ None → r ≡ None)
    → ((t : List ℕ) → o ≡ Some t → ReadsOne {T = Bool} {E = E} ParsesBool t r)
    → unwrap_or r false ≡ option_map_or (λ text. bytes_eq text (codes "true")) o false
flag_or_false E None r none value = rw (none refl) refl
flag_or_false E (Some t) r none value = flag_read E t r (value t refl)
