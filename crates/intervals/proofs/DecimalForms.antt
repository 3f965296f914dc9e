-- The computation of the decimal form answers what the form says.
use Rattle.std.proofs.Common.{◌≡◌, ℕ, ◌+◌, ◌*◌, true, false, Bool, List, [], ◌∷◌, ◌++◌, take, drop, refl, ap, subst, sym, ◌∙◌, arith, ℤ, ◌==◌, Some}
use Rattle.std.proofs.lemmas.List.{take-append-drop, append-nil}
use Rattle.std.specs.Option.{option_map}
use Rattle.std.proofs.lemmas.Option.{same_Some}
use Rattle.std.specs.List.{list_all}
use Rattle.std.specs.Char.{is_ascii_digit}
use Rattle.std.proofs.lemmas.Grind.{common_steps}
use Rattle.intervals.specs.declared.units.TheConstants.{UNITS}
use Rattle.intervals.specs.Digits.{is_digits, digits_number, fraction_units, number_of, digit_run}
use Rattle.intervals.specs.Decimals.{WritesSize, WritesDecimal}
use Rattle.intervals.specs.Decimals.{whole, with_fraction, unsigned, negated}
use Rattle.intervals.specs.DecimalTexts.{size_of, tail_of, fraction_of, join_units, decimal_of, has_sign, after_sign, signed_number}
use Rattle.intervals.proofs.Steps.{by_bool, both, same_of, mapped, chained, guarded, only_digits, front_digits, behind_digits}

number_is : (most : ℕ) (text : List ℕ) → is_digits most text ≡ true → number_of most text ≡ Some (digits_number text)
number_is most text h = rw h refl

size_at : (text digits rest : List ℕ) (units : ℕ) → take (digit_run text) text ≡ digits → drop (digit_run text) text ≡ rest → is_digits 18 digits ≡ true → tail_of rest ≡ Some units → size_of text ≡ Some (digits_number digits * UNITS + units)
unfolding size_of
size_at text digits rest units front behind h tail = rw (front, behind, number_is 18 digits h, tail) refl

forth_whole : (text : List ℕ) → is_digits 18 text ≡ true → size_of text ≡ Some (digits_number text * UNITS + 0)
forth_whole text h =
    let e : text ++ [] ≡ text = append-nil text in
    let all = only_digits 18 text h in
    let P : List ℕ → Type 0 = λ t. take (digit_run t) t ≡ text in
    let Q : List ℕ → Type 0 = λ t. drop (digit_run t) t ≡ [] in
    size_at text text [] 0 (subst P e (front_digits text [] all refl)) (subst Q e (behind_digits text [] all refl)) h refl

fraction_is : (digits : List ℕ) → is_digits 9 digits ≡ true → fraction_of digits ≡ Some (fraction_units digits)
fraction_is digits h = rw h refl

forth_fraction : (digits fraction : List ℕ) → is_digits 18 digits ≡ true → is_digits 9 fraction ≡ true → size_of (digits ++ 46 ∷ fraction) ≡ Some (digits_number digits * UNITS + fraction_units fraction)
forth_fraction digits fraction h k =
    let all = only_digits 18 digits h in
    size_at (digits ++ 46 ∷ fraction) digits (46 ∷ fraction) (fraction_units fraction) (front_digits digits (46 ∷ fraction) all refl) (behind_digits digits (46 ∷ fraction) all refl) h (fraction_is fraction k)

pub size_forth : (text : List ℕ) (units : ℕ) → WritesSize text units → size_of text ≡ Some units
size_forth text units (whole h e) = forth_whole text h ∙ ap (λ (n : ℕ). Some n) (omega arith)
size_forth text units (with_fraction digits fraction t h k e) = rw t (forth_fraction digits fraction h k ∙ ap (λ (n : ℕ). Some n) (sym e))

back_rest : (text digits rest : List ℕ) (tail units : ℕ) → digits ++ rest ≡ text → is_digits 18 digits ≡ true → tail_of rest ≡ Some tail → digits_number digits * UNITS + tail ≡ units → WritesSize text units
back_rest text digits [] tail units t h k e =
    let here : digits ≡ text = sym (append-nil digits) ∙ t in
    let P : List ℕ → Type 0 = λ ds. is_digits 18 ds ≡ true in
    let value : digits_number digits ≡ digits_number text = ap digits_number here in
    let nothing : 0 ≡ tail = same_Some 0 tail k in
    whole (subst P here h) (omega arith)
back_rest text digits (c ∷ fraction) tail units t h k e =
    let point = guarded (c == 46) (fraction_of fraction) tail k in
    let behind = guarded (is_digits 9 fraction) (Some (fraction_units fraction)) tail point.1 in
    let mark : digits ++ c ∷ fraction ≡ digits ++ 46 ∷ fraction = ap (λ (b : ℕ). digits ++ b ∷ fraction) (same_of c 46 point.0) in
    let value : fraction_units fraction ≡ tail = same_Some _ _ behind.1 in
    with_fraction digits fraction (sym t ∙ mark) h behind.0 (sym e ∙ ap (λ n. digits_number digits * UNITS + n) (sym value))

back_at : (text digits rest : List ℕ) (units : ℕ) → digits ++ rest ≡ text → join_units (number_of 18 digits) (tail_of rest) ≡ Some units → WritesSize text units
back_at text digits rest units t h =
    let a = chained _ (number_of 18 digits) units h in
    let g = guarded (is_digits 18 digits) (Some (digits_number digits)) a.0 a.1 in
    let m = mapped _ (tail_of rest) units a.2 in
    let value : digits_number digits ≡ a.0 = same_Some _ _ g.1 in
    back_rest text digits rest m.0 units t g.0 m.1 (ap (λ n. n * UNITS + m.0) value ∙ m.2)

pub size_back : (text : List ℕ) (units : ℕ) → size_of text ≡ Some units → WritesSize text units
unfolding size_of
size_back text units h = back_at text (take (digit_run text) text) (drop (digit_run text) text) units (take-append-drop (digit_run text) text) h

-- a digit is no sign
no_sign : (digits rest : List ℕ) → is_digits 18 digits ≡ true → (has_sign (digits ++ rest) ≡ false) × (after_sign (digits ++ rest) ≡ digits ++ rest)
no_sign [] rest h = absurd (cc)
no_sign (d ∷ digits) rest h =
    let first = (both (is_ascii_digit d) (list_all is_ascii_digit digits) (only_digits 18 (d ∷ digits) h)).0 in
    let e : (d == 45) ≡ false = grind (arith, common_steps) in
    (e, rw e refl)

size_no_sign : (text : List ℕ) (units : ℕ) → WritesSize text units → (has_sign text ≡ false) × (after_sign text ≡ text)
size_no_sign text units (whole h e) =
    let P : List ℕ → Type 0 = λ t. (has_sign t ≡ false) × (after_sign t ≡ t) in
    subst P (append-nil text) (no_sign text [] h)
size_no_sign text units (with_fraction digits fraction t h k e) =
    let P : List ℕ → Type 0 = λ t. (has_sign t ≡ false) × (after_sign t ≡ t) in
    subst P (sym t) (no_sign digits (46 ∷ fraction) h)

forth_of : (text unsigned_text : List ℕ) (negative : Bool) (size : ℕ) → has_sign text ≡ negative → after_sign text ≡ unsigned_text → size_of unsigned_text ≡ Some size → decimal_of text ≡ Some (signed_number negative size)
forth_of text unsigned_text negative size e f h = rw (e, f, h) refl

pub decimal_forth : (text : List ℕ) (units : ℤ) → WritesDecimal text units → decimal_of text ≡ Some units
decimal_forth text units (unsigned size w e) =
    let plain = size_no_sign text size w in
    forth_of text text false size plain.0 plain.1 (size_forth text size w) ∙ ap (λ (z : ℤ). Some z) (sym e)
decimal_forth text units (negated unsigned_text size t w e) =
    rw t (forth_of (45 ∷ unsigned_text) unsigned_text true size refl refl (size_forth unsigned_text size w) ∙ ap (λ (z : ℤ). Some z) (sym e))

back_signed : (text unsigned_text : List ℕ) (units : ℤ) → text ≡ 45 ∷ unsigned_text → option_map (signed_number true) (size_of unsigned_text) ≡ Some units → WritesDecimal text units
back_signed text unsigned_text units t h =
    let m = mapped (signed_number true) (size_of unsigned_text) units h in
    negated unsigned_text m.0 t (size_back unsigned_text m.0 m.1) (sym m.2)

back_plain : (text : List ℕ) (units : ℤ) → option_map (signed_number false) (size_of text) ≡ Some units → WritesDecimal text units
back_plain text units h =
    let m = mapped (signed_number false) (size_of text) units h in
    unsigned m.0 (size_back text m.0 m.1) (sym m.2)

pub decimal_back : (text : List ℕ) (units : ℤ) → decimal_of text ≡ Some units → WritesDecimal text units
decimal_back [] units h = back_plain [] units h
decimal_back (c ∷ text) units h =
    by_bool (c == 45)
    (λ e. back_signed (c ∷ text) text units (ap (λ (b : ℕ). b ∷ text) (same_of c 45 e)) (rw e at h))
    (λ e. back_plain (c ∷ text) units (rw e at h))
