-- Texts of which none is another one, one by one.
use Rattle.std.proofs.Common.{◌≡◌, ◌∙◌, ◌&&◌, ◌<◌, ◌≤◌, ◌+◌, ◌-◌, ℕ, Bool, true, false, not, length, drop, take, get_or, ap, sym, arith, List}
use Rattle.std.specs.Prelude.{String, string_bytes}
use Rattle.std.proofs.lemmas.List.{at_drop_more, drop_all, length-drop, take_all}
use Rattle.command_words.specs.Asked.{are_distinct, is_one_of, texts_in}

-- what is left behind an index
rest : {X : Type 0} (xs : List X) (k : ℕ) → take (length xs - k) (drop k xs) ≡ drop k xs
rest xs k = take_all (length xs - k) (drop k xs) (omega (arith, length-drop k xs))

step : {Z : Type 0} (xs : List (String Z)) (i : ℕ) (x : String Z) (found : Bool) → i < length xs → x ≡ get_or xs i x
    → found ≡ is_one_of (string_bytes x) (texts_in (take (length xs - (i + 1)) (drop (i + 1) xs)))
    → are_distinct (texts_in (drop i xs)) ≡ (not found && are_distinct (texts_in (drop (i + 1) xs)))
step xs i x found within is at =
    at_drop_more (λ l. are_distinct (texts_in l)) xs i x within
    ∙ (ap (λ y. not (is_one_of (string_bytes y) (texts_in (drop (i + 1) xs))) && are_distinct (texts_in (drop (i + 1) xs))) (sym is)
    ∙ ap (λ b. not b && are_distinct (texts_in (drop (i + 1) xs))) (sym (at ∙ ap (λ l. is_one_of (string_bytes x) (texts_in l)) (rest xs (i + 1)))))

pub repeated : {Z : Type 0} (xs : List (String Z)) (i : ℕ) (x : String Z) (found : Bool) → i < length xs → x ≡ get_or xs i x
    → found ≡ is_one_of (string_bytes x) (texts_in (take (length xs - (i + 1)) (drop (i + 1) xs))) → found ≡ true → are_distinct (texts_in (drop i xs)) ≡ false
repeated xs i x found within is at same =
    step xs i x found within is at ∙ ap (λ b. not b && are_distinct (texts_in (drop (i + 1) xs))) same

pub differing : {Z : Type 0} (xs : List (String Z)) (i : ℕ) (x : String Z) (found : Bool) → i < length xs → x ≡ get_or xs i x
    → found ≡ is_one_of (string_bytes x) (texts_in (take (length xs - (i + 1)) (drop (i + 1) xs))) → found ≡ false
    → are_distinct (texts_in (drop i xs)) ≡ are_distinct (texts_in (drop (i + 1) xs))
differing xs i x found within is at no_other =
    step xs i x found within is at ∙ ap (λ b. not b && are_distinct (texts_in (drop (i + 1) xs))) no_other

pub all_distinct : {Z : Type 0} (xs : List (String Z)) (i : ℕ) → length xs ≤ i → are_distinct (texts_in (drop i xs)) ≡ true
all_distinct xs i past = ap (λ l. are_distinct (texts_in l)) (drop_all i xs past)
