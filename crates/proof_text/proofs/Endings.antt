-- Ends of lines, words alone, and labels that ended.
use Rattle.std.proofs.Common.{◌≡◌, ℕ, ◌<◌, ◌≤◌, Bool, true, false, not, ◌||◌, List, [], ◌∷◌, ◌++◌, length, get_or, Option, Some, None, Result, Ok, Err, MatchResult, is_some, option_map, Bor, eqb, nat_lt, refl, sym, ap, ◌∙◌, arith, inl, inr, zero, suc, ◌⊎◌}
use Rattle.std.proofs.lemmas.Bool.{cases_lt, eq-eqb, lt-ltb, ne_eqb}
use Rattle.std.proofs.lemmas.List.Elements.{All-from_get_or, All-head, All-tail}
use Rattle.std.specs.List.{All, list_any, slice_split}
use Rattle.std.specs.Option.{option_copied}
use Rattle.std.specs.Result.{is_err}
use Rattle.proof_text.specs.Faults.{has_ended}
use Rattle.proof_text.specs.LineForms.{content_of, said_alone}
use Rattle.proof_text.specs.Lines.{Line}
use Rattle.proof_text.specs.Steps.{parts_left}
use Rattle.proof_text.proofs.Bytes.{some-part}

-- ---- the end of a line

content-ended : (content : List ℕ) → content_of (content ++ 10 ∷ []) ≡ Some content
content-ended [] = refl
content-ended (b ∷ []) = refl
content-ended (b ∷ c ∷ cs) = ap (option_map (λ x. b ∷ x)) (content-ended (c ∷ cs))

content-last : (c : ℕ) → eqb c 10 ≡ false → content_of (c ∷ []) ≡ None
content-last c other = rw other

content-open : (content : List ℕ) (c : ℕ) → eqb c 10 ≡ false → content_of (content ++ c ∷ []) ≡ None
content-open [] c other = content-last c other
content-open (b ∷ []) c other = ap (option_map (λ x. b ∷ x)) (content-last c other)
content-open (b ∷ d ∷ ds) c other = ap (option_map (λ x. b ∷ x)) (content-open (d ∷ ds) c other)

pub content-some : (line content : List ℕ) (c : ℕ) → line ≡ content ++ c ∷ [] → c ≡ 10 → Some content ≡ content_of line
content-some line content c is same = sym (ap content_of (is ∙ ap (λ b. content ++ b ∷ []) same) ∙ content-ended content)

pub content-none : (line content : List ℕ) (c : ℕ) → line ≡ content ++ c ∷ [] → (c ≡ 10 → ⊥) → None ≡ content_of line
content-none line content c is other = sym (ap content_of is ∙ content-open content c (ne_eqb c 10 other))

-- ---- a word alone

alone-parts : (l : Line) (parts : List (List ℕ)) (part : List ℕ) (more : List (List ℕ)) → parts ≡ part ∷ more → said_alone l parts ≡ None
alone-parts l [] part more is = cc
alone-parts l (p ∷ ps) part more is = refl

pub alone-none : (l : Line) (behind : Option (Bor (List ℕ))) → is_some behind ≡ true → said_alone l (parts_left 32 (option_copied behind)) ≡ None
alone-none l None some = cc
alone-none l (Some text) some = let first = some-part (λ b. eqb b 32) text.now in alone-parts l (slice_split (λ b. eqb b 32) text.now) first.0 first.1 first.2

-- ---- labels that ended

any-none : (n : ℕ) (ns : List ℕ) → All (λ m. eqb m n ≡ false) ns → list_any (λ m. eqb m n) ns ≡ false
any-none n [] others = refl
any-none n (m ∷ ns) others =
    let P : ℕ → Type 0 = λ k. eqb k n ≡ false in
    let here : eqb m n ≡ false = All-head P m ns others in
    rw (here, any-none n ns (All-tail P m ns others))

or-true : (a b : Bool) → b ≡ true → (a || b) ≡ true
or-true true b e = refl
or-true false b e = e

any-at : (n : ℕ) (ns : List ℕ) (i : ℕ) → i < length ns → get_or ns i 0 ≡ n → list_any (λ m. eqb m n) ns ≡ true
any-at n [] i within is = absurd (omega arith)
any-at n (m ∷ ns) zero within is = let here : eqb m n ≡ true = eq-eqb m n is in rw here
any-at n (m ∷ ns) (suc i) within is = or-true (eqb m n) (list_any (λ k. eqb k n) ns) (any-at n ns i (omega arith) is)

other-at : (n k : ℕ) (ns : List ℕ) → (k < n) ⊎ (n < k) → eqb k n ≡ false
other-at n k ns (inl h) = ne_eqb k n (λ e. omega arith)
other-at n k ns (inr h) = ne_eqb k n (λ e. omega arith)

ended-by : (begun n : ℕ) (inside : List ℕ) (b : Bool) → n < begun → list_any (λ m. eqb m n) inside ≡ b → has_ended begun inside n ≡ not b
ended-by begun n inside b within is = let first : nat_lt n begun ≡ true = lt-ltb n begun within in rw (first, is)

pub ended-is : (begun n : ℕ) (inside : List ℕ) (r : Result ℕ ℕ) → n < begun →
    MatchResult r (λ i. (i < length inside) × (get_or inside i 0 ≡ n)) (λ i. (i ≤ length inside) × ((k : ℕ) → k < i → get_or inside k 0 < n) × ((k : ℕ) → i ≤ k → k < length inside → n < get_or inside k 0)) → is_err r ≡ has_ended begun inside n
ended-is begun n inside (Ok i) within found = sym (ended-by begun n inside true within (any-at n inside i found.0 found.1))
ended-is begun n inside (Err i) within missing =
    let others = All-from_get_or (λ m. eqb m n ≡ false) inside 0 (λ k h. elim (cases_lt k i) [
      | inl below ↦ other-at n (get_or inside k 0) inside (inl (missing.1 k below))
      | inr past ↦ other-at n (get_or inside k 0) inside (inr (missing.2 k past h))
    ]) in
    sym (ended-by begun n inside false within (any-none n inside others))
