-- The characters of a machine stand for all scalars, and a move that leads as an earlier one is no step more.
use Rattle.std.proofs.Common.{◌≡◌, ℕ, zero, suc, ◌+◌, ◌<◌, ◌≤◌, Bool, true, false, eqb, is_some, refl, sym, ap, ◌∙◌, subst, inl, inr, arith, List, [], ◌∷◌, ◌++◌, length, get_or, take, Option, None, Some, MatchOption, All, Contains}
use Rattle.std.specs.Char.{IsScalar}
use Rattle.std.proofs.lemmas.Bool.{cases_Bool, both_ways, eq-eqb, eqb-true, or_cases, or_left, or_right, MatchBool-at_true, MatchBool-at_false}
use Rattle.std.proofs.lemmas.List.Folds.{list_any-append}
use Rattle.std.proofs.lemmas.List.Elements.{All-cons, All-tail}
use Rattle.wildcard_lang.specs.declared.piece.Piece.{Piece}
use Rattle.wildcard_lang.specs.Places.{contains_place}
use Rattle.pattern_automata.specs.declared.wants.Literal.{Literal}
use Rattle.pattern_automata.specs.declared.moves.Move.{Move}
use Rattle.pattern_automata.specs.declared.tree.Parent.{Parent}
use Rattle.pattern_automata.specs.Closed.{is_named_character}
use Rattle.pattern_automata.specs.Marks.{mark_count, all_marks, all_reached}
use Rattle.pattern_automata.specs.Moves.{IsMove, characters_of}
use Rattle.pattern_automata.specs.Packed.{pack, all_words}
use Rattle.pattern_automata.specs.Spare.{IsPrintable, IsSpareOf, IsSpare}
use Rattle.pattern_automata.specs.Machine.{IsAlphabet, IsKnown, StandForAll}
use Rattle.pattern_automata.specs.Tree.{IsBase, IsSearch, IsVisited}
use Rattle.pattern_automata.proofs.Empty.{step_lists-alike}
use Rattle.pattern_automata.proofs.Leading.{reached-marks}
use Rattle.pattern_automata.proofs.Moving.{characters-more}
use Rattle.pattern_automata.proofs.Parts.{length-all_marks}

has-at : (xs : List ℕ) (k d : ℕ) → k < length xs → contains_place xs (get_or xs k d) ≡ true
has-at [] k d h = absurd (omega arith)
has-at (x ∷ xs) zero d h = or_left _ _ (eq-eqb x x refl)
has-at (x ∷ xs) (suc k) d h = or_right _ _ (has-at xs k d (omega arith))

-- ---- the alphabet

printable-scalar : (d : ℕ) → IsPrintable d → IsScalar d
printable-scalar d h = grind (arith, h.0, h.1)

module _ (patterns : List (List Piece)) (keys : List ℕ) (names : (d : ℕ) → IsScalar d → contains_place keys d ≡ is_named_character patterns d) where
  all-known : All (IsKnown patterns) keys
  all-known k d h s = inl (sym (names (get_or keys k d) s) ∙ has-at keys k d h)

  spare-known : (x : ℕ) → IsSpareOf keys x → IsSpare patterns x
  spare-known x spare = record {
    scalar = spare.scalar;
    new = sym (names x spare.scalar) ∙ spare.new;
    printable = λ d p n. spare.printable d p (names d (printable-scalar d p) ∙ n);
  }

  pub alphabet-of : (first all : List ℕ) (spare : Option ℕ) → MatchOption spare ((d : ℕ) → IsScalar d → contains_place keys d ≡ true) (IsSpareOf keys) →
      MatchOption spare (first ≡ []) (λ c. first ≡ c ∷ []) → all ≡ first ++ keys → IsAlphabet patterns all (is_some spare)
  alphabet-of first all None none empty is = rw (is, empty) (record {
    known = all-known;
    named_ones = λ c s n. names c s ∙ n;
    first = λ c s. sym (names c s) ∙ none c s;
  })
  alphabet-of first all (Some x) spare one is = rw (is, one) (record {
    known = All-cons (IsKnown patterns) x keys (λ s. inr (spare-known x spare)) all-known;
    named_ones = λ c s n. or_right _ _ (names c s ∙ n);
    first = (omega arith, spare.scalar, sym (names x spare.scalar) ∙ spare.new);
  })

pub stands : (patterns : List (List Piece)) (characters : List ℕ) (spared : Bool) → IsAlphabet patterns characters spared → StandForAll patterns characters
stands patterns characters spared alphabet c s =
    elim (cases_Bool (is_named_character patterns c)) [
      | inl e ↦ (c, s, alphabet.named_ones c s e, λ lists. refl)
      | inr e ↦
          elim (cases_Bool spared) [
            | inl t ↦
                let first = MatchBool-at_true _ _ t alphabet.first in
                (get_or characters 0 0, first.1, has-at characters 0 0 first.0, λ lists. step_lists-alike c (get_or characters 0 0) patterns lists e first.2)
            | inr f ↦ absurd (both_ways (is_named_character patterns c) e (MatchBool-at_false _ _ f alphabet.first c s))
          ]
    ]

-- ---- moves that lead as the first one

pub earlier-there : (moves : List Move) (e k : ℕ) → e < k → k ≤ length moves → contains_place (characters_of (take k moves)) (get_or (characters_of moves) e 0) ≡ true
earlier-there moves e zero h l = absurd (omega (arith, h))
earlier-there [] e (suc k) h l = absurd (omega (arith, l))
earlier-there (m ∷ ms) zero (suc k) h l = or_left _ _ (eq-eqb m.character m.character refl)
earlier-there (m ∷ ms) (suc e) (suc k) h l = or_right _ _ (earlier-there ms e k (omega (arith, h)) (omega (arith, l)))

module _ (patterns : List (List Piece)) (c x : ℕ) (state : List ℕ)
    (same : (marks : List Bool) → length marks ≡ mark_count patterns → state ≡ pack marks → pack (all_reached patterns marks c) ≡ pack (all_reached patterns marks x)) where
  words-same : (t : List ℕ) → state ≡ all_words patterns t → all_words patterns (t ++ x ∷ []) ≡ all_words patterns (t ++ c ∷ [])
  words-same t e =
      ap pack (sym (reached-marks patterns t x)) ∙ (sym (same (all_marks patterns t) (length-all_marks patterns t) e) ∙ ap pack (reached-marks patterns t c))

  pub search-skipped : (ends : List ℕ) (clauses : List (List Literal)) (characters here more : List ℕ) (found : List (List ℕ)) (i : ℕ) → get_or found i [] ≡ state → contains_place here x ≡ true →
      more ≡ here ++ c ∷ [] → IsSearch patterns ends clauses characters found i here → IsSearch patterns ends clauses characters found i more
  search-skipped ends clauses characters here more found i at there is before = record {
    none = before.none;
    done = before.done;
    now = λ d h.
        elim (or_cases (contains_place here d) _ (sym (list_any-append (λ y. eqb y d) here (c ∷ [])) ∙ rw is at h)) [
          | inl a ↦ before.now d a
          | inr b ↦
              elim (or_cases (eqb c d) false b) [
                | inl e ↦
                    let led = before.now x there in
                    let is' : c ≡ d = eqb-true c d e in
                    rw (← is') (led.0, led.1, λ t f. led.2 t f ∙ words-same t (sym at ∙ f))
                | inr f ↦ absurd (cc)
              ]
        ];
  }

-- one more character that leads to words of the index
pub index-more : (patterns : List (List Piece)) (c : ℕ) (index : List (List ℕ)) (here more : List ℕ) (marks : List Bool) → more ≡ here ++ c ∷ [] → Contains index (pack (all_reached patterns marks c)) →
    ((d : ℕ) → IsScalar d → contains_place here d ≡ true → Contains index (pack (all_reached patterns marks d))) → (d : ℕ) → IsScalar d → contains_place more d ≡ true → Contains index (pack (all_reached patterns marks d))
index-more patterns c index here more marks grown there before d s h =
    elim (or_cases (contains_place here d) _ (sym (list_any-append (λ y. eqb y d) here (c ∷ [])) ∙ rw grown at h)) [
      | inl a ↦ before d s a
      | inr b ↦
          elim (or_cases (eqb c d) false b) [
            | inl e ↦ subst (λ (y : ℕ). Contains index (pack (all_reached patterns marks y))) (eqb-true c d e) there
            | inr f ↦ absurd (cc)
          ]
    ]

pub earlier-scalar : (F : List (Option Piece)) (moves : List Move) (e : ℕ) → e < length moves → All (IsMove F) moves → IsScalar (get_or (characters_of moves) e 0)
earlier-scalar F [] e h all = absurd (omega (arith, h))
earlier-scalar F (m ∷ ms) zero h all = (all 0 m (omega arith)).scalar
earlier-scalar F (m ∷ ms) (suc e) h all = earlier-scalar F ms e (omega (arith, h)) (All-tail (IsMove F) m ms all)

-- one more move
module _ (patterns : List (List Piece)) (ends : List ℕ) (clauses : List (List Literal)) (moves : List Move) (k : ℕ) (step : Move) (within : k < length moves) (read : step ≡ get_or moves k step) where
  pub visited-next : (old found : List (List ℕ)) (parents : List Parent) (i limit : ℕ) → IsVisited patterns ends clauses old found parents i step.character limit →
      IsSearch patterns ends clauses (characters_of moves) old i (characters_of (take k moves)) →
      IsBase patterns ends clauses found parents limit × (i < length found) × IsSearch patterns ends clauses (characters_of moves) found i (characters_of (take (k + 1) moves))
  visited-next old found parents i limit visited search = (
    visited.base,
    visited.within,
    rw (characters-more moves k step within read) (visited.goes (characters_of moves) (characters_of (take k moves)) search),
  )

  pub skipped-next : (found : List (List ℕ)) (state : List ℕ) (i e : ℕ) → state ≡ get_or found i [] → e < k →
      ((marks : List Bool) → length marks ≡ mark_count patterns → state ≡ pack marks → pack (all_reached patterns marks step.character) ≡ pack (all_reached patterns marks (get_or (characters_of moves) e 0))) →
      IsSearch patterns ends clauses (characters_of moves) found i (characters_of (take k moves)) → IsSearch patterns ends clauses (characters_of moves) found i (characters_of (take (k + 1) moves))
  skipped-next found state i e is later same search =
      search-skipped patterns step.character (get_or (characters_of moves) e 0) state same ends clauses (characters_of moves) (characters_of (take k moves)) (characters_of (take (k + 1) moves)) found i (sym is)
      (earlier-there moves e k later (omega arith)) (characters-more moves k step within read) search
