-- The texts that meet what tests want, and the texts that their patterns match as the path answers.
use Rattle.std.proofs.Common.{◌≡◌, ◌≢◌, ℕ, zero, suc, ◌+◌, ◌<◌, List, [], ◌∷◌, ◌++◌, length, drop, map, flat_map, get_or, Bool, true, false, Option, Some, None, unwrap_or, IsSome, All, Any, MatchBool, refl, sym, ap, ◌∙◌, subst, arith}
use Rattle.std.specs.Option.{option_to_list}
use Rattle.std.proofs.lemmas.List.Elements.{All-nil, All-cons, All-head, All-tail}
use Rattle.wildcard_lang.specs.declared.piece.Piece.{Piece}
use Rattle.wildcard_lang.specs.declared.piece.Piece.TheVariants.{Many}
use Rattle.wildcard_lang.specs.Text.{IsText}
use Rattle.wildcard_lang.specs.Matching.{Matches, no_pieces, takes_one, is_done, takes_more}
use Rattle.formula_tree.specs.Answers.{Answers, answer_of}
use Rattle.pattern_automata.specs.declared.wants.Literal.{Literal}
use Rattle.pattern_automata.specs.declared.wants.Wants.{Wants}
use Rattle.pattern_automata.specs.Closed.{InRange, IsClosed, IsLiteralMet, Meets}
use Rattle.pattern_automata.proofs.Laws.{closed_sets_are_empty}
use Rattle.policy_model.specs.declared.test.Test.{Test}
use Rattle.policy_model.specs.Requests.{FitsShape, IsWord}
use Rattle.slot_theory.specs.Slots.{HasPattern, pattern_of, some_word, test_at}
use Rattle.slot_theory.specs.Wants.{IsClosedFor, IsWants, shape_clauses, wanted_clause, wanted_clauses, wanted_patterns}

-- ---- patterns by their numbers

drop-head : {X : Type 0} (xs : List X) (i : ℕ) (x d : X) (rest : List X) → drop i xs ≡ x ∷ rest → get_or xs i d ≡ x
drop-head [] zero x d rest e = absurd (cc)
drop-head [] (suc i) x d rest e = absurd (cc)
drop-head (y ∷ xs) zero x d rest e = cc
drop-head (y ∷ xs) (suc i) x d rest e = drop-head xs i x d rest e

drop-tail : {X : Type 0} (xs : List X) (i : ℕ) (x : X) (rest : List X) → drop i xs ≡ x ∷ rest → drop (i + 1) xs ≡ rest
drop-tail [] zero x rest e = absurd (cc)
drop-tail [] (suc i) x rest e = absurd (cc)
drop-tail (y ∷ xs) zero x rest e = cc
drop-tail (y ∷ xs) (suc i) x rest e = let a : suc i + 1 ≡ suc (i + 1) = omega arith in rw a (drop-tail xs i x rest e)

drop-within : {X : Type 0} (xs : List X) (i : ℕ) (x : X) (rest : List X) → drop i xs ≡ x ∷ rest → i < length xs
drop-within [] zero x rest e = absurd (cc)
drop-within [] (suc i) x rest e = absurd (cc)
drop-within (y ∷ xs) zero x rest e = omega arith
drop-within (y ∷ xs) (suc i) x rest e = omega (arith, drop-within xs i x rest e)

any-one : (P : Literal → Type 0) (l : Literal) → P l → Any P (l ∷ [])
any-one P l p = (0, l, omega arith, refl, p)

one-any : (P : Literal → Type 0) (l : Literal) → Any P (l ∷ []) → P l
one-any P l w = let e : w.0 ≡ 0 = omega (arith, w.2) in subst P (sym (sym (ap (λ k. get_or (l ∷ []) k w.1) e) ∙ w.3)) w.4

-- ---- what `?*` matches

pub many-all : (t : List ℕ) → Matches (Many ∷ []) t
many-all [] = is_done refl no_pieces
many-all (c ∷ t) = takes_more refl refl (many-all t)

some-matches : (t : List ℕ) → t ≢ [] → Matches some_word t
some-matches [] h = absurd (h refl)
some-matches (c ∷ t) h = takes_one refl refl (many-all t)

some-is : (t : List ℕ) → Matches some_word t → t ≢ []
some-is t (takes_one a b m) e = absurd (cc)
some-is t (is_done a m) e = absurd (cc)
some-is t (takes_more a b m) e = absurd (cc)

-- ---- the clauses of some tests

-- the pattern matches the text or not, as is wanted
abbrev pub MatchesSo : List Piece → List ℕ → Bool → Type 0
MatchesSo p w holds = MatchBool holds (Matches p w) (Matches p w → ⊥)

-- the pattern of a test that has one
abbrev pub own_pattern : Test → List Piece
own_pattern t = unwrap_or (pattern_of t) []

-- the pattern of the test matches the text as the path answers the test
abbrev pub IsMatchedSo : List Test → Answers → List ℕ → ℕ → Type 0
IsMatchedSo tests path w n = MatchesSo (own_pattern (test_at tests n)) w (unwrap_or (answer_of path n) false)

one-pattern : (o : Option (List Piece)) (xs ys rest : List (List Piece)) → IsSome o → xs ++ rest ≡ ys → (option_to_list o ++ xs) ++ rest ≡ unwrap_or o [] ∷ ys
one-pattern None xs ys rest h e = absurd (cc)
one-pattern (Some p) xs ys rest h e = ap (λ (zs : List (List Piece)). p ∷ zs) e

module _ (tests : List Test) (path : Answers) (shape : Option (List Piece)) where
  abbrev own : ℕ → List Piece
  own n = own_pattern (test_at tests n)

  abbrev holds : ℕ → Bool
  holds n = unwrap_or (answer_of path n) false

  abbrev all : List ℕ → List (List Piece)
  all numbers = map own numbers ++ some_word ∷ option_to_list shape

  abbrev clauses : List ℕ → ℕ → List (List Literal)
  clauses numbers i = wanted_clauses path numbers shape i

  abbrev last : ℕ → List (List Literal)
  last i = shape_clauses shape (i + 1)

  abbrev shapes : List (List Piece)
  shapes = option_to_list shape

  -- the wanted patterns are one for each of the tests, where each has one
  pub same-patterns : (numbers : List ℕ) → All (HasPattern tests) numbers → wanted_patterns tests numbers shape ≡ all numbers
  same-patterns [] has = refl
  same-patterns (n ∷ numbers) has =
      one-pattern (pattern_of (test_at tests n)) (flat_map (λ m. option_to_list (pattern_of (test_at tests m))) numbers) (all numbers) (some_word ∷ shapes) (All-head (HasPattern tests) n numbers has)
      (same-patterns numbers (All-tail (HasPattern tests) n numbers has))

  module _ (patterns : List (List Piece)) where
    abbrev R : List Literal → Type 0
    R = All (λ (l : Literal). l.pattern < length patterns)

    one-range : (i : ℕ) (b : Bool) → i < length patterns → R (wanted_clause i b)
    one-range i b h = All-cons (λ (l : Literal). l.pattern < length patterns) (record { pattern = i; holds = b }) [] h (All-nil (λ (l : Literal). l.pattern < length patterns))

    shape-range : (given : Option (List Piece)) (i : ℕ) → drop i patterns ≡ option_to_list given → InRange (length patterns) (shape_clauses given i)
    shape-range None i e = All-nil R
    shape-range (Some p) i e = All-cons R (wanted_clause i true) [] (one-range i true (drop-within patterns i p [] e)) (All-nil R)

    in-range : (numbers : List ℕ) (i : ℕ) → drop i patterns ≡ all numbers → InRange (length patterns) (clauses numbers i)
    in-range [] i e =
        All-cons R (wanted_clause i true) (last i) (one-range i true (drop-within patterns i some_word shapes e)) (shape-range shape (i + 1) (drop-tail patterns i some_word shapes e))
    in-range (n ∷ numbers) i e =
        All-cons R (wanted_clause i (holds n)) (clauses numbers (i + 1)) (one-range i (holds n) (drop-within patterns i (own n) (all numbers) e))
        (in-range numbers (i + 1) (drop-tail patterns i (own n) (all numbers) e))

    module _ (w : List ℕ) where
      abbrev M : List Literal → Type 0
      M = Any (IsLiteralMet patterns w)

      meets-wanted : (i : ℕ) (b : Bool) (p : List Piece) (rest : List (List Piece)) → drop i patterns ≡ p ∷ rest → MatchesSo p w b → M (wanted_clause i b)
      meets-wanted i b p rest e m =
          any-one (IsLiteralMet patterns w) (record { pattern = i; holds = b }) (subst (λ (q : List Piece). MatchesSo q w b) (sym (drop-head patterns i p [] rest e)) m)

      wanted-met : (i : ℕ) (b : Bool) (p : List Piece) (rest : List (List Piece)) → drop i patterns ≡ p ∷ rest → M (wanted_clause i b) → MatchesSo p w b
      wanted-met i b p rest e m =
          subst (λ (q : List Piece). MatchesSo q w b) (drop-head patterns i p [] rest e) (one-any (IsLiteralMet patterns w) (record { pattern = i; holds = b }) m)

      meets-shape : (given : Option (List Piece)) (i : ℕ) → drop i patterns ≡ option_to_list given → FitsShape given w → Meets patterns (shape_clauses given i) w
      meets-shape None i e m = All-nil M
      meets-shape (Some p) i e m = All-cons M (wanted_clause i true) [] (meets-wanted i true p [] e m) (All-nil M)

      shape-met : (given : Option (List Piece)) (i : ℕ) → drop i patterns ≡ option_to_list given → Meets patterns (shape_clauses given i) w → FitsShape given w
      shape-met None i e m = tt
      shape-met (Some p) i e m = wanted-met i true p [] e (All-head M (wanted_clause i true) [] m)

      -- a text that the tests' patterns match so, that `?*` matches and that fits the shape meets the clauses
      meets-all : (numbers : List ℕ) (i : ℕ) → drop i patterns ≡ all numbers → All (IsMatchedSo tests path w) numbers → Matches some_word w → FitsShape shape w → Meets patterns (clauses numbers i) w
      meets-all [] i e so some fits =
          All-cons M (wanted_clause i true) (last i) (meets-wanted i true some_word shapes e some) (meets-shape shape (i + 1) (drop-tail patterns i some_word shapes e) fits)
      meets-all (n ∷ numbers) i e so some fits =
          All-cons M (wanted_clause i (holds n)) (clauses numbers (i + 1)) (meets-wanted i (holds n) (own n) (all numbers) e (All-head (IsMatchedSo tests path w) n numbers so))
          (meets-all numbers (i + 1) (drop-tail patterns i (own n) (all numbers) e) (All-tail (IsMatchedSo tests path w) n numbers so) some fits)

      -- and the other way
      all-so : (numbers : List ℕ) (i : ℕ) → drop i patterns ≡ all numbers → Meets patterns (clauses numbers i) w → All (IsMatchedSo tests path w) numbers
      all-so [] i e m = All-nil (IsMatchedSo tests path w)
      all-so (n ∷ numbers) i e m =
          All-cons (IsMatchedSo tests path w) n numbers (wanted-met i (holds n) (own n) (all numbers) e (All-head M (wanted_clause i (holds n)) (clauses numbers (i + 1)) m))
          (all-so numbers (i + 1) (drop-tail patterns i (own n) (all numbers) e) (All-tail M (wanted_clause i (holds n)) (clauses numbers (i + 1)) m))

      all-some : (numbers : List ℕ) (i : ℕ) → drop i patterns ≡ all numbers → Meets patterns (clauses numbers i) w → Matches some_word w
      all-some [] i e m = wanted-met i true some_word shapes e (All-head M (wanted_clause i true) (last i) m)
      all-some (n ∷ numbers) i e m = all-some numbers (i + 1) (drop-tail patterns i (own n) (all numbers) e) (All-tail M (wanted_clause i (holds n)) (clauses numbers (i + 1)) m)

      all-fits : (numbers : List ℕ) (i : ℕ) → drop i patterns ≡ all numbers → Meets patterns (clauses numbers i) w → FitsShape shape w
      all-fits [] i e m = shape-met shape (i + 1) (drop-tail patterns i some_word shapes e) (All-tail M (wanted_clause i true) (last i) m)
      all-fits (n ∷ numbers) i e m = all-fits numbers (i + 1) (drop-tail patterns i (own n) (all numbers) e) (All-tail M (wanted_clause i (holds n)) (clauses numbers (i + 1)) m)

  module _ (numbers : List ℕ) (has : All (HasPattern tests) numbers) where
    -- the literals of what is wanted name its patterns
    wanted-range : InRange (length (all numbers)) (clauses numbers 0)
    wanted-range = in-range (all numbers) numbers 0 refl

    pub wants-range : (wants : Wants) → IsWants tests path numbers shape wants → InRange (length wants.patterns) wants.clauses
    wants-range wants is = let patterns : wants.patterns ≡ all numbers = is.patterns ∙ same-patterns numbers has in rw (patterns, is.clauses) wanted-range

    met-all : (w : List ℕ) → Meets (wanted_patterns tests numbers shape) (clauses numbers 0) w → Meets (all numbers) (clauses numbers 0) w
    met-all w m = subst (λ (ps : List (List Piece)). Meets ps (clauses numbers 0) w) (same-patterns numbers has) m

    -- a text that meets what is wanted is a word of the shape, which the patterns match so
    pub met-word : (w : List ℕ) → IsText w → Meets (wanted_patterns tests numbers shape) (clauses numbers 0) w → IsWord shape w
    met-word w text met = let m = met-all w met in record { text = text; nonempty = some-is w (all-some (all numbers) w numbers 0 refl m); fits = all-fits (all numbers) w numbers 0 refl m }

    pub met-so : (w : List ℕ) → Meets (wanted_patterns tests numbers shape) (clauses numbers 0) w → All (IsMatchedSo tests path w) numbers
    met-so w met = all-so (all numbers) w numbers 0 refl (met-all w met)

    -- a closed set has no such word
    pub closed-none : (closed : List (List (List ℕ))) (w : List ℕ) → IsClosedFor tests path numbers shape closed → IsWord shape w → All (IsMatchedSo tests path w) numbers → ⊥
    closed-none closed w set is so =
        let own_set : IsClosed (all numbers) (clauses numbers 0) closed = subst (λ (ps : List (List Piece)). IsClosed ps (clauses numbers 0) closed) (same-patterns numbers has) set in
        closed_sets_are_empty (all numbers) (clauses numbers 0) closed wanted-range own_set w is.text (meets-all (all numbers) w numbers 0 refl so (some-matches w is.nonempty) is.fits)
