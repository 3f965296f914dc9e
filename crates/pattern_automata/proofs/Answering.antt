-- What the search comes to answers the wants.
use Rattle.std.proofs.Common.{◌≡◌, ℕ, zero, suc, ◌+◌, ◌-◌, ◌<◌, ◌≤◌, List, [], ◌∷◌, ◌++◌, length, get_or, Bool, true, false, cond, Contains, IfOk, Result, Ok, Err, refl, sym, ap, ◌∙◌, subst, inl, inr, arith, take}
use Rattle.std.proofs.lemmas.Bool.{and_from}
use Rattle.std.proofs.lemmas.Bool.Decides.{nat_tests}
use Rattle.std.proofs.lemmas.List.{get_or_default, ext_get_or}
use Rattle.wildcard_lang.specs.declared.piece.Piece.{Piece}
use Rattle.std.specs.Char.{IsScalar}
use Rattle.wildcard_lang.specs.Accepts.{accepts, marks_of}
use Rattle.wildcard_lang.proofs.Laws.{length-marks_of, get_or-marks_of, has-places, step_lists-of}
use Rattle.pattern_automata.specs.declared.wants.Literal.{Literal}
use Rattle.pattern_automata.specs.declared.tree.Parent.{Parent}
use Rattle.pattern_automata.specs.declared.tree.Step.{Step}
use Rattle.pattern_automata.specs.declared.tree.Step.TheVariants.{Left, Met, Full}
use Rattle.pattern_automata.specs.declared.outcome.Product.{Product}
use Rattle.pattern_automata.specs.declared.outcome.Product.TheVariants.{Found, Empty, TooMany}
use Rattle.wildcard_lang.specs.Places.{ShowWider, contains_place, passing_numbers, places_of, lists_of, step_lists}
use Rattle.pattern_automata.specs.Closed.{InRange, Meets, lists_meet, IsRepresentative, rises_from, all_rise, IsShaped, IsClosed}
use Rattle.pattern_automata.specs.Marks.{all_marks, mark_count}
use Rattle.pattern_automata.specs.Packed.{all_words, pack, words_for}
use Rattle.pattern_automata.specs.Tree.{IsEnds, IsMet, IsFull, IsLeftOpen, IsOver, IsOutcome, Spells, words_meet}
use Rattle.pattern_automata.specs.Machine.{StandForAll}
use Rattle.pattern_automata.specs.Answer.{IsProduct, AreLists, AreTexts, IsReport}
use Rattle.wildcard_lang.specs.Text.{IsText}
use Rattle.pattern_automata.proofs.Scalars.{text-from_all}
use Rattle.pattern_automata.proofs.Wanting.{meets-to}
use Rattle.pattern_automata.proofs.Empty.{meets-of}
use Rattle.pattern_automata.proofs.Meeting.{words_meet-meets, ends-within}
use Rattle.pattern_automata.proofs.Searching.{text, words-length}
use Rattle.pattern_automata.proofs.Spelling.{spelled}

from-lower : (i k : ℕ) (js : List ℕ) → i ≤ k → rises_from k js ≡ true → rises_from i js ≡ true
from-lower i k [] h r = refl
from-lower i k (j ∷ js) h r = grind (arith, nat_tests)

pub from-rising : (f : ℕ → Bool) (i k : ℕ) → rises_from i (passing_numbers f i k) ≡ true
from-rising f i zero = refl
from-rising f i (suc k) =
    elim (f i) as (λ b. rises_from i (cond b (i ∷ passing_numbers f (i + 1) k) (passing_numbers f (i + 1) k)) ≡ true) [
      | true ↦ grind (arith, nat_tests, from-rising f (i + 1) k)
      | false ↦ from-lower i (i + 1) (passing_numbers f (i + 1) k) (omega arith) (from-rising f (i + 1) k)
    ]

pub length-lists_of : (ps : List (List Piece)) (t : List ℕ) → length (lists_of ps t) ≡ length ps
length-lists_of [] t = refl
length-lists_of (p ∷ ps) t = ap suc (length-lists_of ps t)

all-rising : (ps : List (List Piece)) (t : List ℕ) → all_rise (lists_of ps t) ≡ true
all-rising [] t = refl
all-rising (p ∷ ps) t = and_from _ _ (from-rising (λ i. accepts (take i p) t) 0 (length p + 1)) (all-rising ps t)

pub shaped-lists : (ps : List (List Piece)) (t : List ℕ) → IsShaped ps (lists_of ps t)
shaped-lists ps t = (length-lists_of ps t, all-rising ps t)

-- the product state tells the marks
marks-from_places : (p : List Piece) (t u : List ℕ) → places_of p t ≡ places_of p u → marks_of p t ≡ marks_of p u
marks-from_places p t u e =
    ext_get_or false (marks_of p t) (marks_of p u) (length-marks_of p t ∙ sym (length-marks_of p u))
    (λ j h.
    let l : j ≤ length p = omega (arith, length-marks_of p t) in
    get_or-marks_of p t j l ∙ (sym (has-places p t j l) ∙ (ap (λ x. contains_place x j) e ∙ (has-places p u j l ∙ sym (get_or-marks_of p u j l)))))

marks-from_lists : (ps : List (List Piece)) (t u : List ℕ) → lists_of ps t ≡ lists_of ps u → all_marks ps t ≡ all_marks ps u
marks-from_lists [] t u e = refl
marks-from_lists (p ∷ ps) t u e =
    let h : places_of p t ≡ places_of p u = cc in
    let k : lists_of ps t ≡ lists_of ps u = cc in
    rw (marks-from_places p t u h, marks-from_lists ps t u k) refl

words-from_lists : (ps : List (List Piece)) (t u : List ℕ) → lists_of ps t ≡ lists_of ps u → all_words ps t ≡ all_words ps u
words-from_lists ps t u e = ap pack (marks-from_lists ps t u e)

module _ (patterns : List (List Piece)) (ends : List ℕ) (clauses : List (List Literal)) (characters : List ℕ) (limit : ℕ)
    (are-ends : IsEnds patterns ends) (range : InRange (length patterns) clauses) where
  -- the search begins
  pub begins : (found : List (List ℕ)) (parents : List Parent) → found ≡ all_words patterns [] ∷ [] → length parents ≡ 1 → 1 ≤ limit →
      words_meet ends clauses (all_words patterns []) ≡ false → IsLeftOpen patterns ends clauses characters found parents 0 limit
  begins found parents is one some none =
      let first : get_or found 0 [] ≡ all_words patterns [] = ap (λ x. get_or x 0 []) is in
      let size : length found ≡ 1 = ap length is in
      record {
        base = record {
          tree = record {
            count = one ∙ sym size;
            nonempty = omega arith;
            first = first;
            next = λ i d h l. absurd (omega arith);
          };
          different = λ j k l h. absurd (omega arith);
          count = omega arith;
          range = subst (λ (n : ℕ). InRange n clauses) (sym are-ends.count) range;
          within = ends-within patterns ends are-ends;
        };
        search = record {
          none = λ j h. let z : j ≡ 0 = omega arith in rw (z, first) none;
          done = λ j c l h. absurd (omega arith);
          now = λ c h. absurd (cc);
        };
      }

  module _ (found : List (List ℕ)) (parents : List Parent) where
    pub sizes : (step : Step) → IsOutcome patterns ends clauses characters found parents limit step → (k : ℕ) → k < length found → length (get_or found k []) ≡ words_for (mark_count patterns)
    sizes Left o k h = words-length patterns found parents o.left.base.tree k h
    sizes Met o k h = words-length patterns found parents o.tree k h
    sizes Full o k h = words-length patterns found parents o.tree k h

    met : (t : List ℕ) → IsMet patterns ends clauses found parents → Spells parents (length parents - 1) t → Meets patterns clauses t × IsText t
    met t m spells =
        let s = spelled patterns found parents m.tree (length parents - 1) t spells in
        let last : get_or found (length found - 1) [] ≡ all_words patterns t = ap (λ n. get_or found (n - 1) []) (sym m.tree.count) ∙ s.0 in
        (meets-to patterns t clauses (sym (words_meet-meets patterns ends clauses t are-ends range) ∙ rw last at m.meets), text-from_all t s.1)

    full : (texts : List (List ℕ)) → IsFull patterns found parents limit → AreTexts parents texts → ShowWider patterns limit texts
    full texts f made = record {
      count = made.count ∙ (f.tree.count ∙ f.count);
      different = λ j k d l h same.
          let a = spelled patterns found parents f.tree j _ (made.each j (omega arith)) in
          let b = spelled patterns found parents f.tree k _ (made.each k h) in
          let e : lists_of patterns (get_or texts j []) ≡ lists_of patterns (get_or texts k []) = rw (get_or_default texts j d [] (omega arith), get_or_default texts k d [] h) at same in
          f.different j k l (omega (arith, made.count, f.tree.count)) (a.0 ∙ (words-from_lists patterns _ _ e ∙ sym b.0));
      scalars = λ k d h. rw (get_or_default texts k d [] h) (text-from_all _ (spelled patterns found parents f.tree k _ (made.each k h)).1);
    }

    module _ (closed : List (List (List ℕ))) (over : IsOver patterns ends clauses characters found parents limit) (lists : AreLists patterns found closed)
        (stand : StandForAll patterns characters) where
      text-at : (k : ℕ) → k < length closed → (t : List ℕ) × (get_or found k [] ≡ all_words patterns t) × (get_or closed k [] ≡ lists_of patterns t)
      text-at k h =
          let x = text patterns found parents over.left.base.tree k (omega (arith, lists.count)) in
          (x.text, x.is, lists.each k x.text h x.is)

      starts : Contains closed (lists_of patterns [])
      starts =
          let tree = over.left.base.tree in
          let h : 0 < length closed = omega (arith, lists.count, tree.nonempty) in
          (0, h, get_or_default closed 0 (lists_of patterns []) [] h ∙ lists.each 0 [] h tree.first)

      scalar-of : (c : ℕ) → IsRepresentative patterns c → IsScalar c
      scalar-of c r = elim r [ inl n ↦ n.0 | inr f ↦ f.scalar ]

      steps : (ls : List (List ℕ)) (c : ℕ) → Contains closed ls → IsRepresentative patterns c → Contains closed (step_lists patterns ls c)
      steps ls c inside r =
          let x = text-at inside.0 inside.1 in
          let are : ls ≡ lists_of patterns x.0 = sym inside.2 ∙ (get_or_default closed inside.0 ls [] inside.1 ∙ x.2) in
          let s = stand c (scalar-of c r) in
          let d : ℕ = s.0 in
          let led = over.left.search.done inside.0 d (omega (arith, inside.1, lists.count, over.all)) s.2 in
          let marks : led.0 ≡ all_words patterns (x.0 ++ d ∷ []) = led.2 x.0 x.1 in
          let there : get_or found led.1.0 [] ≡ all_words patterns (x.0 ++ d ∷ []) = get_or_default found led.1.0 [] led.0 led.1.1 ∙ (led.1.2 ∙ marks) in
          let h : led.1.0 < length closed = omega (arith, led.1.1, lists.count) in
          let next : step_lists patterns ls c ≡ lists_of patterns (x.0 ++ d ∷ []) = s.3 ls ∙ (ap (λ y. step_lists patterns y d) are ∙ step_lists-of patterns x.0 d) in
          (led.1.0, h, get_or_default closed led.1.0 (step_lists patterns ls c) [] h ∙ (lists.each led.1.0 _ h there ∙ sym next))

      none-meets : (ls : List (List ℕ)) → Contains closed ls → lists_meet patterns clauses ls ≡ false
      none-meets ls inside =
          let x = text-at inside.0 inside.1 in
          let are : ls ≡ lists_of patterns x.0 = sym inside.2 ∙ (get_or_default closed inside.0 ls [] inside.1 ∙ x.2) in
          let none : words_meet ends clauses (all_words patterns x.0) ≡ false = rw x.1 at (over.left.search.none inside.0 (omega (arith, inside.1, lists.count))) in
          ap (λ y. lists_meet patterns clauses y) are ∙ (meets-of patterns clauses x.0 range ∙ (sym (words_meet-meets patterns ends clauses x.0 are-ends range) ∙ none))

      closed-set : IsClosed patterns clauses closed × (length closed ≤ limit)
      closed-set = (
        record {
          shaped = λ k d h. let x = text-at k h in rw (get_or_default closed k d [] h, x.2) (shaped-lists patterns x.0);
          starts = starts;
          steps = steps;
          none_meets = none-meets;
        },
        omega (arith, lists.count, over.left.base.count),
      )

    product-of : (step : Step) (result : Product) → IsOutcome patterns ends clauses characters found parents limit step → IsReport patterns found parents step result →
        StandForAll patterns characters → IsProduct patterns clauses limit result
    product-of Left (Empty closed) o r reps = closed-set closed o r reps
    product-of Left (Found t) o r reps = absurd r
    product-of Left (TooMany texts) o r reps = absurd r
    product-of Met (Found t) o r reps = met t o r
    product-of Met (Empty closed) o r reps = absurd r
    product-of Met (TooMany texts) o r reps = absurd r
    product-of Full (TooMany texts) o r reps = full texts o r
    product-of Full (Found t) o r reps = absurd r
    product-of Full (Empty closed) o r reps = absurd r

    pub product-answer : {E : Type 0} (step : Step) (result : Result Product E) → IsOutcome patterns ends clauses characters found parents limit step →
        IfOk result (IsReport patterns found parents step) → StandForAll patterns characters →
        IfOk result (IsProduct patterns clauses limit)
    product-answer step (Ok result) o r reps = product-of step result o r reps
    product-answer step (Err e) o r reps = r

-- the empty text meets the wants
pub empty-text : (patterns : List (List Piece)) (ends : List ℕ) (clauses : List (List Literal)) (view : List ℕ) (t : List ℕ) → IsEnds patterns ends → InRange (length patterns) clauses →
    view ≡ all_words patterns [] → words_meet ends clauses view ≡ true → t ≡ [] → Meets patterns clauses t × IsText t
empty-text patterns ends clauses view t are range is holds empty =
    rw empty (meets-to patterns [] clauses (sym (words_meet-meets patterns ends clauses [] are range) ∙ rw is at holds), refl)
