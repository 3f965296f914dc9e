-- The loops of the check of a closed set.
use Rattle.std.proofs.Common.{◌≡◌, ℕ, ◌+◌, ◌<◌, ◌⊎◌, List, [], ◌∷◌, ◌++◌, length, get_or, Bool, true, false, All, Contains, refl, sym, ap, ◌∙◌, subst, inl, inr, arith, take}
use Rattle.std.specs.Bool.{MatchBool}
use Rattle.std.proofs.lemmas.Bool.{both_ways, cases_Bool, MatchBool-at_true, MatchBool-at_false}
use Rattle.std.proofs.lemmas.List.{take_more, get_or_default, get_or-take, length-append, length-take}
use Rattle.std.proofs.lemmas.List.Elements.{All-push, Contains-push, Contains-push_cases, Contains-append_left}
use Rattle.wildcard_lang.specs.declared.piece.Piece.{Piece}
use Rattle.wildcard_lang.proofs.Laws.{length-tests}
use Rattle.wildcard_lang.specs.Accepts.{tests}
use Rattle.wildcard_lang.specs.Places.{contains_place}
use Rattle.pattern_automata.specs.Marks.{marks_from, mark_count}
use Rattle.pattern_automata.specs.Packed.{pack}
use Rattle.pattern_automata.specs.Checked.{places_fit, words_from, AreIndexed, HasAlso, HasFittingOf, HasStateOf}

-- one more element, and all of them
pub all-more : {X : Type 0} (P : X → Type 0) (xs : List X) (i : ℕ) (x : X) → i < length xs → x ≡ get_or xs i x → P x → All P (take i xs) → All P (take (i + 1) xs)
all-more P xs i x h read p all = rw (take_more xs i x h, ← read) (All-push P (take i xs) x all p)

-- the words, and one more
pub also-push : (old new : List (List ℕ)) (words : List ℕ) → new ≡ old ++ words ∷ [] → HasAlso old words new
also-push old new words is w = (
  λ h. Contains-push_cases old words w (rw is at h),
  λ h. rw is (elim h [ inl c ↦ Contains-append_left old (words ∷ []) w c | inr e ↦ subst (λ (x : List ℕ). Contains (old ++ words ∷ []) x) e (Contains-push old words) ]),
)

pub also-there : (old : List (List ℕ)) (words : List ℕ) → Contains old words → HasAlso old words old
also-there old words there w = (λ h. inl h, λ h. elim h [ inl c ↦ c | inr e ↦ subst (λ (x : List ℕ). Contains old x) e there ])

pub index-none : (patterns : List (List Piece)) → AreIndexed patterns [] [] []
index-none patterns = record {
  fit = λ w. (λ h. absurd (omega (arith, h.1)), λ s. absurd (omega (arith, s.1.1)));
  other = λ w h. absurd (omega (arith, h.1));
  each = λ lists h. absurd (omega (arith, h.1));
}

-- one state more
module _ (patterns : List (List Piece)) (lists : List (List ℕ)) (closed more : List (List (List ℕ))) (grown : more ≡ closed ++ lists ∷ []) where
  older : (x : List (List ℕ)) → Contains closed x → Contains more x
  older x h = rw grown (Contains-append_left closed (lists ∷ []) x h)

  newest : Contains more lists
  newest = rw grown (Contains-push closed lists)

  which : (x : List (List ℕ)) → Contains more x → Contains closed x ⊎ (lists ≡ x)
  which x h = Contains-push_cases closed lists x (rw grown at h)

  module _ (fitting others : List (List ℕ)) (are : AreIndexed patterns closed fitting others) where
    still-fitting : (w : List ℕ) → Contains fitting w → HasFittingOf patterns more w
    still-fitting w h = let s = (are.fit w).0 h in (s.0, older s.0 s.1, s.2, s.3)

    still-other : (w : List ℕ) → Contains others w → HasStateOf patterns more w
    still-other w h = let s = are.other w h in (s.0, older s.0 s.1, s.2)

    pub index-known : Contains closed lists → AreIndexed patterns more fitting others
    index-known stands =
        let known : (x : List (List ℕ)) → Contains more x → Contains closed x =
        λ x h. elim (which x h) [ inl c ↦ c | inr e ↦ subst (λ (y : List (List ℕ)). Contains closed y) e stands ] in
        record {
          fit = λ w. (still-fitting w, λ s. (are.fit w).1 (s.0, known s.0 s.1, s.2, s.3));
          other = still-other;
          each = λ x h. are.each x (known x h);
        }

    index-fitting : (new : List (List ℕ)) → places_fit patterns lists ≡ true → HasAlso fitting (words_from patterns lists) new → AreIndexed patterns more new others
    index-fitting new fit also = record {
      fit = λ w. (
        λ h. elim ((also w).0 h) [ inl c ↦ still-fitting w c | inr e ↦ (lists, newest, fit, e) ],
        λ s. (also w).1 (elim (which s.0 s.1) [ inl c ↦ inl ((are.fit w).1 (s.0, c, s.2, s.3)) | inr e ↦ inr (ap (words_from patterns) e ∙ s.3) ]),
      );
      other = still-other;
      each = λ x h. elim (which x h) [
        | inl c ↦ elim (are.each x c) [ inl a ↦ inl ((also _).1 (inl a)) | inr b ↦ inr b ]
        | inr e ↦ inl ((also _).1 (inr (ap (words_from patterns) e)))
      ];
    }

    index-other : (new : List (List ℕ)) → places_fit patterns lists ≡ false → HasAlso others (words_from patterns lists) new → AreIndexed patterns more fitting new
    index-other new unfit also = record {
      fit = λ w. (
        still-fitting w,
        λ s. elim (which s.0 s.1) [ inl c ↦ (are.fit w).1 (s.0, c, s.2, s.3) | inr e ↦ absurd (both_ways (places_fit patterns s.0) (rw e at unfit) s.2) ],
      );
      other = λ w h. elim ((also w).0 h) [ inl c ↦ still-other w c | inr e ↦ (lists, newest, e) ];
      each = λ x h. elim (which x h) [
        | inl c ↦ elim (are.each x c) [ inl a ↦ inl a | inr b ↦ inr ((also _).1 (inl b)) ]
        | inr e ↦ inr ((also _).1 (inr (ap (words_from patterns) e)))
      ];
    }

    pub index-more : (fitting' others' : List (List ℕ)) →
        MatchBool (places_fit patterns lists) (HasAlso fitting (words_from patterns lists) fitting' × (others' ≡ others)) (HasAlso others (words_from patterns lists) others' × (fitting' ≡ fitting)) →
        AreIndexed patterns more fitting' others'
    index-more fitting' others' takes =
        elim (cases_Bool (places_fit patterns lists)) [
          | inl e ↦ let t = MatchBool-at_true _ _ e takes in rw t.1 (index-fitting fitting' e t.0)
          | inr e ↦ let t = MatchBool-at_false _ _ e takes in rw t.1 (index-other others' e t.0)
        ]

-- a state that stands at an earlier index too
pub stands-before : (closed : List (List (List ℕ))) (i j : ℕ) (x y : List (List ℕ)) → j < i → i < length closed → x ≡ get_or closed i [] → y ≡ get_or closed j [] → x ≡ y →
    Contains (take i closed) (get_or closed i [])
stands-before closed i j x y h within first second same =
    let z : List (List ℕ) = get_or closed i [] in
    (j, omega (arith, length-take i closed), get_or-take i closed j z h ∙ (get_or_default closed j z [] (omega arith) ∙ (sym second ∙ (sym same ∙ first))))

pub length-marks_from : (ps : List (List Piece)) (lists : List (List ℕ)) → length lists ≡ length ps → length (marks_from ps lists) ≡ mark_count ps
length-marks_from [] lists n = refl
length-marks_from (p ∷ ps) [] n = absurd (omega arith)
length-marks_from (p ∷ ps) (l ∷ ls) n =
    length-append (tests (contains_place l) 0 (length p + 1)) (marks_from ps ls) ∙ rw (length-tests (contains_place l) 0 (length p + 1), length-marks_from ps ls (omega arith)) refl

-- marks of words that passed, and of one more
pub passed-more : {P : List Bool → Type 0} (n : ℕ) (old new : List (List ℕ)) (words : List ℕ) → new ≡ old ++ words ∷ [] → ((marks : List Bool) → length marks ≡ n → words ≡ pack marks → P marks) →
    ((marks : List Bool) → length marks ≡ n → Contains old (pack marks) → P marks) → (marks : List Bool) → length marks ≡ n → Contains new (pack marks) → P marks
passed-more n old new words is one all marks size there =
    elim (Contains-push_cases old words (pack marks) (rw is at there)) [ inl c ↦ all marks size c | inr e ↦ one marks size e ]
