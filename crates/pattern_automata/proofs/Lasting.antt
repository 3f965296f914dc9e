-- Patterns whose machines differ in characters alone have the same closed sets.
use Rattle.std.proofs.Common.{◌≡◌, ℕ, zero, suc, ◌+◌, ◌*◌, ◌<◌, Bool, true, false, not, ◌||◌, ◌&&◌, eqb, refl, sym, ap, ◌∙◌, subst, inl, inr, arith, List, [], ◌∷◌, ◌++◌, length, map, get_or, take, drop, Option, None, Some, All, Contains}
use Rattle.std.specs.Prelude.{slice_index}
use Rattle.std.specs.Char.{IsScalar}
use Rattle.std.proofs.lemmas.Bool.{eqb-true, or_cases}
use Rattle.std.proofs.lemmas.List.{ext_get_or, length-map, take_at, drop_at}
use Rattle.std.proofs.lemmas.List.Elements.{All-head, All-tail}
use Rattle.wildcard_lang.specs.declared.piece.Piece.{Piece}
use Rattle.wildcard_lang.specs.declared.piece.Piece.TheVariants.{One}
use Rattle.wildcard_lang.specs.Matching.{takes, is_many}
use Rattle.wildcard_lang.specs.Accepts.{accepts, reaches}
use Rattle.wildcard_lang.specs.Places.{contains_place, passing_numbers, lists_of, step_lists}
use Rattle.pattern_automata.specs.declared.fronts.Kind.TheVariants.{Passes, Keeps, Leads}
use Rattle.pattern_automata.specs.declared.machine.Machine.{Machine}
use Rattle.pattern_automata.specs.declared.moves.Masks.{Masks}
use Rattle.pattern_automata.specs.declared.moves.Patch.{Patch}
use Rattle.pattern_automata.specs.declared.moves.Move.{Move}
use Rattle.pattern_automata.specs.declared.wants.Literal.{Literal}
use Rattle.pattern_automata.specs.Closed.{clauses_hold, IsRepresentative, IsClosed}
use Rattle.pattern_automata.specs.Last.{patches_of, DifferInCharacters, IsClosedBy}
use Rattle.pattern_automata.specs.Machine.{IsMachine}
use Rattle.pattern_automata.specs.Marks.{mark_count}
use Rattle.pattern_automata.specs.Moves.{piece_test, fronts, if_piece, piece_does, IsMove, characters_of}
use Rattle.pattern_automata.specs.Packed.{word_mark, marks_by}
use Rattle.pattern_automata.specs.Steps.{AreMasksOf}
use Rattle.pattern_automata.proofs.Empty.{representative}
use Rattle.pattern_automata.proofs.Masking.{marks-fronts, masks-of, determined}
use Rattle.pattern_automata.proofs.Packing.{length-marks_by}
use Rattle.pattern_automata.proofs.Standing.{stands}

-- ---- how many pieces patterns have

-- the last marks tell the lengths
lengths-same : (ps qs : List (List Piece)) → length ps ≡ length qs →
    ((k : ℕ) → k < length ps → mark_count (take k ps) + length (get_or ps k []) ≡ mark_count (take k qs) + length (get_or qs k [])) → map length ps ≡ map length qs
lengths-same [] [] n h = refl
lengths-same [] (q ∷ qs) n h = absurd (omega (arith, n))
lengths-same (p ∷ ps) [] n h = absurd (omega (arith, n))
lengths-same (p ∷ ps) (q ∷ qs) n h =
    let first : 0 + length p ≡ 0 + length q = h 0 (omega arith) in
    let e : length p ≡ length q = omega (arith, first) in
    let rest : (k : ℕ) → k < length ps → mark_count (take k ps) + length (get_or ps k []) ≡ mark_count (take k qs) + length (get_or qs k []) =
    λ k l.
    let next : (length p + 1) + mark_count (take k ps) + length (get_or ps k []) ≡ (length q + 1) + mark_count (take k qs) + length (get_or qs k []) = h (suc k) (omega (arith, l)) in
    omega (arith, next, e) in
    rw (e, lengths-same ps qs (omega (arith, n)) rest) refl

counts-same : (ps qs : List (List Piece)) → map length ps ≡ map length qs → mark_count ps ≡ mark_count qs
counts-same [] [] e = refl
counts-same [] (q ∷ qs) e = absurd (cc)
counts-same (p ∷ ps) [] e = absurd (cc)
counts-same (p ∷ ps) (q ∷ qs) e =
    let h : length p ≡ length q = cc in
    let r : map length ps ≡ map length qs = cc in
    omega (arith, h, counts-same ps qs r)

length-at : (ps : List (List Piece)) (i : ℕ) → get_or (map length ps) i 0 ≡ length (get_or ps i [])
length-at [] i = refl
length-at (p ∷ ps) zero = refl
length-at (p ∷ ps) (suc i) = length-at ps i

-- ---- what a test says of the pieces, pattern by pattern

at-map : (f : Piece → Bool) (p : List Piece) (j : ℕ) → get_or (map f p) j (f One) ≡ f (get_or p j One)
at-map f [] j = refl
at-map f (x ∷ xs) zero = refl
at-map f (x ∷ xs) (suc j) = at-map f xs j

tests-at : (f g : Piece → Bool) (p q : List Piece) → map f p ≡ map g q → f One ≡ g One → (j : ℕ) → f (get_or p j One) ≡ g (get_or q j One)
tests-at f g p q e d j = sym (at-map f p j) ∙ ((λ k. get_or (e k) j (d k)) ∙ at-map g q j)

parts : (f g : Piece → Bool) (p q : List Piece) (ps qs : List (List Piece)) → length p ≡ length q → marks_by f (p ∷ ps) ≡ marks_by g (q ∷ qs) → (map f p ≡ map g q) × (marks_by f ps ≡ marks_by g qs)
parts f g p q ps qs n e =
    let behind : map f p ++ marks_by f ps ≡ map g q ++ marks_by g qs = ap (λ x. drop 1 x) e in
    let a : length (map f p) ≡ length q = length-map p f ∙ n in
    let b : length (map g q) ≡ length q = length-map q g in (
      sym (take_at (map f p) (marks_by f ps) (length q) a) ∙ (ap (λ x. take (length q) x) behind ∙ take_at (map g q) (marks_by g qs) (length q) b),
      sym (drop_at (map f p) (marks_by f ps) (length q) a) ∙ (ap (λ x. drop (length q) x) behind ∙ drop_at (map g q) (marks_by g qs) (length q) b),
    )

-- ---- steps

module _ (c d : ℕ) where
  reaches-same : (p q : List Piece) → map (piece_test Leads) p ≡ map (piece_test Leads) q → map (λ x. takes x c) p ≡ map (λ x. takes x d) q →
      (old : ℕ → Bool) (j : ℕ) → reaches p old c j ≡ reaches q old d j
  reaches-same p q many taken old zero = refl
  reaches-same p q many taken old (suc j) =
      let m : is_many (get_or p j One) ≡ is_many (get_or q j One) = tests-at (piece_test Leads) (piece_test Leads) p q many refl j in
      let t : takes (get_or p j One) c ≡ takes (get_or q j One) d = tests-at (λ x. takes x c) (λ x. takes x d) p q taken refl j in
      rw (m, t, reaches-same p q many taken old j) refl

  steps-same : (ps qs : List (List Piece)) → map length ps ≡ map length qs → marks_by (piece_test Leads) ps ≡ marks_by (piece_test Leads) qs →
      marks_by (λ x. takes x c) ps ≡ marks_by (λ x. takes x d) qs → (lists : List (List ℕ)) → step_lists ps lists c ≡ step_lists qs lists d
  steps-same [] [] n many taken lists = refl
  steps-same [] (q ∷ qs) n many taken lists = absurd (cc)
  steps-same (p ∷ ps) [] n many taken lists = absurd (cc)
  steps-same (p ∷ ps) (q ∷ qs) n many taken [] = refl
  steps-same (p ∷ ps) (q ∷ qs) n many taken (l ∷ ls) =
      let e : length p ≡ length q = cc in
      let r : map length ps ≡ map length qs = cc in
      let m = parts (piece_test Leads) (piece_test Leads) p q ps qs e many in
      let t = parts (λ x. takes x c) (λ x. takes x d) p q ps qs e taken in
      λ k. passing_numbers (λ j. reaches-same p q m.0 t.0 (contains_place l) j k) 0 (e k + 1) ∷ steps-same ps qs r m.1 t.1 ls k

-- ---- the empty text

accepts-same : (i : ℕ) (p q : List Piece) → map (piece_test Leads) p ≡ map (piece_test Leads) q → accepts (take i p) [] ≡ accepts (take i q) []
accepts-same zero p q e = refl
accepts-same (suc i) [] [] e = refl
accepts-same (suc i) [] (y ∷ ys) e = absurd (cc)
accepts-same (suc i) (x ∷ xs) [] e = absurd (cc)
accepts-same (suc i) (x ∷ xs) (y ∷ ys) e =
    let h : is_many x ≡ is_many y = cc in
    let r : map (piece_test Leads) xs ≡ map (piece_test Leads) ys = cc in
    rw (h, accepts-same i xs ys r) refl

starts-same : (ps qs : List (List Piece)) → map length ps ≡ map length qs → marks_by (piece_test Leads) ps ≡ marks_by (piece_test Leads) qs → lists_of ps [] ≡ lists_of qs []
starts-same [] [] n many = refl
starts-same [] (q ∷ qs) n many = absurd (cc)
starts-same (p ∷ ps) [] n many = absurd (cc)
starts-same (p ∷ ps) (q ∷ qs) n many =
    let e : length p ≡ length q = cc in
    let r : map length ps ≡ map length qs = cc in
    let m = parts (piece_test Leads) (piece_test Leads) p q ps qs e many in
    λ k. passing_numbers (λ i. accepts-same i p q m.0 k) 0 (e k + 1) ∷ starts-same ps qs r m.1 k

-- ---- moves

-- a move and the one with the same patches
pair : (F G : List (Option Piece)) (xs ys : List Move) → All (IsMove F) xs → All (IsMove G) ys → patches_of xs ≡ patches_of ys → (d : ℕ) → contains_place (characters_of ys) d ≡ true →
    (a b : Move) × IsMove F a × IsMove G b × (b.character ≡ d) × (a.patches.items ≡ b.patches.items)
pair F G [] [] all others e d h = absurd (cc)
pair F G [] (b ∷ ys) all others e d h = absurd (cc)
pair F G (a ∷ xs) [] all others e d h = absurd (cc)
pair F G (a ∷ xs) (b ∷ ys) all others e d h =
    elim (or_cases (eqb b.character d) _ h) [
      | inl is ↦
          let same : a.patches.items ≡ b.patches.items = cc in
          (a, b, All-head (IsMove F) a xs all, All-head (IsMove G) b ys others, eqb-true b.character d is, same)
      | inr there ↦
          let rest : patches_of xs ≡ patches_of ys = cc in
          pair F G xs ys (All-tail (IsMove F) a xs all) (All-tail (IsMove G) b ys others) rest d there
    ]

both : (many t : Bool) → t ≡ ((not many && t) || (many && t))
both true t = refl
both false true = refl
both false false = refl

-- a piece takes what it passes on and what it keeps
taken-by : (c : ℕ) (x : Option Piece) → if_piece (λ p. takes p c) x ≡ (if_piece (piece_test (Passes c)) x || if_piece (piece_test (Keeps c)) x)
taken-by c None = refl
taken-by c (Some p) = both (is_many p) (takes p c)

masks-same : (m n : Masks) (patches others : List Patch) (one stay : ℕ → Bool) → m.one.items ≡ n.one.items → m.many.items ≡ n.many.items → patches ≡ others → AreMasksOf n others one stay → AreMasksOf m patches one stay
masks-same m n patches others one stay ones manys is of =
    let is-of : AreMasksOf n patches one stay = subst (λ (x : List Patch). AreMasksOf n x one stay) (sym is) of in
    record {
      here = is-of.here;
      elsewhere = λ k none b l. let at = is-of.elsewhere k none b l in (ap (λ x. word_mark x (64 * k + b)) ones ∙ at.0, ap (λ x. word_mark x (64 * k + b)) manys ∙ at.1);
    }

module _ (ps qs : List (List Piece)) (m n : Machine) (is : IsMachine ps m) (other : IsMachine qs n) (same : DifferInCharacters m n) where
  counts : length ps ≡ length qs
  counts = sym is.ends.count ∙ (ap length same.ends ∙ other.ends.count)

  lengths : map length ps ≡ map length qs
  lengths = lengths-same ps qs counts (λ k l. sym (is.ends.each k l) ∙ (ap (λ x. slice_index x k) same.ends ∙ other.ends.each k (omega (arith, l, counts))))

  -- tests that agree at the fronts say the same, pattern by pattern
  marks-same : (f g : Piece → Bool) → ((j : ℕ) → if_piece f (get_or (fronts ps) j None) ≡ if_piece g (get_or (fronts qs) j None)) → marks_by f ps ≡ marks_by g qs
  marks-same f g h =
      ext_get_or false (marks_by f ps) (marks_by g qs) (length-marks_by f ps ∙ (counts-same ps qs lengths ∙ sym (length-marks_by g qs)))
      (λ j l. marks-fronts f ps j ∙ (h j ∙ sym (marks-fronts g qs j)))

  manys : marks_by (piece_test Leads) ps ≡ marks_by (piece_test Leads) qs
  manys = marks-same (piece_test Leads) (piece_test Leads) (λ j. sym (is.masks.many j) ∙ (ap (λ x. word_mark x j) same.many ∙ other.masks.many j))

  -- what the character of a move takes, that of the other with the same patches takes too
  taken-same : (a b : Move) → IsMove (fronts ps) a → IsMove (fronts qs) b → a.patches.items ≡ b.patches.items →
      marks_by (λ x. takes x a.character) ps ≡ marks_by (λ x. takes x b.character) qs
  taken-same a b move move' e =
      let c : ℕ = a.character in
      let d : ℕ = b.character in
      let mine : AreMasksOf m.masks a.patches.items (piece_does (Passes c) (fronts ps)) (piece_does (Keeps c) (fronts ps)) = masks-of (fronts ps) m.masks is.masks c a.patches.items move.distinguished in
      let theirs : AreMasksOf m.masks a.patches.items (piece_does (Passes d) (fronts qs)) (piece_does (Keeps d) (fronts qs)) =
      masks-same m.masks n.masks a.patches.items b.patches.items _ _ same.one same.many e (masks-of (fronts qs) n.masks other.masks d b.patches.items move'.distinguished) in
      marks-same (λ x. takes x c) (λ x. takes x d) (λ j.
      let at = determined m.masks a.patches.items _ _ _ _ mine theirs j in
      taken-by c (get_or (fronts ps) j None) ∙ ((λ k. at.0 k || at.1 k) ∙ sym (taken-by d (get_or (fronts qs) j None))))

  module _ (clauses : List (List Literal)) (set : List (List (List ℕ))) (closed : IsClosed ps clauses set) where
    steps-again : (lists : List (List ℕ)) (c : ℕ) → Contains set lists → IsRepresentative qs c → Contains set (step_lists qs lists c)
    steps-again lists c there r =
        let scalar : IsScalar c = elim r [ inl x ↦ x.0 | inr f ↦ f.scalar ] in
        let stand = stands qs (characters_of n.moves.items) n.spared other.alphabet c scalar in
        let two = pair (fronts ps) (fronts qs) m.moves.items n.moves.items is.moves other.moves same.moves stand.0 stand.2 in
        let a : Move = two.0 in
        let b : Move = two.1 in
        let next = representative ps a.character two.2.scalar in
        let alike : step_lists ps lists a.character ≡ step_lists qs lists b.character = steps-same a.character b.character ps qs lengths manys (taken-same a b two.2 two.3 two.5) lists in
        let to : step_lists ps lists next.0 ≡ step_lists qs lists c =
        sym (next.2 lists) ∙ (alike ∙ (ap (λ x. step_lists qs lists x) two.4 ∙ sym (stand.3 lists))) in
        subst (λ (x : List (List ℕ)). Contains set x) to (closed.steps lists next.0 there next.1)

    length-same : (i : ℕ) → length (get_or qs i []) ≡ length (get_or ps i [])
    length-same i = sym (length-at qs i) ∙ (ap (λ x. get_or x i 0) (sym lengths) ∙ length-at ps i)

    pub closed-again : IsClosed qs clauses set
    closed-again = record {
      shaped = λ k d h. let x = closed.shaped k d h in (x.0 ∙ counts, x.1);
      starts = subst (λ (x : List (List ℕ)). Contains set x) (starts-same ps qs lengths manys) closed.starts;
      steps = steps-again;
      none_meets = λ lists there. (λ k. clauses_hold (λ i. contains_place (get_or lists i []) (length-same i k)) clauses) ∙ closed.none_meets lists there;
    }

-- a set that is closed for the clauses over patterns of one machine is so over those of the other
pub closed-by : (clauses others : List (List Literal)) (m n : Machine) (set : List (List (List ℕ))) (qs : List (List Piece)) → IsClosedBy clauses m set → clauses ≡ others → DifferInCharacters m n → IsMachine qs n →
    IsClosed qs others set
closed-by clauses others m n set qs by is same machine =
    subst (λ (x : List (List Literal)). IsClosed qs x set) is (closed-again by.0 qs m n by.1 machine same clauses set by.2)
