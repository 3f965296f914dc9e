-- The test whether a pattern covers another answers the relation.
use Rattle.std.proofs.Common.{◌≡◌, Bool, true, false, not, ◌&&◌, List, [], ◌∷◌, refl, sym, ◌∙◌, inl, inr, arith}
use Rattle.std.proofs.lemmas.Bool.{cases_Bool, or_cases, and_parts}
use Rattle.std.proofs.lemmas.Bool.Decides.{Decides-at}
use Rattle.std.proofs.lemmas.Grind.{common_steps}
use Rattle.std.specs.Bool.{Decides}
use Rattle.std.specs.Cmp.Lexicographic.{pointwise, pointwise_decides}
use Rattle.wildcard_lang.specs.contracts.piece.PiecePartialEq.TheImpl.{eq-value}
use Rattle.wildcard_lang.specs.declared.piece.Piece.{Piece}
use Rattle.wildcard_lang.specs.Matching.{is_many}
use Rattle.wildcard_lang.specs.Accepts.{accepts_many, accepts_one}
use Rattle.wildcard_lang.specs.Covering.{CoversPattern, no_pieces, takes_one, is_done, takes_more, covers, takes_piece, takes_next}
use Rattle.wildcard_lang.proofs.Sharing.{Decides-takes_piece}
use Rattle.wildcard_lang.proofs.Including.{covers-itself, not_true}

-- a piece for any number takes the next piece exactly where it takes all that this takes
many_next : (a x : Piece) → is_many a ≡ true → takes_next a x ≡ takes_piece a x
many_next a x many = rw many refl

-- a piece for one character takes it where it is for one too
one_next : (a x : Piece) → is_many a ≡ false → takes_next a x ≡ (not (is_many x) && takes_piece a x)
one_next a x one = rw one refl

covers-from : (q p : List Piece) → CoversPattern q p → covers q p ≡ true
covers-from [] [] no_pieces = refl
covers-from [] (x ∷ p) r = elim r [ ]
covers-from (a ∷ q) (x ∷ p) (takes_one one single k r) = rw (one, single, (Decides-takes_piece a x).1 k) (covers-from q p r)
covers-from (a ∷ q) [] (is_done many r) = grind (arith, covers-from q [] r)
covers-from (a ∷ q) (x ∷ p) (is_done many r) = grind (arith, covers-from q (x ∷ p) r)
covers-from (a ∷ q) (x ∷ p) (takes_more many k r) = grind (arith, many_next a x many, (Decides-takes_piece a x).1 k, covers-from (a ∷ q) p r)

many-covers : (a : Piece) (q : List Piece) → is_many a ≡ true → ((p : List Piece) → covers q p ≡ true → CoversPattern q p) →
    (p : List Piece) → accepts_many (covers q) (takes_next a) p ≡ true → CoversPattern (a ∷ q) p
many-covers a q many rest [] h = is_done many (rest [] h)
many-covers a q many rest (x ∷ p) h =
    elim (or_cases (covers q (x ∷ p)) _ h) [
      | inl e ↦ is_done many (rest (x ∷ p) e)
      | inr e ↦
          let both = and_parts (takes_next a x) (accepts_many (covers q) (takes_next a) p) e in
          takes_more many ((Decides-takes_piece a x).0 (rw (many_next a x many) at both.0)) (many-covers a q many rest p both.1)
    ]

one-covers : (a : Piece) (q : List Piece) → is_many a ≡ false → ((p : List Piece) → covers q p ≡ true → CoversPattern q p) →
    (p : List Piece) → accepts_one (covers q) (takes_next a) p ≡ true → CoversPattern (a ∷ q) p
one-covers a q one rest [] h = absurd (cc)
one-covers a q one rest (x ∷ p) h =
    let both = and_parts (takes_next a x) (covers q p) h in
    let next = and_parts (not (is_many x)) (takes_piece a x) (rw (one_next a x one) at both.0) in
    takes_one one (not_true (is_many x) next.0) ((Decides-takes_piece a x).0 next.1) (rest p both.1)

covers-to : (q p : List Piece) → covers q p ≡ true → CoversPattern q p
covers-to [] [] h = no_pieces
covers-to [] (x ∷ p) h = absurd (cc)
covers-to (a ∷ q) p h =
    elim (cases_Bool (is_many a)) [
      | inl e ↦ many-covers a q e (covers-to q) p (rw e at h)
      | inr e ↦ one-covers a q e (covers-to q) p (rw e at h)
    ]

pub Decides-covers : (q p : List Piece) → Decides (covers q p) (CoversPattern q p)
Decides-covers q p = (covers-to q p, covers-from q p)

pub answer_covers : (b : Bool) (q p pieces others : List Piece) → pieces ≡ q → others ≡ p → b ≡ covers pieces others → Decides b (CoversPattern q p)
answer_covers b q p pieces others same own e =
    let same_test : covers pieces others ≡ covers q p = rw (same, own) refl in
    Decides-at _ _ (e ∙ same_test) (Decides-covers q p)

pub pieces-Decides : (a b : Piece) → Decides (eq-value.it a b) (a ≡ b)
pieces-Decides a b = grind (arith, common_steps)

-- equal pieces cover each other
pub same_pieces_cover : (q p : List Piece) (same : Bool) → same ≡ pointwise eq-value.it q p → same ≡ true → true ≡ covers q p
same_pieces_cover q p same is h =
    let equal : q ≡ p = (pointwise_decides pieces-Decides q p).0 (sym is ∙ h) in
    rw equal (sym (covers-from p p (covers-itself p)))
