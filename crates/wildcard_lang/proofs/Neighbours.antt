-- A pattern that covers another has no bit of neighbours that the other lacks.
use Rattle.std.proofs.Common.{◌≡◌, ℕ, ◌≤◌, true, List, [], ◌∷◌, ◌+◌, ◌<◌, length, drop, get_or, Option, Some, None, ◌⊎◌, ◌==◌, refl, sym, ap, ◌∙◌, inl, inr, arith, max, bit_or}
use Rattle.std.proofs.lemmas.Bool.{or_cases, and_parts, eqb-true}
use Rattle.std.proofs.lemmas.Bool.Decides.{nat_tests}
use Rattle.std.proofs.lemmas.List.{at_drop_more}
use Rattle.std.proofs.lemmas.Nat.Bits.{bit_at_or, bit_at-zero, same_from_bits}
use Rattle.std.specs.Char.{to_ascii_lowercase, to_ascii_uppercase}
use Rattle.std.specs.Int.{bit_at}
use Rattle.wildcard_lang.specs.declared.piece.Piece.{Piece}
use Rattle.wildcard_lang.specs.declared.piece.Piece.TheVariants.{Lit, LitFold, One, Many, OneNoColon, ManyNoColon}
use Rattle.wildcard_lang.specs.Matching.{is_many, takes}
use Rattle.wildcard_lang.specs.Covering.{TakesPiece, CoversPattern, no_pieces, takes_one, is_done, takes_more}
use Rattle.wildcard_lang.specs.Neighbours.{edge, folded_character, neighbour_bit, neighbour_bits}
use Rattle.wildcard_lang.proofs.Sharing.{Decides-takes_piece}

-- ---- numbers whose bits are among those of others

abbrev HasBitsOf : ℕ → ℕ → Type 0
HasBitsOf b a = (i : ℕ) → bit_at a i ≤ bit_at b i

zero_of : (a b : ℕ) → a ≡ 0 → HasBitsOf b a
zero_of a b is i = let none : bit_at a i ≡ 0 = ap (λ (x : ℕ). bit_at x i) is ∙ bit_at-zero i in omega (arith, none)

same_of : (a : ℕ) → HasBitsOf a a
same_of a i = omega arith

or_of : (a b c : ℕ) → HasBitsOf c a → HasBitsOf c b → HasBitsOf c (bit_or a b)
or_of a b c first second i =
    let is : bit_at (bit_or a b) i ≡ max (bit_at a i) (bit_at b i) = bit_at_or a b i in
    omega (arith, is, first i, second i)

of_first : (a b c : ℕ) → HasBitsOf b a → HasBitsOf (bit_or b c) a
of_first a b c h i =
    let is : bit_at (bit_or b c) i ≡ max (bit_at b i) (bit_at c i) = bit_at_or b c i in
    omega (arith, is, h i)

of_second : (a b c : ℕ) → HasBitsOf c a → HasBitsOf (bit_or b c) a
of_second a b c h i =
    let is : bit_at (bit_or b c) i ≡ max (bit_at b i) (bit_at c i) = bit_at_or b c i in
    omega (arith, is, h i)

-- a number changes none in which its bits are
unchanged : (a b : ℕ) → HasBitsOf b a → bit_or a b ≡ b
unchanged a b h = same_from_bits (bit_or a b) b (λ i.
    let is : bit_at (bit_or a b) i ≡ max (bit_at a i) (bit_at b i) = bit_at_or a b i in
    let below : bit_at a i ≤ bit_at b i = h i in
    omega (arith, is, below))

or-assoc : (a b c : ℕ) → bit_or (bit_or a b) c ≡ bit_or a (bit_or b c)
or-assoc a b c = same_from_bits (bit_or (bit_or a b) c) (bit_or a (bit_or b c)) (λ i.
    let one : bit_at (bit_or (bit_or a b) c) i ≡ max (bit_at (bit_or a b) i) (bit_at c i) = bit_at_or (bit_or a b) c i in
    let two : bit_at (bit_or a b) i ≡ max (bit_at a i) (bit_at b i) = bit_at_or a b i in
    let three : bit_at (bit_or a (bit_or b c)) i ≡ max (bit_at a i) (bit_at (bit_or b c) i) = bit_at_or a (bit_or b c) i in
    let four : bit_at (bit_or b c) i ≡ max (bit_at b i) (bit_at c i) = bit_at_or b c i in
    omega (arith, one, two, three, four))

-- ---- the characters of pieces

lower_upper : (d : ℕ) → to_ascii_lowercase (to_ascii_uppercase d) ≡ to_ascii_lowercase d
lower_upper d = grind (arith, nat_tests)

pub same_lower : (d e : ℕ) → takes (LitFold d) e ≡ true → to_ascii_lowercase d ≡ to_ascii_lowercase e
same_lower d e h =
    elim (or_cases (e == d) (e == to_ascii_uppercase d) h) [
      | inl k ↦ ap to_ascii_lowercase (sym (eqb-true e d k))
      | inr k ↦ sym (ap to_ascii_lowercase (eqb-true e (to_ascii_uppercase d) k) ∙ lower_upper d)
    ]

-- the one neighbour is no character, or the other too
abbrev IsFree : Option ℕ → Option ℕ → Type 0
IsFree one other = (one ≡ None) ⊎ (one ≡ other)

-- a piece has no character of its own, or that of each piece that it takes
own_character : (a x : Piece) → TakesPiece a x → IsFree (folded_character a) (folded_character x)
own_character (Lit d) (Lit e) k = inr (ap (λ n. Some (to_ascii_lowercase n)) (sym (eqb-true e d ((Decides-takes_piece (Lit d) (Lit e)).1 k))))
own_character (Lit d) (LitFold e) k =
    inr (ap (λ n. Some (to_ascii_lowercase n)) (sym (eqb-true e d (and_parts _ _ ((Decides-takes_piece (Lit d) (LitFold e)).1 k)).0)))
own_character (Lit d) One k = let e = (Decides-takes_piece (Lit d) One).1 k in absurd (cc)
own_character (Lit d) Many k = let e = (Decides-takes_piece (Lit d) Many).1 k in absurd (cc)
own_character (Lit d) OneNoColon k = let e = (Decides-takes_piece (Lit d) OneNoColon).1 k in absurd (cc)
own_character (Lit d) ManyNoColon k = let e = (Decides-takes_piece (Lit d) ManyNoColon).1 k in absurd (cc)
own_character (LitFold d) (Lit e) k = inr (ap Some (same_lower d e ((Decides-takes_piece (LitFold d) (Lit e)).1 k)))
own_character (LitFold d) (LitFold e) k = inr (ap Some (same_lower d e (and_parts _ _ ((Decides-takes_piece (LitFold d) (LitFold e)).1 k)).0))
own_character (LitFold d) One k = let e = (Decides-takes_piece (LitFold d) One).1 k in absurd (cc)
own_character (LitFold d) Many k = let e = (Decides-takes_piece (LitFold d) Many).1 k in absurd (cc)
own_character (LitFold d) OneNoColon k = let e = (Decides-takes_piece (LitFold d) OneNoColon).1 k in absurd (cc)
own_character (LitFold d) ManyNoColon k = let e = (Decides-takes_piece (LitFold d) ManyNoColon).1 k in absurd (cc)
own_character One x k = inl refl
own_character Many x k = inl refl
own_character OneNoColon x k = inl refl
own_character ManyNoColon x k = inl refl

many_none : (a : Piece) → is_many a ≡ true → folded_character a ≡ None
many_none (Lit c) h = absurd (cc)
many_none (LitFold c) h = absurd (cc)
many_none One h = absurd (cc)
many_none Many h = refl
many_none OneNoColon h = absurd (cc)
many_none ManyNoColon h = refl

-- ---- the bits of neighbours

no_next : (before own : Option ℕ) → own ≡ None → neighbour_bit before own ≡ 0
no_next None own h = refl
no_next (Some c) None h = refl
no_next (Some c) (Some d) h = absurd (cc)

bit_free : (before own other next : Option ℕ) → IsFree before own → IsFree other next → HasBitsOf (neighbour_bit own next) (neighbour_bit before other)
bit_free before own other next (inl none) free = zero_of (neighbour_bit before other) (neighbour_bit own next) (rw none refl)
bit_free before own other next (inr same) (inl none) = zero_of (neighbour_bit before other) (neighbour_bit own next) (no_next before other none)
bit_free before own other next (inr same) (inr is) = rw (same, is) (same_of (neighbour_bit own next))

-- behind a piece for any number it doesn't matter what stood before
many_bits : (a : Piece) (q : List Piece) (before : Option ℕ) (b : ℕ) → is_many a ≡ true → HasBitsOf b (neighbour_bits (folded_character a) q) →
    HasBitsOf b (neighbour_bits before (a ∷ q))
many_bits a q before b many h =
    let none : folded_character a ≡ None = many_none a many in
    or_of (neighbour_bit before (folded_character a)) (neighbour_bits (folded_character a) q) b (zero_of _ b (no_next before (folded_character a) none)) h

behind_many : (a : Piece) (q : List Piece) (before : Option ℕ) (b : ℕ) → HasBitsOf b (neighbour_bits before (a ∷ q)) → HasBitsOf b (neighbour_bits (folded_character a) q)
behind_many a q before b h i =
    let below : bit_at (neighbour_bits (folded_character a) q) i ≤ bit_at (neighbour_bits before (a ∷ q)) i =
    of_second (neighbour_bits (folded_character a) q) (neighbour_bit before (folded_character a)) (neighbour_bits (folded_character a) q) (same_of (neighbour_bits (folded_character a) q)) i in
    omega (arith, below, h i)

covering-bits : (q p : List Piece) (before own : Option ℕ) → IsFree before own → CoversPattern q p → HasBitsOf (neighbour_bits own p) (neighbour_bits before q)
covering-bits [] [] before own free no_pieces = bit_free before own edge edge free (inr refl)
covering-bits [] (x ∷ p) before own free r = elim r [ ]
covering-bits (a ∷ q) (x ∷ p) before own free (takes_one one single k r) =
    let same : IsFree (folded_character a) (folded_character x) = own_character a x k in
    or_of (neighbour_bit before (folded_character a)) (neighbour_bits (folded_character a) q) (neighbour_bits own (x ∷ p))
    (of_first _ (neighbour_bit own (folded_character x)) (neighbour_bits (folded_character x) p) (bit_free before own (folded_character a) (folded_character x) free same))
    (of_second _ (neighbour_bit own (folded_character x)) (neighbour_bits (folded_character x) p) (covering-bits q p (folded_character a) (folded_character x) same r))
covering-bits (a ∷ q) p before own free (is_done many r) =
    many_bits a q before (neighbour_bits own p) many (covering-bits q p (folded_character a) own (inl (many_none a many)) r)
covering-bits (a ∷ q) (x ∷ p) before own free (takes_more many k r) =
    let rest : HasBitsOf (neighbour_bits (folded_character x) p) (neighbour_bits None (a ∷ q)) = covering-bits (a ∷ q) p None (folded_character x) (inl refl) r in
    many_bits a q before (neighbour_bits own (x ∷ p)) many
    (of_second _ (neighbour_bit own (folded_character x)) (neighbour_bits (folded_character x) p) (behind_many a q None (neighbour_bits (folded_character x) p) rest))

pub covering_marks : (q p : List Piece) (one other : ℕ) → one ≡ neighbour_bits edge q → other ≡ neighbour_bits edge p → CoversPattern q p → bit_or one other ≡ other
covering_marks q p one other first second r = rw (first, second) (unchanged (neighbour_bits edge q) (neighbour_bits edge p) (covering-bits q p edge edge (inr refl) r))

-- ---- the bits, piece by piece

pub bits-next : (pieces : List Piece) (i bits bit : ℕ) (before own : Option ℕ) (d : Piece) → i < length pieces → own ≡ folded_character (get_or pieces i d) → bit ≡ neighbour_bit before own →
    bit_or bits (neighbour_bits before (drop i pieces)) ≡ neighbour_bits edge pieces → bit_or (bit_or bits bit) (neighbour_bits own (drop (i + 1) pieces)) ≡ neighbour_bits edge pieces
bits-next pieces i bits bit before own d within own_is bit_is so_far =
    let rest : drop i pieces ≡ get_or pieces i d ∷ drop (i + 1) pieces = at_drop_more (λ ps. ps) pieces i d within in
    or-assoc bits bit (neighbour_bits own (drop (i + 1) pieces)) ∙ rw (bit_is, own_is) (rw rest at so_far)
