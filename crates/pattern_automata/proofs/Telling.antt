-- What pieces name, and the patches of the characters.
use Rattle.std.proofs.Common.{◌≡◌, ℕ, zero, suc, ◌+◌, ◌*◌, ◌/◌, ◌%◌, ◌^◌, ◌<◌, ◌≤◌, Bool, true, false, cond, ◌||◌, ◌&&◌, eqb, refl, sym, ap, ◌∙◌, inl, inr, arith, bit_or, bit_xor, w64, List, [], ◌∷◌, ◌++◌, length, get_or, set, take, Option, None, Some}
use Rattle.std.specs.Option.{option_to_list}
use Rattle.std.specs.Prelude.{MatchOption}
use Rattle.std.proofs.lemmas.Bool.{cases_lt, cases_eq, eqb-true, eq-eqb, or_parts, or_right, false_from_ne_true}
use Rattle.std.proofs.lemmas.Nat.Bits.{bit_at_set_same, bit_at_set_other, bit_at-zero}
use Rattle.std.proofs.lemmas.List.{append-nil, get_or_append_left, length-append, map_push, take_more}
use Rattle.std.proofs.lemmas.List.Elements.{All-head, All-push, All-tail}
use Rattle.std.proofs.lemmas.List.Quantifiers.{Any-push}
use Rattle.wildcard_lang.specs.declared.piece.Piece.{Piece}
use Rattle.wildcard_lang.specs.declared.piece.Piece.TheVariants.{Lit, LitFold, One, Many, OneNoColon, ManyNoColon}
use Rattle.pattern_automata.specs.declared.fronts.Kind.TheVariants.{Passes, Keeps, PassesOthers, Leads}
use Rattle.pattern_automata.specs.declared.moves.Masks.{Masks}
use Rattle.pattern_automata.specs.declared.moves.Move.{Move}
use Rattle.pattern_automata.specs.declared.moves.Patch.{Patch}
use Rattle.pattern_automata.specs.declared.named.Named.{Named}
use Rattle.pattern_automata.specs.Closed.{names_character}
use Rattle.pattern_automata.specs.Moves.{characters_of, piece_does, if_piece, piece_test, distinguishes, HasPatch, IsMasks, IsPatch, IsDistinguished}
use Rattle.pattern_automata.specs.Named.{bits_of, names_before, AddsBit, HasNamesAt, HasNone, IsLikeOthersAt, IsPatchAt, IsPosition}
use Rattle.pattern_automata.specs.Packed.{is_bit_on}
use Rattle.pattern_automata.proofs.Bits.{on-or, on-xor}
use Rattle.pattern_automata.proofs.Masking.{tells-none}
use Rattle.pattern_automata.proofs.Packing.{mark-at}

or-false : (a b : Bool) → b ≡ false → (a || b) ≡ a
or-false true b h = refl
or-false false b h = h

not-equal : (a b : ℕ) → (a ≡ b → ⊥) → eqb a b ≡ false
not-equal a b ne = false_from_ne_true (eqb a b) (λ g. ne (eqb-true a b g))

-- ---- bits of characters

pub set-bit : (word bit i : ℕ) → bit < 64 → is_bit_on (bit_or word (1 * 2 ^ bit % 18446744073709551616)) i ≡ (is_bit_on word i || eqb i bit)
set-bit word bit i h =
    elim (cases_eq i bit) [
      | inl e ↦
          ap (λ k. is_bit_on (bit_or word (1 * 2 ^ bit % 18446744073709551616)) k) e
          ∙ (ap (λ x. eqb x 1) (bit_at_set_same w64 word bit h) ∙ sym (or_right (is_bit_on word i) (eqb i bit) (eq-eqb i bit e)))
      | inr ne ↦ ap (λ x. eqb x 1) (bit_at_set_other w64 word bit h i ne) ∙ sym (or-false (is_bit_on word i) (eqb i bit) (not-equal i bit ne))
    ]

abbrev IsOther : ℕ → Named → Type 0
IsOther c x = x.character ≡ c → ⊥

abbrev entry : ℕ → ℕ → Named
entry c w = record { character = c; bits = w }

bits-here : (named : List Named) (i : ℕ) (x : Named) (c : ℕ) → i < length named → (get_or named i x).character ≡ c → HasNone c (take i named) → bits_of named c ≡ (get_or named i x).bits
bits-here [] i x c h e none = absurd (omega arith)
bits-here (y ∷ ys) zero x c h e none = let t : eqb y.character c ≡ true = eq-eqb y.character c e in rw t refl
bits-here (y ∷ ys) (suc i) x c h e none =
    let f : eqb y.character c ≡ false = not-equal y.character c (All-head (IsOther c) y (take i ys) none) in
    rw f (bits-here ys i x c (omega arith) e (All-tail (IsOther c) y (take i ys) none))

cond-twice : (b : Bool) (u v z : ℕ) → cond b u z ≡ cond b u (cond b v z)
cond-twice true u v z = refl
cond-twice false u v z = refl

-- an entry of another character in front
bits-behind : (y : Named) (c w d old new : ℕ) → (y.character ≡ c → ⊥) → new ≡ cond (eqb c d) w old → cond (eqb y.character d) y.bits new ≡ cond (eqb c d) w (cond (eqb y.character d) y.bits old)
bits-behind y c w d old new other is =
    elim (cases_eq c d) [
      | inl s ↦
          let t : eqb c d ≡ true = eq-eqb c d s in
          let f : eqb y.character d ≡ false = not-equal y.character d (λ g. other (g ∙ sym s)) in
          rw (f, is, t) refl
      | inr ne ↦ let f : eqb c d ≡ false = not-equal c d ne in rw (is, f) refl
    ]

bits-set : (named : List Named) (i : ℕ) (x : Named) (c w : ℕ) → i < length named → (get_or named i x).character ≡ c → HasNone c (take i named) → (d : ℕ) →
    bits_of (set named i (entry c w)) d ≡ cond (eqb c d) w (bits_of named d)
bits-set [] i x c w h e none d = absurd (omega arith)
bits-set (y ∷ ys) zero x c w h e none d = let same : y.character ≡ c = e in rw same (cond-twice (eqb c d) w y.bits (bits_of ys d))
bits-set (y ∷ ys) (suc i) x c w h e none d =
    bits-behind y c w d (bits_of ys d) (bits_of (set ys i (entry c w)) d) (All-head (IsOther c) y (take i ys) none)
    (bits-set ys i x c w (omega arith) e (All-tail (IsOther c) y (take i ys) none) d)

bits-push : (named : List Named) (c w : ℕ) → HasNone c named → (d : ℕ) → bits_of (named ++ entry c w ∷ []) d ≡ cond (eqb c d) w (bits_of named d)
bits-push [] c w none d = refl
bits-push (y ∷ ys) c w none d =
    bits-behind y c w d (bits_of ys d) (bits_of (ys ++ entry c w ∷ []) d) (All-head (IsOther c) y ys none) (bits-push ys c w (All-tail (IsOther c) y ys none) d)

bits-absent : (named : List Named) (c : ℕ) → HasNone c named → bits_of named c ≡ 0
bits-absent [] c none = refl
bits-absent (y ∷ ys) c none =
    let f : eqb y.character c ≡ false = not-equal y.character c (All-head (IsOther c) y ys none) in
    rw f (bits-absent ys c (All-tail (IsOther c) y ys none))

adds : (old new : ℕ → ℕ) (c w bit : ℕ) → ((d : ℕ) → new d ≡ cond (eqb c d) w (old d)) → ((i : ℕ) → is_bit_on w i ≡ (is_bit_on (old c) i || eqb i bit)) →
    (d i : ℕ) → is_bit_on (new d) i ≡ (is_bit_on (old d) i || (eqb d c && eqb i bit))
adds old new c w bit are made d i =
    elim (cases_eq c d) [
      | inl e ↦
          let t : eqb c d ≡ true = eq-eqb c d e in
          let u : eqb d c ≡ true = eq-eqb d c (sym e) in
          let n : new d ≡ w = rw t at (are d) in
          rw (n, u, ← e) (made i)
      | inr ne ↦
          let f : eqb c d ≡ false = not-equal c d ne in
          let g : eqb d c ≡ false = not-equal d c (λ s. ne (sym s)) in
          let n : new d ≡ old d = rw f at (are d) in
          rw (n, g) (sym (or-false (is_bit_on (old d) i) false refl))
    ]

pub set-adds : (old : List Named) (c w bit i : ℕ) (x : Named) → IsPosition c old i → x ≡ get_or old i x → ((j : ℕ) → is_bit_on w j ≡ (is_bit_on x.bits j || eqb j bit)) →
    AddsBit old c bit (set old i (entry c w))
set-adds old c w bit i x at read made =
    let here : bits_of old c ≡ x.bits = bits-here old i x c at.within (at.is x) at.first ∙ ap (λ (n : Named). n.bits) (sym read) in
    adds (bits_of old) (bits_of (set old i (entry c w))) c w bit (bits-set old i x c w at.within (at.is x) at.first) (λ j. made j ∙ ap (λ (v : ℕ). is_bit_on v j || eqb j bit) (sym here))

pub push-adds : (old new : List Named) (c w bit : ℕ) → new ≡ old ++ entry c w ∷ [] → HasNone c old → ((j : ℕ) → is_bit_on w j ≡ (is_bit_on 0 j || eqb j bit)) → AddsBit old c bit new
push-adds old new c w bit is none made =
    rw is (adds (bits_of old) (bits_of (old ++ entry c w ∷ [])) c w bit (bits-push old c w none) (λ j. made j ∙ ap (λ (v : ℕ). is_bit_on v j || eqb j bit) (sym (bits-absent old c none))))

-- ---- patches

untold-front : (c : ℕ) (x : Option Piece) → if_piece (λ p. names_character p c) x ≡ false → eqb c 58 ≡ false → if_piece (distinguishes c) x ≡ true → ⊥
untold-front c None h k told = absurd (cc)
untold-front c (Some p) h k told = let f : distinguishes c p ≡ false = tells-none c p h k in absurd (cc)

pub like-others : (F : List (Option Piece)) (k c : ℕ) (named : List Named) (bits : ℕ) → (c ≡ 58 → ⊥) → HasNamesAt F k named → bits ≡ bits_of named c → bits ≡ 0 → IsLikeOthersAt F k c
like-others F k c named bits other are is none j at told =
    let e : 64 * k + j % 64 ≡ j = omega (arith, at) in
    let zero-bits : bits_of named c ≡ 0 = sym is ∙ none in
    let off : is_bit_on (bits_of named c) (j % 64) ≡ false = ap (λ x. is_bit_on x (j % 64)) zero-bits ∙ ap (λ x. eqb x 1) (bit_at-zero (j % 64)) in
    let unnamed : names_before F (64 * k + j % 64) c ≡ false = sym (are c (j % 64) (omega arith)) ∙ off in
    untold-front c (get_or F j None) (ap (λ n. names_before F n c) (sym e) ∙ unnamed) (not-equal c 58 other) told

passes-named : (c : ℕ) (x : Option Piece) → eqb c 58 ≡ false → (if_piece (piece_test PassesOthers) x || if_piece (λ p. names_character p c) x) ≡ if_piece (piece_test (Passes c)) x
passes-named c None k = refl
passes-named c (Some (Lit d)) k = refl
passes-named c (Some (LitFold d)) k = refl
passes-named c (Some One) k = refl
passes-named c (Some Many) k = refl
passes-named c (Some OneNoColon) k = rw k refl
passes-named c (Some ManyNoColon) k = refl

keeps-named : (c : ℕ) (x : Option Piece) → eqb c 58 ≡ false → if_piece (piece_test Leads) x ≡ if_piece (piece_test (Keeps c)) x
keeps-named c None k = refl
keeps-named c (Some (Lit d)) k = refl
keeps-named c (Some (LitFold d)) k = refl
keeps-named c (Some One) k = refl
keeps-named c (Some Many) k = refl
keeps-named c (Some OneNoColon) k = refl
keeps-named c (Some ManyNoColon) k = rw k refl

pub named-patch : (F : List (Option Piece)) (m : Masks) (k c : ℕ) (named : List Named) (one stay bits : ℕ) → IsMasks F m → 64 * k ≤ length F → (c ≡ 58 → ⊥) → HasNamesAt F k named →
    one ≡ get_or m.one.items k 0 → stay ≡ get_or m.many.items k 0 → bits ≡ bits_of named c → IsPatch F c (record { index = k; one = bit_or one bits; stay = stay; differs = bits })
named-patch F m k c named one stay bits masks within other are ones stays is =
    let colon = not-equal c 58 other in
    let second : (b : ℕ) → b < 64 → is_bit_on bits b ≡ names_before F (64 * k + b) c = λ b l. ap (λ x. is_bit_on x b) is ∙ are c b l in
    record {
      within = within;
      one = λ b l.
          let first : is_bit_on one b ≡ piece_does PassesOthers F (64 * k + b) = ap (λ x. is_bit_on x b) ones ∙ (sym (mark-at m.one.items k b l) ∙ masks.one (64 * k + b)) in
          on-or one bits b ∙ rw (first, second b l) (passes-named c (get_or F (64 * k + b) None) colon);
      stay = λ b l. ap (λ x. is_bit_on x b) stays ∙ (sym (mark-at m.many.items k b l) ∙ (masks.many (64 * k + b) ∙ keeps-named c (get_or F (64 * k + b) None) colon));
      differs = λ b l off.
          let none : names_before F (64 * k + b) c ≡ false = sym (second b l) ∙ off in (
            sym (passes-named c (get_or F (64 * k + b) None) colon) ∙ or-false (piece_does PassesOthers F (64 * k + b)) (names_before F (64 * k + b) c) none,
            sym (keeps-named c (get_or F (64 * k + b) None) colon),
          );
    }

pub whole-patch : (F : List (Option Piece)) (m : Masks) (k c one stay others many : ℕ) → IsMasks F m → 64 * k ≤ length F → others ≡ get_or m.one.items k 0 → many ≡ get_or m.many.items k 0 →
    ((b : ℕ) → b < 64 → is_bit_on one b ≡ piece_does (Passes c) F (64 * k + b)) → ((b : ℕ) → b < 64 → is_bit_on stay b ≡ piece_does (Keeps c) F (64 * k + b)) →
    IsPatch F c (record { index = k; one = one; stay = stay; differs = bit_or (bit_xor one others) (bit_xor stay many) })
whole-patch F m k c one stay others many masks within first second ones stays = record {
  within = within;
  one = ones;
  stay = stays;
  differs = λ b l off.
      let parts = or_parts (is_bit_on (bit_xor one others) b) (is_bit_on (bit_xor stay many) b) (sym (on-or (bit_xor one others) (bit_xor stay many) b) ∙ off) in (
        sym (ones b l) ∙ (on-xor one others b parts.0 ∙ (ap (λ x. is_bit_on x b) first ∙ (sym (mark-at m.one.items k b l) ∙ masks.one (64 * k + b)))),
        sym (stays b l) ∙ (on-xor stay many b parts.1 ∙ (ap (λ x. is_bit_on x b) second ∙ (sym (mark-at m.many.items k b l) ∙ masks.many (64 * k + b)))),
      );
}

patch-kept : (xs ys : List Patch) (k : ℕ) → HasPatch xs k → HasPatch (xs ++ ys) k
patch-kept xs ys k w = (w.0, w.1, omega (arith, w.2, length-append xs ys), get_or_append_left xs ys w.1 w.0 w.2 ∙ w.3, w.4)

-- one more word
pub told-next : (F : List (Option Piece)) (k c : ℕ) (patch : Option Patch) (old new : List Patch) → MatchOption patch (IsLikeOthersAt F k c) (IsPatchAt F k c) → new ≡ old ++ option_to_list patch →
    IsDistinguished F (64 * k) c old → IsDistinguished F (64 * (k + 1)) c new
told-next F k c None old new like is told =
    let same : new ≡ old = is ∙ append-nil old in
    rw same (record {
      right = told.right;
      covers = λ j h e. elim (cases_lt j (64 * k)) [ inl l ↦ told.covers j l e | inr g ↦ absurd (like j (omega arith) e) ];
    })
told-next F k c (Some p) old new patch is told =
    rw is (record {
      right = All-push (IsPatch F c) old p told.right patch.1;
      covers = λ j h e.
          elim (cases_lt j (64 * k)) [
            | inl l ↦ patch-kept old (p ∷ []) (j / 64) (told.covers j l e)
            | inr g ↦ let q : k ≡ j / 64 = omega arith in Any-push (λ (x : Patch). x.index ≡ j / 64) old p (patch.0 ∙ q)
          ];
    })

pub characters-next : (moves new : List Move) (m : Move) (x i : ℕ) (characters : List ℕ) → characters_of moves ≡ take i characters → new ≡ moves ++ m ∷ [] → m.character ≡ x → i < length characters → x ≡ get_or characters i x →
    characters_of new ≡ take (i + 1) characters
characters-next moves new m x i characters are pushed named h read =
    ap characters_of pushed ∙ (map_push (λ (y : Move). y.character) moves m ∙ rw (are, named, take_more characters i x h, ← read) refl)
