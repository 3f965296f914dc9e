-- Which characters two pieces take: all that one takes, and none that both take.
use Rattle.std.proofs.Common.{◌≡◌, ℕ, suc, ◌+◌, ◌≤◌, true, false, ◌==◌, refl, sym, inl, inr, arith}
use Rattle.std.proofs.lemmas.Bool.{cases_Bool, both_ways, or_cases, or_left, or_right, and_parts, and_from, eqb-true, eq-eqb, ne_eqb}
use Rattle.std.proofs.lemmas.Bool.Decides.{nat_tests}
use Rattle.std.specs.Bool.{Decides}
use Rattle.std.specs.Char.{to_ascii_uppercase}
use Rattle.wildcard_lang.specs.declared.piece.Piece.{Piece}
use Rattle.wildcard_lang.specs.declared.piece.Piece.TheVariants.{Lit, LitFold, One, Many, OneNoColon, ManyNoColon}
use Rattle.wildcard_lang.specs.Matching.{takes}
use Rattle.wildcard_lang.specs.Patterns.{is_wide}
use Rattle.wildcard_lang.specs.Covering.{TakesPiece, SharesNothing, takes_piece, takes_no_colon, is_wildcard, shares}

capital_below : (c : ℕ) → to_ascii_uppercase c ≤ c
capital_below c = grind (arith, nat_tests)

-- a character that is neither of a folded letter's
past_letter : (d c : ℕ) → suc d ≤ c → takes (LitFold d) c ≡ false
past_letter d c h =
    let low : to_ascii_uppercase d ≤ d = capital_below d in
    let own : (c == d) ≡ false = ne_eqb c d (λ e. absurd (omega arith)) in
    let capital : (c == to_ascii_uppercase d) ≡ false = ne_eqb c (to_ascii_uppercase d) (λ e. absurd (omega arith)) in
    rw (own, capital) refl

no_colon : (c : ℕ) → 59 ≤ c → takes OneNoColon c ≡ true
no_colon c h = let e : (c == 58) ≡ false = ne_eqb c 58 (λ e. absurd (omega arith)) in rw e refl

-- ---- a piece that takes all that another takes

wide-takes : (a : Piece) → is_wide a ≡ true → (c : ℕ) → takes a c ≡ true
wide-takes (Lit d) h c = absurd (cc)
wide-takes (LitFold d) h c = absurd (cc)
wide-takes One h c = refl
wide-takes Many h c = refl
wide-takes OneNoColon h c = absurd (cc)
wide-takes ManyNoColon h c = absurd (cc)

wild-takes : (a : Piece) → is_wildcard a ≡ true → (c : ℕ) → takes OneNoColon c ≡ true → takes a c ≡ true
wild-takes (Lit d) h c k = absurd (cc)
wild-takes (LitFold d) h c k = absurd (cc)
wild-takes One h c k = refl
wild-takes Many h c k = refl
wild-takes OneNoColon h c k = k
wild-takes ManyNoColon h c k = k

piece-takes : (a x : Piece) → takes_piece a x ≡ true → TakesPiece a x
piece-takes a (Lit d) h c k = let e : c ≡ d = eqb-true c d k in rw e h
piece-takes a (LitFold d) h c k =
    let both = and_parts (takes a d) (takes a (to_ascii_uppercase d)) h in
    elim (or_cases (c == d) (c == to_ascii_uppercase d) k) [
      | inl e ↦ let own : c ≡ d = eqb-true c d e in rw own both.0
      | inr e ↦ let capital : c ≡ to_ascii_uppercase d = eqb-true c (to_ascii_uppercase d) e in rw capital both.1
    ]
piece-takes a One h c k = wide-takes a h c
piece-takes a Many h c k = wide-takes a h c
piece-takes a OneNoColon h c k = wild-takes a h c k
piece-takes a ManyNoColon h c k = wild-takes a h c k

all-wide : (a : Piece) → ((c : ℕ) → takes a c ≡ true) → is_wide a ≡ true
all-wide (Lit d) h = let e = eqb-true (suc d) d (h (suc d)) in absurd (omega arith)
all-wide (LitFold d) h = absurd (both_ways _ (past_letter d (suc d) (omega arith)) (h (suc d)))
all-wide One h = refl
all-wide Many h = refl
all-wide OneNoColon h = h 58
all-wide ManyNoColon h = h 58

all-wild : (a : Piece) → ((c : ℕ) → takes OneNoColon c ≡ true → takes a c ≡ true) → is_wildcard a ≡ true
all-wild (Lit d) h = let e = eqb-true (d + 59) d (h (d + 59) (no_colon (d + 59) (omega arith))) in absurd (omega arith)
all-wild (LitFold d) h = absurd (both_ways _ (past_letter d (d + 59) (omega arith)) (h (d + 59) (no_colon (d + 59) (omega arith))))
all-wild One h = refl
all-wild Many h = refl
all-wild OneNoColon h = refl
all-wild ManyNoColon h = refl

takes-piece : (a x : Piece) → TakesPiece a x → takes_piece a x ≡ true
takes-piece a (Lit d) h = h d (eq-eqb d d refl)
takes-piece a (LitFold d) h =
    let capital : ℕ = to_ascii_uppercase d in
    and_from _ _ (h d (or_left _ _ (eq-eqb d d refl))) (h capital (or_right _ _ (eq-eqb capital capital refl)))
takes-piece a One h = all-wide a (λ c. h c refl)
takes-piece a Many h = all-wide a (λ c. h c refl)
takes-piece a OneNoColon h = all-wild a h
takes-piece a ManyNoColon h = all-wild a h

pub Decides-takes_piece : (a x : Piece) → Decides (takes_piece a x) (TakesPiece a x)
Decides-takes_piece a x = (piece-takes a x, takes-piece a x)

-- ---- pieces that share no character

-- a character that both pieces take
pub record TakenByBoth (a x : Piece) : Type 0 where
  pub character : ℕ
  pub first : takes a character ≡ true
  pub second : takes x character ≡ true

-- each wildcard takes the character 0
wild-zero : (x : Piece) → is_wildcard x ≡ true → takes x 0 ≡ true
wild-zero x h = wild-takes x h 0 refl

-- a piece takes some character, and one besides the colon where the test says so
some-narrow : (a x : Piece) → is_wildcard x ≡ true → takes_no_colon a ≡ true → TakenByBoth a x
some-narrow (Lit d) x w h = record { character = d; first = eq-eqb d d refl; second = wild-takes x w d h }
some-narrow (LitFold d) x w h =
    elim (or_cases (takes OneNoColon d) (takes OneNoColon (to_ascii_uppercase d)) h) [
      | inl e ↦ record { character = d; first = or_left _ _ (eq-eqb d d refl); second = wild-takes x w d e }
      | inr e ↦ record { character = to_ascii_uppercase d; first = or_right _ _ (eq-eqb (to_ascii_uppercase d) (to_ascii_uppercase d) refl); second = wild-takes x w (to_ascii_uppercase d) e }
    ]
some-narrow One x w h = record { character = 0; first = refl; second = wild-zero x w }
some-narrow Many x w h = record { character = 0; first = refl; second = wild-zero x w }
some-narrow OneNoColon x w h = record { character = 0; first = refl; second = wild-zero x w }
some-narrow ManyNoColon x w h = record { character = 0; first = refl; second = wild-zero x w }

some-wide : (a x : Piece) → is_wide x ≡ true → TakenByBoth a x
some-wide (Lit d) x w = record { character = d; first = eq-eqb d d refl; second = wide-takes x w d }
some-wide (LitFold d) x w = record { character = d; first = or_left _ _ (eq-eqb d d refl); second = wide-takes x w d }
some-wide One x w = record { character = 0; first = refl; second = wide-takes x w 0 }
some-wide Many x w = record { character = 0; first = refl; second = wide-takes x w 0 }
some-wide OneNoColon x w = record { character = 0; first = refl; second = wide-takes x w 0 }
some-wide ManyNoColon x w = record { character = 0; first = refl; second = wide-takes x w 0 }

shares-some : (a x : Piece) → shares a x ≡ true → TakenByBoth a x
shares-some a (Lit d) h = record { character = d; first = h; second = eq-eqb d d refl }
shares-some a (LitFold d) h =
    elim (or_cases (takes a d) (takes a (to_ascii_uppercase d)) h) [
      | inl e ↦ record { character = d; first = e; second = or_left _ _ (eq-eqb d d refl) }
      | inr e ↦ record { character = to_ascii_uppercase d; first = e; second = or_right _ _ (eq-eqb (to_ascii_uppercase d) (to_ascii_uppercase d) refl) }
    ]
shares-some a One h = some-wide a One refl
shares-some a Many h = some-wide a Many refl
shares-some a OneNoColon h = some-narrow a OneNoColon refl h
shares-some a ManyNoColon h = some-narrow a ManyNoColon refl h

-- what takes a character besides the colon passes the test
narrow-some : (a : Piece) (c : ℕ) → takes a c ≡ true → takes OneNoColon c ≡ true → takes_no_colon a ≡ true
narrow-some (Lit d) c h k = let e : d ≡ c = sym (eqb-true c d h) in rw e k
narrow-some (LitFold d) c h k =
    elim (or_cases (c == d) (c == to_ascii_uppercase d) h) [
      | inl e ↦ let own : d ≡ c = sym (eqb-true c d e) in or_left (takes OneNoColon d) (takes OneNoColon (to_ascii_uppercase d)) (rw own k)
      | inr e ↦ let capital : to_ascii_uppercase d ≡ c = sym (eqb-true c (to_ascii_uppercase d) e) in or_right (takes OneNoColon d) (takes OneNoColon (to_ascii_uppercase d)) (rw capital k)
    ]
narrow-some One c h k = refl
narrow-some Many c h k = refl
narrow-some OneNoColon c h k = refl
narrow-some ManyNoColon c h k = refl

some-shares : (a x : Piece) (c : ℕ) → takes a c ≡ true → takes x c ≡ true → shares a x ≡ true
some-shares a (Lit d) c h k = let e : d ≡ c = sym (eqb-true c d k) in rw e h
some-shares a (LitFold d) c h k =
    elim (or_cases (c == d) (c == to_ascii_uppercase d) k) [
      | inl e ↦ let own : d ≡ c = sym (eqb-true c d e) in or_left (takes a d) (takes a (to_ascii_uppercase d)) (rw own h)
      | inr e ↦ let capital : to_ascii_uppercase d ≡ c = sym (eqb-true c (to_ascii_uppercase d) e) in or_right (takes a d) (takes a (to_ascii_uppercase d)) (rw capital h)
    ]
some-shares a One c h k = refl
some-shares a Many c h k = refl
some-shares a OneNoColon c h k = narrow-some a c h k
some-shares a ManyNoColon c h k = narrow-some a c h k

pub shares-nothing : (a x : Piece) → shares a x ≡ false → SharesNothing a x
shares-nothing a x h c k =
    elim (cases_Bool (takes x c)) [
      | inl e ↦ absurd (both_ways _ h (some-shares a x c k e))
      | inr e ↦ e
    ]

pub nothing-shares : (a x : Piece) → SharesNothing a x → shares a x ≡ false
nothing-shares a x h =
    elim (cases_Bool (shares a x)) [
      | inl e ↦ let both : TakenByBoth a x = shares-some a x e in absurd (both_ways _ (h both.character both.first) both.second)
      | inr e ↦ e
    ]
