-- Patterns whose fronts have different sums clash.
use Rattle.std.proofs.Common.{◌≡◌, ◌≢◌, ℕ, zero, suc, ◌+◌, ◌-◌, ◌<◌, ◌≤◌, length, take, drop, get_or, true, false, List, [], ◌∷◌, Option, Some, None, refl, sym, ap, ◌∙◌, inl, inr, arith}
use Rattle.std.proofs.lemmas.Bool.{cases_Bool, cases_eq, eqb-true}
use Rattle.std.proofs.lemmas.List.{take_all}
use Rattle.std.specs.Char.{to_ascii_lowercase}
use Rattle.wildcard_lang.specs.declared.piece.Piece.{Piece}
use Rattle.wildcard_lang.specs.declared.piece.Piece.TheVariants.{Lit, LitFold, One, Many, OneNoColon, ManyNoColon}
use Rattle.wildcard_lang.specs.Matching.{is_many, takes}
use Rattle.wildcard_lang.specs.Covering.{SharesNothing, Clash, differs, goes_on}
use Rattle.wildcard_lang.specs.Neighbours.{folded_character}
use Rattle.wildcard_lang.specs.FrontSums.{AreOfOtherFronts, front_sum, next_sum, with_character}
use Rattle.wildcard_lang.proofs.Neighbours.{same_lower}

-- a piece with a character takes what is that character, folded
taken_folded : (a : Piece) (c k : ℕ) → folded_character a ≡ Some c → takes a k ≡ true → to_ascii_lowercase k ≡ c
taken_folded (Lit d) c k own h = let e : k ≡ d = eqb-true k d h in rw e (cc)
taken_folded (LitFold d) c k own h = let e : to_ascii_lowercase d ≡ to_ascii_lowercase k = same_lower d k h in rw (← e) (cc)
taken_folded One c k own h = absurd (cc)
taken_folded Many c k own h = absurd (cc)
taken_folded OneNoColon c k own h = absurd (cc)
taken_folded ManyNoColon c k own h = absurd (cc)

others_share_nothing : (a x : Piece) (c d : ℕ) → folded_character a ≡ Some c → folded_character x ≡ Some d → c ≢ d → SharesNothing a x
others_share_nothing a x c d own its other k h =
    elim (cases_Bool (takes x k)) [
      | inl e ↦ absurd (other (sym (taken_folded a c k own h) ∙ taken_folded x d k its e))
      | inr e ↦ e
    ]

own_is_one : (a : Piece) (c : ℕ) → folded_character a ≡ Some c → is_many a ≡ false
own_is_one (Lit d) c h = refl
own_is_one (LitFold d) c h = refl
own_is_one One c h = refl
own_is_one Many c h = absurd (cc)
own_is_one OneNoColon c h = refl
own_is_one ManyNoColon c h = absurd (cc)

-- a piece of a front that has a sum has a character
front_character : (o : Option ℕ) (more : ℕ → ℕ) → with_character o more ≢ 0 → (c : ℕ) × (o ≡ Some c)
front_character None more h = absurd (h refl)
front_character (Some c) more h = (c, refl)

fronts-clash : (n sum : ℕ) (q p : List Piece) → AreOfOtherFronts (front_sum n sum q) (front_sum n sum p) → Clash q p
fronts-clash zero sum q p h = absurd (h.0 refl)
fronts-clash (suc n) sum [] p h = absurd (h.1 refl)
fronts-clash (suc n) sum (a ∷ q) [] h = absurd (h.2 refl)
fronts-clash (suc n) sum (a ∷ q) (x ∷ p) h =
    let own = front_character (folded_character a) (λ c. front_sum n (next_sum sum c) q) h.1 in
    let its = front_character (folded_character x) (λ c. front_sum n (next_sum sum c) p) h.2 in
    elim (cases_eq own.0 its.0) [
      | inl same ↦
          let here : folded_character x ≡ Some own.0 = its.1 ∙ ap Some (sym same) in
          goes_on (own_is_one a own.0 own.1) (own_is_one x its.0 its.1) (fronts-clash n (next_sum sum own.0) q p (rw (own.1, here) at h))
      | inr other ↦ differs (own_is_one a own.0 own.1) (own_is_one x its.0 its.1) (others_share_nothing a x own.0 its.0 own.1 its.1 other)
    ]

pub other-fronts : (n : ℕ) (q p : List Piece) (one other : ℕ) → one ≡ front_sum n 0 q → other ≡ front_sum n 0 p → AreOfOtherFronts one other → Clash q p
other-fronts n q p one other first second h = fronts-clash n 0 q p (rw (first, second) at h)

-- ---- the sum, piece by piece

pub sum-next : (count i sum own c whole : ℕ) (rest : List Piece) (d : Piece) → i < count → 1 ≤ length rest → folded_character (get_or rest 0 d) ≡ Some c → own ≡ next_sum sum c →
    front_sum (count - i) sum rest ≡ whole → front_sum (count - (i + 1)) own (take (length rest - 1) (drop 1 rest)) ≡ whole
sum-next count i sum own c whole [] d within long is own_is so_far = absurd (omega (arith, long))
sum-next count i sum own c whole (x ∷ p) d within long is own_is so_far =
    let step : count - i ≡ suc (count - (i + 1)) = omega arith in
    let all : take (length (x ∷ p) - 1) (drop 1 (x ∷ p)) ≡ p = take_all (length (x ∷ p) - 1) p (omega arith) in
    rw (all, own_is) (rw (step, is) at so_far)
