-- Of two blocks that share an address, one has the first address of the other.
use Rattle.std.proofs.Common.{◌≡◌, ◌⊎◌, ℕ, ◌-◌, ◌/◌, ◌^◌, ◌≤◌, true, inl, inr, arith, refl, ap, sym, ◌∙◌, eq-eqb}
use Rattle.std.proofs.Math.Nat.{div-div-eq-div-mul}
use Rattle.std.proofs.lemmas.Bool.{cases_lt, eqb-true}
use Rattle.std.proofs.lemmas.Nat.{pow-add}
use Rattle.cidr_bits.specs.declared.address.Address.{Address}
use Rattle.cidr_bits.specs.declared.address.Address.TheVariants.{V4, V6}
use Rattle.cidr_bits.specs.Numbers.{lies_in}

-- the earlier bits of a number are among those up to a later one
earlier : (n more less : ℕ) → less ≤ more → n / 2 ^ more ≡ n / 2 ^ less / 2 ^ (more - less)
earlier n more less below =
    ap (λ k. n / 2 ^ k) (omega (arith, below)) ∙ (ap (λ k. n / k) (pow-add 2 less (more - less)) ∙ sym (div-div-eq-div-mul n (2 ^ less) (2 ^ (more - less))))

nested : (n one other more less : ℕ) → less ≤ more → n / 2 ^ more ≡ one / 2 ^ more → n / 2 ^ less ≡ other / 2 ^ less → other / 2 ^ more ≡ one / 2 ^ more
nested n one other more less below first second =
    earlier other more less below ∙ (ap (λ k. k / 2 ^ (more - less)) (sym second) ∙ (sym (earlier n more less below) ∙ first))

either : (n one other f g : ℕ) → n / 2 ^ f ≡ one / 2 ^ f → n / 2 ^ g ≡ other / 2 ^ g → (other / 2 ^ f ≡ one / 2 ^ f) ⊎ (one / 2 ^ g ≡ other / 2 ^ g)
either n one other f g first second = elim (cases_lt f g) [
  | inl less ↦ inr (nested n other one g f (omega (arith, less)) second first)
  | inr below ↦ inl (nested n one other f g below first second)
]

-- the same of addresses
pub sharing-nested : (one other a : Address) (p q : ℕ) → lies_in one p a ≡ true → lies_in other q a ≡ true → (lies_in one p other ≡ true) ⊎ (lies_in other q one ≡ true)
sharing-nested (V4 m) (V4 n) (V4 a) p q first second = elim (either a m n _ _ (eqb-true _ _ first) (eqb-true _ _ second)) [
  | inl e ↦ inl (eq-eqb _ _ e)
  | inr e ↦ inr (eq-eqb _ _ e)
]
sharing-nested (V6 m) (V6 n) (V6 a) p q first second = elim (either a m n _ _ (eqb-true _ _ first) (eqb-true _ _ second)) [
  | inl e ↦ inl (eq-eqb _ _ e)
  | inr e ↦ inr (eq-eqb _ _ e)
]
sharing-nested (V4 m) other (V6 a) p q first second = absurd (cc)
sharing-nested (V6 m) other (V4 a) p q first second = absurd (cc)
sharing-nested one (V4 n) (V6 a) p q first second = absurd (cc)
sharing-nested one (V6 n) (V4 a) p q first second = absurd (cc)

-- a block has its first address
pub first-inside : (first : Address) (prefix : ℕ) → lies_in first prefix first ≡ true
first-inside (V4 f) prefix = eq-eqb _ _ refl
first-inside (V6 f) prefix = eq-eqb _ _ refl
