-- Blocks that lie in one another.
use Rattle.std.proofs.Common.{◌≡◌, ℕ, ◌-◌, ◌+◌, ◌/◌, ◌^◌, ◌≤◌, true, sym, ap, ◌∙◌, arith, eq-eqb}
use Rattle.std.proofs.lemmas.Bool.{eqb-true}
use Rattle.std.proofs.lemmas.Nat.{pow-add}
use Rattle.std.proofs.Math.Nat.{div-div-eq-div-mul}
use Rattle.cidr_bits.specs.Numbers.{lies_in}
use Rattle.cidr_bits.specs.declared.address.Address.{Address}
use Rattle.cidr_bits.specs.declared.address.Address.TheVariants.{V4, V6}

fewer-bits : (n m small large : ℕ) → small ≤ large → n / 2 ^ small ≡ m / 2 ^ small → n / 2 ^ large ≡ m / 2 ^ large
fewer-bits n m small large more same =
    let more-bits : large ≡ small + (large - small) = omega (arith, more) in
    let split : (x : ℕ) → x / 2 ^ large ≡ x / 2 ^ small / 2 ^ (large - small) =
    λ x. ap (λ k. x / 2 ^ k) more-bits ∙ ap (λ p. x / p) (pow-add 2 small (large - small)) ∙ sym (div-div-eq-div-mul x (2 ^ small) (2 ^ (large - small))) in
    split n ∙ ap (λ k. k / 2 ^ (large - small)) same ∙ sym (split m)

-- what lies in a block lies in each shorter one that its first address lies in
pub lies-deeper : (f g a : Address) (p q : ℕ) → p ≤ q → lies_in f p g ≡ true → lies_in g q a ≡ true → lies_in f p a ≡ true
lies-deeper (V4 f) (V4 g) (V4 a) p q more first second = eq-eqb _ _ (fewer-bits a g (32 - q) (32 - p) (omega (arith, more)) (eqb-true _ _ second) ∙ eqb-true _ _ first)
lies-deeper (V4 f) (V4 g) (V6 a) p q more first second = absurd (cc)
lies-deeper (V4 f) (V6 g) a p q more first second = absurd (cc)
lies-deeper (V6 f) (V4 g) a p q more first second = absurd (cc)
lies-deeper (V6 f) (V6 g) (V4 a) p q more first second = absurd (cc)
lies-deeper (V6 f) (V6 g) (V6 a) p q more first second = eq-eqb _ _ (fewer-bits a g (128 - q) (128 - p) (omega (arith, more)) (eqb-true _ _ second) ∙ eqb-true _ _ first)
