-- What `==` answers of addresses and of blocks.
use Rattle.std.proofs.Common.{◌≡◌, ◌==◌, ◌&&◌, Bool, true, false, ℕ, ◌≤◌, ◌-◌, ◌%◌, ◌^◌, refl, ap, subst}
use Rattle.std.specs.Bool.{Decides}
use Rattle.std.specs.Coded.{le_prop}
use Rattle.std.proofs.Math.Nat.{ℕ_set}
use Rattle.std.proofs.lemmas.Bool.Decides.{Decides-eqb}
use Rattle.cidr_bits.specs.declared.address.Address.{Address}
use Rattle.cidr_bits.specs.declared.address.Address.TheVariants.{V4, V6}
use Rattle.cidr_bits.specs.declared.block.Block.{Block}
use Rattle.cidr_bits.specs.contracts.address.AddressPartialEq.TheImpl as address
use Rattle.cidr_bits.specs.contracts.block.BlockPartialEq.TheImpl as block
use Rattle.cidr_bits.specs.Numbers.{width, number}

pub addresses-Decides : (a b : Address) → Decides (address.eq-value.it a b) (a ≡ b)
addresses-Decides (V4 m) (V4 n) = let same = Decides-eqb m n in (λ e. ap V4 (same.0 e), λ e. same.1 (cc))
addresses-Decides (V4 m) (V6 n) = (λ e. absurd (cc), λ e. absurd (cc))
addresses-Decides (V6 m) (V4 n) = (λ e. absurd (cc), λ e. absurd (cc))
addresses-Decides (V6 m) (V6 n) = let same = Decides-eqb m n in (λ e. ap V6 (same.0 e), λ e. same.1 (cc))

-- a block is given by its first address and its prefix length
given-by : (a : Block) (fits : a.prefix ≤ width a.first) (clear : number a.first % 2 ^ (width a.first - a.prefix) ≡ 0)
    → a ≡ record { first = a.first; prefix = a.prefix; fits = fits; clear = clear }
given-by a fits clear = λ i. record { first = a.first; prefix = a.prefix; fits = le_prop a.fits fits i; clear = ℕ_set _ _ a.clear clear i }

abbrev IsGiven : Block → Address → ℕ → Type 0
IsGiven a first prefix = (fits : prefix ≤ width first) (clear : number first % 2 ^ (width first - prefix) ≡ 0)
    → a ≡ record { first = first; prefix = prefix; fits = fits; clear = clear }

pub block-path : (a b : Block) → a.first ≡ b.first → a.prefix ≡ b.prefix → a ≡ b
block-path a b first prefix =
    subst (IsGiven a b.first) prefix (subst (λ f. IsGiven a f a.prefix) first (given-by a)) b.fits b.clear

both : (p q : Bool) → (p && q) ≡ true → (p ≡ true) × (q ≡ true)
both true q h = (refl, h)
both false q h = absurd (cc)

of-both : (p q : Bool) → p ≡ true → q ≡ true → (p && q) ≡ true
of-both true q h k = k
of-both false q h k = absurd (cc)

pub blocks-Decides : (a b : Block) → Decides (block.eq-value.it a b) (a ≡ b)
blocks-Decides a b =
    let firsts = addresses-Decides a.first b.first in
    let prefixes = Decides-eqb a.prefix b.prefix in (
      λ e. let parts = both (address.eq-value.it a.first b.first) (a.prefix == b.prefix) e in block-path a b (firsts.0 parts.0) (prefixes.0 parts.1),
      λ e. of-both (address.eq-value.it a.first b.first) (a.prefix == b.prefix) (firsts.1 (ap (λ c. c.first) e)) (prefixes.1 (ap (λ c. c.prefix) e)),
    )
