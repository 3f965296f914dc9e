-- An address and the greatest point of its family that it has reached lie in the same blocks.
use Rattle.std.proofs.Common.{◌≡◌, ℕ, ◌+◌, ◌-◌, ◌*◌, ◌/◌, ◌%◌, ◌^◌, ◌<◌, ◌≤◌, ◌⊎◌, false, List, [], ◌∷◌, eqb, refl, ap, ap₂, ◌∙◌, inl, inr, arith, lt-ltb, eq-eqb}
use Rattle.std.specs.List.{flat_map}
use Rattle.std.proofs.lemmas.Bool.{cases_lt, eqb-true}
use Rattle.std.proofs.lemmas.Nat.{pow_pos, shr_split, shr_high}
use Rattle.cidr_bits.specs.declared.address.Address.{Address}
use Rattle.cidr_bits.specs.declared.address.Address.TheVariants.{V4, V6}
use Rattle.cidr_bits.specs.Numbers.{width, number, lies_in}
use Rattle.value_theory.specs.declared.kinds.PlainCond.{PlainCond}
use Rattle.value_theory.specs.declared.kinds.PlainCond.TheVariants.{Compares, Inside, Flag, Equals}
use Rattle.value_theory.specs.declared.kinds.PlainValue.TheVariants as Value
use Rattle.value_theory.specs.Solutions.{answers}
use Rattle.value_theory.specs.Samples.{samples_at, address_at}
use Rattle.value_theory.proofs.Floors.{In, In-left, In-right, AllReached, IsFloor, floor}
use Rattle.value_theory.proofs.SameTests.{same_tests}

-- the address of the family with this number
abbrev pub moved : Address → ℕ → Address
moved (V4 m) n = V4 n
moved (V6 m) n = V6 n

-- the ends of a block of the address's family, and further points
abbrev pub block_points : Address → Address → ℕ → List ℕ → List ℕ
block_points (V4 v) (V4 f) prefix ks = f ∷ (f + 2 ^ (32 - prefix)) ∷ ks
block_points (V4 v) (V6 f) prefix ks = ks
block_points (V6 v) (V4 f) prefix ks = ks
block_points (V6 v) (V6 f) prefix ks = f ∷ (f + 2 ^ (128 - prefix)) ∷ ks

-- the points of conditions on addresses of the family
abbrev pub address_points : Address → List PlainCond → List ℕ
address_points v [] = []
address_points v (Compares c bound ∷ conds) = address_points v conds
address_points v (Inside block ∷ conds) = block_points v block.first block.prefix (address_points v conds)
address_points v (Flag t f ∷ conds) = address_points v conds
address_points v (Equals bytes ∷ conds) = address_points v conds

-- a number shares the first bits of a block where it stands between the block's ends
within_ends : (f free n : ℕ) → f % 2 ^ free ≡ 0 → f ≤ n → n < f + 2 ^ free → n / 2 ^ free ≡ f / 2 ^ free
within_ends f free n clear above below =
    let s = 2 ^ free in
    let whole : f / s * s + f % s ≡ f = shr_split f free in
    let e : n ≡ f / s * s + (n - f) = omega (arith, whole) in
    ap (λ k. k / s) e ∙ shr_high (f / s) free (n - f) (omega arith)

ends_around : (f free n : ℕ) → f % 2 ^ free ≡ 0 → n / 2 ^ free ≡ f / 2 ^ free → (f ≤ n) × (n < f + 2 ^ free)
ends_around f free n clear same =
    let whole = shr_split f free in
    let other = shr_split n free in
    let e : n / 2 ^ free * 2 ^ free ≡ f / 2 ^ free * 2 ^ free = ap (λ k. k * 2 ^ free) same in
    let p = pow_pos free in
    (omega (arith, whole, other, e), omega (arith, whole, other, e, p))

inside_alike : (f free v s : ℕ) → f % 2 ^ free ≡ 0 → s ≤ v → (f ≤ v → f ≤ s) → (f + 2 ^ free ≤ v → f + 2 ^ free ≤ s) → eqb (v / 2 ^ free) (f / 2 ^ free) ≡ eqb (s / 2 ^ free) (f / 2 ^ free)
inside_alike f free v s clear below at past =
    same_tests _ _
    (λ h. let around = ends_around f free v clear (eqb-true _ _ h) in
    eq-eqb _ _ (within_ends f free s clear (at around.0) (omega (arith, around.1))))
    (λ h. let around = ends_around f free s clear (eqb-true _ _ h) in
    let under : v < f + 2 ^ free = elim (cases_lt v (f + 2 ^ free)) [ inl l ↦ l | inr m ↦ absurd (let t = past m in omega (arith, around.1)) ] in
    eq-eqb _ _ (within_ends f free v clear (omega (arith, around.0)) under))

block_alike : (v first : Address) (s prefix : ℕ) (ks : List ℕ) → number first % 2 ^ (width first - prefix) ≡ 0 → s ≤ number v → AllReached ◌≤◌ (block_points v first prefix ks) s (number v) → (lies_in first prefix v ≡ lies_in first prefix (moved v s)) × AllReached ◌≤◌ ks s (number v)
block_alike (V4 v) (V4 f) s prefix ks clear below h = (inside_alike f (32 - prefix) v s clear below h.0 h.1.0, h.1.1)
block_alike (V4 v) (V6 f) s prefix ks clear below h = (refl, h)
block_alike (V6 v) (V4 f) s prefix ks clear below h = (refl, h)
block_alike (V6 v) (V6 f) s prefix ks clear below h = (inside_alike f (128 - prefix) v s clear below h.0 h.1.0, h.1.1)

pub addresses_alike : (conds : List PlainCond) (v : Address) (s : ℕ) → s ≤ number v → AllReached ◌≤◌ (address_points v conds) s (number v) → answers conds (Value.Address v) ≡ answers conds (Value.Address (moved v s))
addresses_alike [] v s below h = refl
addresses_alike (Compares c b ∷ conds) v s below h = ap (λ ts. false ∷ ts) (addresses_alike conds v s below h)
addresses_alike (Inside block ∷ conds) v s below h =
    let (first, rest) = block_alike v block.first s block.prefix (address_points v conds) block.clear below h in
    ap₂ (λ t ts. t ∷ ts) first (addresses_alike conds v s below rest)
addresses_alike (Flag t f ∷ conds) v s below h = ap (λ ts. false ∷ ts) (addresses_alike conds v s below h)
addresses_alike (Equals bytes ∷ conds) v s below h = ap (λ ts. false ∷ ts) (addresses_alike conds v s below h)

-- each point of the family's width is a sample

block_listed : (v first : Address) (s prefix : ℕ) (ks : List ℕ) → s < 2 ^ width v → In s (block_points v first prefix ks) → In (Value.Address (moved v s)) (Value.Address first ∷ address_at first (number first + 2 ^ (width first - prefix))) ⊎ In s ks
block_listed (V4 v) (V4 f) s prefix ks small (inl e) = inl (inl (ap (λ n. Value.Address (V4 n)) e))
block_listed (V4 v) (V4 f) s prefix ks small (inr (inl e)) =
    let fits : f + 2 ^ (32 - prefix) < 2 ^ 32 = omega arith in
    inl (inr (rw (lt-ltb _ _ fits) (inl (ap (λ n. Value.Address (V4 n)) e))))
block_listed (V4 v) (V4 f) s prefix ks small (inr (inr m)) = inr m
block_listed (V4 v) (V6 f) s prefix ks small m = inr m
block_listed (V6 v) (V4 f) s prefix ks small m = inr m
block_listed (V6 v) (V6 f) s prefix ks small (inl e) = inl (inl (ap (λ n. Value.Address (V6 n)) e))
block_listed (V6 v) (V6 f) s prefix ks small (inr (inl e)) =
    let fits : f + 2 ^ (128 - prefix) < 2 ^ 128 = omega arith in
    inl (inr (rw (lt-ltb _ _ fits) (inl (ap (λ n. Value.Address (V6 n)) e))))
block_listed (V6 v) (V6 f) s prefix ks small (inr (inr m)) = inr m

pub address_listed : (conds : List PlainCond) (v : Address) (s : ℕ) → s < 2 ^ width v → In s (address_points v conds) → In (Value.Address (moved v s)) (flat_map samples_at conds)
address_listed [] v s small m = elim m [ ]
address_listed (Compares c b ∷ conds) v s small m = In-right _ (samples_at (Compares c b)) _ (address_listed conds v s small m)
address_listed (Inside block ∷ conds) v s small m =
    elim (block_listed v block.first s block.prefix (address_points v conds) small m) [
      | inl here ↦ In-left _ (samples_at (Inside block)) _ here
      | inr later ↦ In-right _ (samples_at (Inside block)) _ (address_listed conds v s small later)
    ]
address_listed (Flag t f ∷ conds) v s small m = address_listed conds v s small m
address_listed (Equals bytes ∷ conds) v s small m = inr (address_listed conds v s small m)

nat_cases : (a b : ℕ) → (a ≤ b) ⊎ ((a ≤ b → ⊥) × (b ≤ a))
nat_cases a b = elim (cases_lt b a) [ inl l ↦ inr (λ h. omega arith, omega arith) | inr m ↦ inl m ]

pub address_floor : (ks : List ℕ) (v : ℕ) → (s : ℕ) × IsFloor ◌≤◌ 0 ks v s
address_floor ks v = floor ◌≤◌ (λ a. omega arith) (λ a b c h k. omega arith) nat_cases 0 ks v (omega arith)
