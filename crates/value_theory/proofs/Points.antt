-- Finitely many points stand for every value of a kind.
use Rattle.std.proofs.Common.{◌≡◌, ℕ, zero, suc, ◌<◌, ◌≤◌, ℤ, pos, negsuc, ◌≤ℤ◌, true, false, List, [], ◌∷◌, ◌++◌, take, replicate, All, slice_index_or, subst, refl, sym, ap, ◌∙◌, inl, inr, arith}
use Rattle.std.proofs.lemmas.Int.{ints}
use Rattle.std.proofs.lemmas.List.Elements.{All-contains, All-nil, All-cons, All-append, All-head}
use Rattle.std.specs.List.{flat_map, list_all}
use Rattle.intervals.specs.Scaled.{IsScaled}
use Rattle.cidr_bits.specs.declared.address.Address.{Address}
use Rattle.cidr_bits.specs.declared.address.Address.TheVariants.{V4, V6}
use Rattle.cidr_bits.specs.Numbers.{number, IsAddress}
use Rattle.value_theory.specs.declared.kinds.PlainKind.{PlainKind}
use Rattle.value_theory.specs.declared.kinds.PlainKind.TheVariants as Kind
use Rattle.value_theory.specs.declared.kinds.PlainCond.{PlainCond}
use Rattle.value_theory.specs.declared.kinds.PlainValue.{PlainValue}
use Rattle.value_theory.specs.declared.kinds.PlainValue.TheVariants as Value
use Rattle.value_theory.specs.Meaning.{IsOfPlainKind}
use Rattle.value_theory.specs.declared.clause.Literal.{Literal}
use Rattle.value_theory.specs.Clauses.{some_literal_holds}
use Rattle.value_theory.specs.Solutions.{answers, meets_clauses}
use Rattle.value_theory.specs.Samples.{samples, first_samples, samples_at, longest_length, fresh_bytes, SamplesStandForAll}
use Rattle.value_theory.proofs.Floors.{In, In-left, In-right, Contains-In, IsFloor}
use Rattle.value_theory.proofs.NumberPoints.{number_points, numbers_alike, number_listed, number_floor}
use Rattle.value_theory.proofs.AddressPoints.{moved, address_points, addresses_alike, address_listed, address_floor}
use Rattle.value_theory.proofs.BytePoints.{bytes_listed, fresh_meets_none}

-- a sample with the same answers as v
pub record HasPoint (kind : PlainKind) (conds : List PlainCond) (v : PlainValue) : Type 0 where
  pub point : PlainValue
  pub is_of_kind : IsOfPlainKind kind point
  pub listed : In point (samples kind conds)
  pub alike : answers conds v ≡ answers conds point

abbrev lo : ℤ
lo = negsuc 999_999_999_999_999_999_999_999_998

from_least : (v : ℤ) → IsScaled v → lo ≤ℤ v
from_least (pos n) small = omega (arith, ints)
from_least (negsuc n) small = omega (arith, ints)

between : (s v : ℤ) → IsScaled v → lo ≤ℤ s → s ≤ℤ v → IsScaled s
between (pos s) (pos n) small least below = omega (arith, ints)
between (pos s) (negsuc n) small least below = absurd (omega (arith, ints))
between (negsuc s) v small least below = omega (arith, ints)

number_at_floor : (conds : List PlainCond) (v s : ℤ) → IsScaled v → IsFloor ◌≤ℤ◌ lo (number_points conds) v s → HasPoint Kind.Number conds (Value.Number v)
number_at_floor conds v s small f = record {
  point = Value.Number s;
  is_of_kind = between s v small f.least f.below;
  listed = elim f.listed [
    | inl e ↦ In-right _ (first_samples Kind.Number conds ++ flat_map samples_at conds) _ (inl (ap Value.Number e))
    | inr m ↦ In-left _ (first_samples Kind.Number conds ++ flat_map samples_at conds) _ (inr (number_listed conds s (between s v small f.least f.below) m))
  ];
  alike = numbers_alike conds v s f.below f.reached;
}

number_point : (conds : List PlainCond) (v : ℤ) → IsScaled v → HasPoint Kind.Number conds (Value.Number v)
number_point conds v small =
    let (s, f) = number_floor lo (number_points conds) v (from_least v small) in
    number_at_floor conds v s small f

least_listed : (conds : List PlainCond) (v : Address) (s : ℕ) → s ≡ 0 → In (Value.Address (moved v s)) (first_samples Kind.Address conds ++ flat_map samples_at conds)
least_listed conds (V4 n) s e = inl (ap (λ k. Value.Address (V4 k)) e)
least_listed conds (V6 n) s e = inr (inl (ap (λ k. Value.Address (V6 k)) e))

moved_fits : (v : Address) (s : ℕ) → IsAddress v → s ≤ number v → IsAddress (moved v s)
moved_fits (V4 n) s small below = omega arith
moved_fits (V6 n) s small below = omega arith

address_at_floor : (conds : List PlainCond) (v : Address) (s : ℕ) → IsAddress v → IsFloor ◌≤◌ 0 (address_points v conds) (number v) s → HasPoint Kind.Address conds (Value.Address v)
address_at_floor conds v s small f = record {
  point = Value.Address (moved v s);
  is_of_kind = moved_fits v s small f.below;
  listed = In-left _ (first_samples Kind.Address conds ++ flat_map samples_at conds) _ (elim f.listed [ inl e ↦ least_listed conds v s e | inr m ↦ inr (inr (address_listed conds v s (omega (arith, f.below)) m)) ]);
  alike = addresses_alike conds v s f.below f.reached;
}

address_point : (conds : List PlainCond) (v : Address) → IsAddress v → HasPoint Kind.Address conds (Value.Address v)
address_point conds v small =
    let (s, f) = address_floor (address_points v conds) (number v) in
    address_at_floor conds v s small f

zero_bytes : (n : ℕ) → All (λ b. b < 256) (replicate n 0)
zero_bytes zero = All-nil (λ b. b < 256)
zero_bytes (suc n) = All-cons (λ b. b < 256) 0 (replicate n 0) (omega arith) (zero_bytes n)

zero_byte : (n : ℕ) → All (λ b. b < 256) (replicate n 0 ++ 0 ∷ [])
zero_byte n = All-append (λ b. b < 256) (replicate n 0) (0 ∷ []) (zero_bytes n) (All-cons (λ b. b < 256) 0 [] (omega arith) (All-nil (λ b. b < 256)))

bytes_point : (conds : List PlainCond) (bs : List ℕ) → IsOfPlainKind Kind.Bytes (Value.Bytes bs) → HasPoint Kind.Bytes conds (Value.Bytes bs)
bytes_point conds bs h =
    elim (bytes_listed conds bs) [
      | inl m ↦ record {
        point = Value.Bytes bs;
        is_of_kind = h;
        listed = In-left _ (first_samples Kind.Bytes conds ++ flat_map samples_at conds) _ (inr m);
        alike = refl;
      }
      | inr none ↦ record {
        point = Value.Bytes (fresh_bytes conds);
        is_of_kind = zero_byte (longest_length conds);
        listed = inl refl;
        alike = none ∙ sym (fresh_meets_none conds);
      }
    ]

pub has_point : (kind : PlainKind) (conds : List PlainCond) (v : PlainValue) → IsOfPlainKind kind v → HasPoint kind conds v
has_point Kind.Truth conds (Value.Truth false) h = record { point = Value.Truth false; is_of_kind = h; listed = inl refl; alike = refl }
has_point Kind.Truth conds (Value.Truth true) h = record { point = Value.Truth true; is_of_kind = h; listed = inr (inl refl); alike = refl }
has_point Kind.Truth conds (Value.Number n) h = absurd h
has_point Kind.Truth conds (Value.Address a) h = absurd h
has_point Kind.Truth conds (Value.Bytes bs) h = absurd h
has_point Kind.Number conds (Value.Truth b) h = absurd h
has_point Kind.Number conds (Value.Number n) h = number_point conds n h
has_point Kind.Number conds (Value.Address a) h = absurd h
has_point Kind.Number conds (Value.Bytes bs) h = absurd h
has_point Kind.Address conds (Value.Truth b) h = absurd h
has_point Kind.Address conds (Value.Number n) h = absurd h
has_point Kind.Address conds (Value.Address a) h = address_point conds a h
has_point Kind.Address conds (Value.Bytes bs) h = absurd h
has_point Kind.Bytes conds (Value.Truth b) h = absurd h
has_point Kind.Bytes conds (Value.Number n) h = absurd h
has_point Kind.Bytes conds (Value.Address a) h = absurd h
has_point Kind.Bytes conds (Value.Bytes bs) h = bytes_point conds bs h

pub samples_stand_for_all : SamplesStandForAll
samples_stand_for_all kind conds v h =
    let p = has_point kind conds v h in
    (p.point, p.is_of_kind, Contains-In p.point (samples kind conds) p.listed, p.alike)

-- where no sample meets the clauses, no value does
pub none_left : (kind : PlainKind) (conds : List PlainCond) (clauses : List (List Literal)) (points : List PlainValue) → points ≡ samples kind conds → All (λ p. meets_clauses conds clauses p ≡ false) points → (v : PlainValue) → IsOfPlainKind kind v → meets_clauses conds clauses v ≡ false
none_left kind conds clauses points e none v h =
    let P : PlainValue → Type 0 = λ p. meets_clauses conds clauses p ≡ false in
    let (point, of_kind, listed, alike) = samples_stand_for_all kind conds v h in
    ap (λ found. list_all (some_literal_holds (λ i. slice_index_or found i false)) clauses) alike
    ∙ All-contains P (samples kind conds) point (subst (All P) e none) listed

-- where 0 meets the clauses, no sample stands before it
abbrev ZeroMeets : List PlainCond → List (List Literal) → Type 0
ZeroMeets conds clauses = meets_clauses conds clauses (Value.Number (pos 0)) ≡ true

abbrev AllMiss : List PlainCond → List (List Literal) → List PlainValue → Type 0
AllMiss conds clauses points = All (λ p. meets_clauses conds clauses p ≡ false) points

zero_misses : (conds : List PlainCond) (clauses : List (List Literal)) (rest : List PlainValue) → ZeroMeets conds clauses → AllMiss conds clauses (Value.Number (pos 0) ∷ rest) → ⊥
zero_misses conds clauses rest met h =
    let missed = All-head (λ p. meets_clauses conds clauses p ≡ false) (Value.Number (pos 0)) rest h in
    cc

pub zero_tried : (kind : PlainKind) (conds : List PlainCond) (clauses : List (List Literal)) (points : List PlainValue) → kind ≡ Kind.Number → ZeroMeets conds clauses → points ≡ samples kind conds → AllMiss conds clauses points → ⊥
zero_tried Kind.Truth conds clauses points k met e h = cc
zero_tried Kind.Number conds clauses points k met e h = zero_misses conds clauses _ met (subst (AllMiss conds clauses) e h)
zero_tried Kind.Address conds clauses points k met e h = cc
zero_tried Kind.Bytes conds clauses points k met e h = cc

first_zero : (conds : List PlainCond) (clauses : List (List Literal)) (points : List PlainValue) (index : ℕ) (v : PlainValue) → ZeroMeets conds clauses → points ≡ samples Kind.Number conds → AllMiss conds clauses (take index points) → v ≡ slice_index_or points index v → v ≡ Value.Number (pos 0)
first_zero conds clauses points zero v met e h at = at ∙ ap (λ ps. slice_index_or ps 0 v) e
first_zero conds clauses points (suc k) v met e h at = absurd (zero_misses conds clauses _ met (subst (λ ps. AllMiss conds clauses (take (suc k) ps)) e h))

pub zero_found : (kind : PlainKind) (conds : List PlainCond) (clauses : List (List Literal)) (points : List PlainValue) (index : ℕ) (v : PlainValue) → points ≡ samples kind conds → AllMiss conds clauses (take index points) → v ≡ slice_index_or points index v → kind ≡ Kind.Number → ZeroMeets conds clauses → v ≡ Value.Number (pos 0)
zero_found kind conds clauses points index v e h at k met =
    first_zero conds clauses points index v met (e ∙ ap (λ k. samples k conds) k) h at
