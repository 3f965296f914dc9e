-- A byte string that no condition names meets no condition.
use Rattle.std.proofs.Common.{◌≡◌, ℕ, ◌<◌, ◌≤◌, ◌⊎◌, Bool, true, false, List, [], ◌∷◌, length, map, fold, max, replicate, refl, ap, ap₂, inl, inr, arith, length-append}
use Rattle.std.proofs.lemmas.List.{length-replicate}
use Rattle.std.specs.Prelude.{bytes_eq}
use Rattle.std.specs.List.{flat_map}
use Rattle.std.proofs.lemmas.Slice.Eq.{bytes_eq-Decides}
use Rattle.value_theory.specs.declared.kinds.PlainCond.{PlainCond}
use Rattle.value_theory.specs.declared.kinds.PlainCond.TheVariants.{Compares, Inside, Flag, Equals}
use Rattle.value_theory.specs.declared.kinds.PlainValue.TheVariants as Value
use Rattle.value_theory.specs.Solutions.{answers}
use Rattle.value_theory.specs.Samples.{samples_at, length_named, longest_length, fresh_bytes}
use Rattle.value_theory.proofs.Floors.{In, In-right}

-- as many answers, each of them no
abbrev pub none_met : List PlainCond → List Bool
none_met conds = map (λ c. false) conds

bytes_cases : (bs cs : List ℕ) → (bs ≡ cs) ⊎ (bytes_eq bs cs ≡ false)
bytes_cases bs cs = elim (bytes_eq bs cs) as (λ t. bytes_eq bs cs ≡ t → (bs ≡ cs) ⊎ (bytes_eq bs cs ≡ false)) [
  | true ↦ λ e. inl ((bytes_eq-Decides bs cs).0 e)
  | false ↦ λ e. inr e
] refl

-- a byte string is a sample, or no condition names it
pub bytes_listed : (conds : List PlainCond) (bs : List ℕ) → In (Value.Bytes bs) (flat_map samples_at conds) ⊎ (answers conds (Value.Bytes bs) ≡ none_met conds)
bytes_listed [] bs = inr refl
bytes_listed (Compares c b ∷ conds) bs = elim (bytes_listed conds bs) [ inl m ↦ inl (In-right _ (samples_at (Compares c b)) _ m) | inr e ↦ inr (ap (λ ts. false ∷ ts) e) ]
bytes_listed (Inside block ∷ conds) bs = elim (bytes_listed conds bs) [ inl m ↦ inl (In-right _ (samples_at (Inside block)) _ m) | inr e ↦ inr (ap (λ ts. false ∷ ts) e) ]
bytes_listed (Flag t f ∷ conds) bs = elim (bytes_listed conds bs) [ inl m ↦ inl m | inr e ↦ inr (ap (λ ts. false ∷ ts) e) ]
bytes_listed (Equals cs ∷ conds) bs =
    elim (bytes_cases bs cs) [
      | inl same ↦ inl (inl (ap Value.Bytes same))
      | inr other ↦ elim (bytes_listed conds bs) [ inl m ↦ inl (inr m) | inr e ↦ inr (ap₂ (λ t ts. t ∷ ts) other e) ]
    ]

-- no condition names a byte string of this length or more
abbrev AllShorter : ℕ → List PlainCond → Type 0
AllShorter n [] = Unit {0}
AllShorter n (c ∷ conds) = (length_named c < n) × AllShorter n conds

unnamed : (conds : List PlainCond) (bs : List ℕ) → AllShorter (length bs) conds → answers conds (Value.Bytes bs) ≡ none_met conds
unnamed [] bs h = refl
unnamed (Compares c b ∷ conds) bs h = ap (λ ts. false ∷ ts) (unnamed conds bs h.1)
unnamed (Inside block ∷ conds) bs h = ap (λ ts. false ∷ ts) (unnamed conds bs h.1)
unnamed (Flag t f ∷ conds) bs h = ap (λ ts. false ∷ ts) (unnamed conds bs h.1)
unnamed (Equals cs ∷ conds) bs h =
    elim (bytes_cases bs cs) [
      | inl same ↦ absurd (omega (arith, h.0, ap length same))
      | inr other ↦ ap₂ (λ t ts. t ∷ ts) other (unnamed conds bs h.1)
    ]

-- the longest length so far only grows, and passes each
grows : (conds : List PlainCond) (m : ℕ) → m ≤ fold (λ most c. max most (length_named c)) m conds
grows [] m = omega arith
grows (c ∷ conds) m = omega (arith, grows conds (max m (length_named c)))

all_shorter : (conds : List PlainCond) (m n : ℕ) → fold (λ most c. max most (length_named c)) m conds < n → AllShorter n conds
all_shorter [] m n h = tt
all_shorter (c ∷ conds) m n h = (omega (arith, h, grows conds (max m (length_named c))), all_shorter conds (max m (length_named c)) n h)

pub fresh_meets_none : (conds : List PlainCond) → answers conds (Value.Bytes (fresh_bytes conds)) ≡ none_met conds
fresh_meets_none conds =
    let long : longest_length conds < length (fresh_bytes conds) = omega (arith, length-append {A = ℕ} (replicate (longest_length conds) 0) (0 ∷ []), length-replicate {A = ℕ} (longest_length conds) 0) in
    unnamed conds (fresh_bytes conds) (all_shorter conds 0 (length (fresh_bytes conds)) long)
