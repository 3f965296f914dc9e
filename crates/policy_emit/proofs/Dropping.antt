-- A finding's dimensions, one after another.
use Rattle.std.proofs.Common.{◌≡◌, ◌<◌, ◌≤◌, ◌+◌, ℕ, zero, suc, List, [], ◌∷◌, ◌++◌, fold, drop, length, Some, None, refl, ap, subst, ◌∙◌, if◌then◌else◌, arith}
use Rattle.std.specs.Prelude.{slice_get, slice_index}
use Rattle.std.proofs.lemmas.List.{drop_all}
use Rattle.serde_json.specs.Data.{Members}
use Rattle.policy_model.specs.declared.operator.Condition.{Condition}
use Rattle.policy_model.specs.declared.schema.Schema.{Schema}
use Rattle.strata.specs.declared.stratum.Stratum.{Stratum}
use Rattle.strata.specs.Covers.{predicate_at}
use Rattle.findings.specs.Findings.{IsFinding}
use Rattle.policy_emit.specs.declared.part.Part.{Part}
use Rattle.policy_emit.specs.Emitted.{conditions_in, is_slot_of, key_conditions, predicate_of}
use Rattle.policy_emit.specs.Written.{with_condition}

pub finding-long : (ds : List Stratum) (f : List ℕ) → IsFinding ds f → length f ≡ length ds
finding-long [] [] is = refl
finding-long [] (n ∷ f) is = absurd is
finding-long (d ∷ ds) [] is = absurd is
finding-long (d ∷ ds) (n ∷ f) is = ap suc (finding-long ds f is.1)

pub number-within : (ds : List Stratum) (f : List ℕ) → IsFinding ds f → (i : ℕ) (d : Stratum) → slice_get ds i ≡ Some d → slice_index f i < length d.predicates
number-within [] f is i d at = absurd (cc)
number-within (e ∷ ds) [] is i d at = absurd is
number-within (e ∷ ds) (n ∷ f) is zero d at = let same : e ≡ d = cc in subst (λ (x : Stratum). n < length x.predicates) same is.0
number-within (e ∷ ds) (n ∷ f) is (suc i) d at = number-within ds f is.1 i d at

-- ---- a part

part-next : (p : Part) (ds : List Stratum) (f : List ℕ) (i : ℕ) (d : Stratum) → slice_get ds i ≡ Some d → i < length f →
    predicate_of p (drop i ds) (drop i f) ≡ (if is_slot_of p d.slot then Some (predicate_at d.predicates (slice_index f i)) else predicate_of p (drop (suc i) ds) (drop (suc i) f))
part-next p [] f i d at within = absurd (cc)
part-next p (e ∷ ds) [] i d at within = absurd (omega (arith, within))
part-next p (e ∷ ds) (n ∷ f) zero d at within =
    let same : e ≡ d = cc in
    ap (λ (x : Stratum). if is_slot_of p x.slot then Some (predicate_at x.predicates n) else predicate_of p ds f) same
part-next p (e ∷ ds) (n ∷ f) (suc i) d at within = part-next p ds f i d at (omega (arith, within))

no-numbers : (p : Part) (ds : List Stratum) → predicate_of p ds [] ≡ None
no-numbers p [] = refl
no-numbers p (d ∷ ds) = refl

pub part-end : (p : Part) (ds : List Stratum) (f : List ℕ) (i : ℕ) → length f ≤ i → predicate_of p (drop i ds) (drop i f) ≡ None
part-end p ds f i past = ap (predicate_of p (drop i ds)) (drop_all i f past) ∙ no-numbers p (drop i ds)

pub part-step : (p : Part) (ds : List Stratum) (f : List ℕ) (i : ℕ) (d : Stratum) → slice_get ds i ≡ Some d → i < length f →
    predicate_of p (drop i ds) (drop i f) ≡ (if is_slot_of p d.slot then Some (predicate_at d.predicates (slice_index f i)) else predicate_of p (drop (i + 1) ds) (drop (i + 1) f))
part-step p ds f i d at within = let next : i + 1 ≡ suc i = omega arith in rw next (part-next p ds f i d at within)

-- ---- conditions

module _ (schema : Schema) where
  conditions-next : (ds : List Stratum) (f : List ℕ) (i : ℕ) (d : Stratum) → slice_get ds i ≡ Some d → i < length f →
      conditions_in schema (drop i ds) (drop i f) ≡ key_conditions schema d.slot (predicate_at d.predicates (slice_index f i)) ++ conditions_in schema (drop (suc i) ds) (drop (suc i) f)
  conditions-next [] f i d at within = absurd (cc)
  conditions-next (e ∷ ds) [] i d at within = absurd (omega (arith, within))
  conditions-next (e ∷ ds) (n ∷ f) zero d at within =
      let same : e ≡ d = cc in
      ap (λ (x : Stratum). key_conditions schema x.slot (predicate_at x.predicates n) ++ conditions_in schema ds f) same
  conditions-next (e ∷ ds) (n ∷ f) (suc i) d at within = conditions-next ds f i d at (omega (arith, within))

  pub conditions-step : (ds : List Stratum) (f : List ℕ) (i : ℕ) (d : Stratum) → slice_get ds i ≡ Some d → i < length f →
      conditions_in schema (drop i ds) (drop i f) ≡ key_conditions schema d.slot (predicate_at d.predicates (slice_index f i)) ++ conditions_in schema (drop (i + 1) ds) (drop (i + 1) f)
  conditions-step ds f i d at within = let next : i + 1 ≡ suc i = omega arith in rw next (conditions-next ds f i d at within)

  no-conditions : (ds : List Stratum) → conditions_in schema ds [] ≡ []
  no-conditions [] = refl
  no-conditions (d ∷ ds) = refl

  pub conditions-end : (ds : List Stratum) (f : List ℕ) (i : ℕ) → length f ≤ i → conditions_in schema (drop i ds) (drop i f) ≡ []
  conditions-end ds f i past = ap (conditions_in schema (drop i ds)) (drop_all i f past) ∙ no-conditions (drop i ds)

pub block-append : (ms : Members) (cs more : List Condition) → fold with_condition ms (cs ++ more) ≡ fold with_condition (fold with_condition ms cs) more
block-append ms [] more = refl
block-append ms (c ∷ cs) more = block-append (with_condition ms c) cs more
