-- The order of each dimension of strata, as it is used of findings.
use Rattle.std.proofs.Common.{◌≡◌, ◌⊎◌, ℕ, suc, ◌<◌, List, [], ◌∷◌, length, inl, inr, sym, ap, subst, arith}
use Rattle.std.specs.Prelude.{All, Contains}
use Rattle.std.proofs.lemmas.Bool.{cases_lt}
use Rattle.std.proofs.lemmas.List.{get_or_past}
use Rattle.std.proofs.lemmas.List.Elements.{All-head, All-tail}
use Rattle.std.proofs.lemmas.Option.{slice_get-get_or}
use Rattle.policy_model.specs.declared.schema.Schema.{Schema}
use Rattle.policy_model.specs.declared.test.Test.{Test}
use Rattle.policy_model.specs.Requests.{HasValidRequest}
use Rattle.strata.specs.declared.predicate.Predicate.{Predicate}
use Rattle.strata.specs.declared.predicate.Predicate.TheVariants.{Every}
use Rattle.strata.specs.declared.stratum.Stratum.{Stratum}
use Rattle.strata.specs.Below.{IsBelow}
use Rattle.strata.specs.Covers.{AreMaximalBelow, IsBelowAt, IsMaximalBelow, IsStrictlyBelow, predicate_at}
use Rattle.strata.specs.Predicates.{MeetsPredicate}
use Rattle.strata.specs.Strata.{IsStratum}
use Rattle.strata.proofs.Laws.{any-first, first-step, last-step, stratum-decided, stratum-differ, stratum-through, strictly-irreflexive}
use Rattle.findings.specs.Queries.{numbers_below}
use Rattle.findings.proofs.Heights.{count, count-fewer, count-within}
use Rattle.findings.proofs.Orders.{AllHaveSteps, HasSteps}

-- nothing is in an empty list
none-among : (xs : List ℕ) (x : ℕ) → xs ≡ [] → ¬ Contains xs x
none-among xs x e h = let none : length xs ≡ 0 = ap length e in omega (arith, h.1, none)

module _ (schema : Schema) (tests : List Test) (d : Stratum) (is : IsStratum schema tests d) where
  -- the list of a number is that of those maximal strictly below it
  list-at : (j : ℕ) → j < length d.below → AreMaximalBelow schema d.slot d.predicates j (numbers_below d j)
  list-at j within = is.order.each j (numbers_below d j) (slice_get-get_or d.below j [] within)

  pub among-below : (i j : ℕ) → IsMaximalBelow schema d.slot d.predicates i j → Contains (numbers_below d j) i
  among-below i j h = let list = list-at j (subst (λ (n : ℕ). j < n) (sym is.order.count) h.strictly.upper) in (list.exact i).1 h

  pub below-among : (i j : ℕ) → Contains (numbers_below d j) i → IsMaximalBelow schema d.slot d.predicates i j
  below-among i j h = elim (cases_lt j (length d.below)) [
    | inl within ↦ (let list = list-at j within in (list.exact i).0 h)
    | inr past ↦ absurd (none-among (numbers_below d j) i (get_or_past d.below j [] past) h)
  ]

  -- it is known of any two numbers whether the one is strictly below the other
  abbrev decided : (i j : ℕ) → IsStrictlyBelow schema d.slot d.predicates i j ⊎ ¬ IsStrictlyBelow schema d.slot d.predicates i j
  decided i j = elim (cases_lt i (length d.predicates)) [
    | inl lower ↦ elim (cases_lt j (length d.predicates)) [
      | inl upper ↦ stratum-decided schema tests d i j is lower upper
      | inr past ↦ inr (λ h. omega (arith, h.upper, past))
    ]
    | inr past ↦ inr (λ h. omega (arith, h.lower, past))
  ]

  -- how many are above
  abbrev height : ℕ → ℕ
  height i = count (length d.predicates) (λ j. IsStrictlyBelow schema d.slot d.predicates i j) (decided i)

  falls : (i j : ℕ) → IsStrictlyBelow schema d.slot d.predicates i j → height j < height i
  falls i j h = count-fewer (length d.predicates) (λ m. IsStrictlyBelow schema d.slot d.predicates j m) (λ m. IsStrictlyBelow schema d.slot d.predicates i m) (decided j) (decided i)
      (λ m more. stratum-through schema tests d i j m is h more) j h.upper h (strictly-irreflexive schema d.slot d.predicates j)

  -- one that is another, or strictly below it, is below it
  at-most : (i j : ℕ) → (i ≡ j) ⊎ IsStrictlyBelow schema d.slot d.predicates i j → IsBelowAt schema d.slot d.predicates i j
  at-most i j (inl same) = subst (λ (n : ℕ). IsBelowAt schema d.slot d.predicates i n) same (λ r valid meets. meets)
  at-most i j (inr h) = h.below

  pub has-steps : HasValidRequest schema → HasSteps schema d
  has-steps request =
      let first = any-first schema tests d request is in
      let every : predicate_at d.predicates 0 ≡ Every = ap (λ (ps : List Predicate). predicate_at ps 0) first.1 in
      record {
        nonempty = (let long : length d.predicates ≡ suc (length first.0) = ap length first.1 in omega (arith, long));
        top = λ i. subst (λ (p : Predicate). IsBelow schema d.slot (predicate_at d.predicates i) p) (sym every) (λ r valid meets. tt);
        equal = λ i j lower upper below above. stratum-differ schema tests d i j is lower upper below above;
        every = λ r. subst (λ (p : Predicate). MeetsPredicate d.slot p r) (sym every) tt;
        rank = height;
        ranked = λ i. count-within (length d.predicates) (λ j. IsStrictlyBelow schema d.slot d.predicates i j) (decided i);
        falls = falls;
        down = λ i j h. (
            let step = last-step schema tests d i j is h in
            record { number = step.0; right = among-below step.0 j step.1; least = at-most i step.0 step.2 });
        up = λ i j h. (
            let step = first-step schema tests d i j is h in
            record { number = step.0; within = step.1.strictly.upper; right = among-below i step.0 step.1; most = at-most step.0 j step.2 });
        strictly = λ i j h. (below-among i j h).strictly;
      }

-- so of all dimensions
pub all-have-steps : (schema : Schema) (tests : List Test) → HasValidRequest schema → (ds : List Stratum) → All (IsStratum schema tests) ds → AllHaveSteps schema ds
all-have-steps schema tests request [] are = tt
all-have-steps schema tests request (d ∷ ds) are = (has-steps schema tests d (All-head (IsStratum schema tests) d ds are) request, all-have-steps schema tests request ds (All-tail (IsStratum schema tests) d ds are))
