-- Findings are equal where their texts are.
use Rattle.std.proofs.Common.{◌≡◌, ℕ, ◌<◌, List, [], ◌∷◌, length, All as Each, refl, subst}
use Rattle.std.proofs.lemmas.List.Elements.{All-get_or, All-head, All-tail}
use Rattle.policy_model.specs.declared.schema.Schema.{Schema}
use Rattle.policy_model.specs.declared.test.Test.{Test}
use Rattle.strata.specs.declared.predicate.Predicate.{Predicate}
use Rattle.strata.specs.declared.predicate.Predicate.TheVariants.{Every}
use Rattle.strata.specs.declared.stratum.Stratum.{Stratum}
use Rattle.strata.specs.Below.{IsBelow}
use Rattle.strata.specs.Covers.{IsBelowAt, predicate_at}
use Rattle.strata.specs.Strata.{IsStratum}
use Rattle.strata.proofs.Laws.{below-self, stratum-differ}
use Rattle.findings.specs.Findings.{IsFinding}
use Rattle.findings.specs.Texts.{number_text, predicate_texts}
use Rattle.read_predicates.specs.Laws.{FindingsAreWrittenApart, PredicatesAreOfWrittenForms, PredicatesAreWrittenApart}
use Rattle.read_predicates.specs.WrittenForms.{AreOfWrittenForms, IsWrittenForm}
use Rattle.read_predicates.proofs.FindingTexts.{texts-apart}

module _ (apart : PredicatesAreWrittenApart) (schema : Schema) (tests : List Test) where
  -- two numbers of a dimension
  number-apart : (x : Stratum) (n m : ℕ) → IsStratum schema tests x → Each (IsWrittenForm x.slot) x.predicates → n < length x.predicates → m < length x.predicates →
      number_text x n ≡ number_text x m → n ≡ m
  number-apart x n m is written first other e =
      let p = predicate_at x.predicates n in
      let q = predicate_at x.predicates m in
      let one : IsWrittenForm x.slot p = All-get_or (IsWrittenForm x.slot) x.predicates n Every first written in
      let two : IsWrittenForm x.slot q = All-get_or (IsWrittenForm x.slot) x.predicates m Every other written in
      let same : p ≡ q = apart x.slot p q one two e in
      let below : IsBelowAt schema x.slot x.predicates n m = subst (IsBelow schema x.slot p) same (below-self schema x.slot p) in
      let above : IsBelowAt schema x.slot x.predicates m n = subst (λ (t : Predicate). IsBelow schema x.slot t p) same (below-self schema x.slot p) in
      stratum-differ schema tests x n m is first other below above

  numbers-apart : (ds : List Stratum) → Each (IsStratum schema tests) ds → AreOfWrittenForms ds → (f g : List ℕ) → IsFinding ds f → IsFinding ds g → predicate_texts ds f ≡ predicate_texts ds g → f ≡ g
  numbers-apart [] are written [] [] first other e = refl
  numbers-apart [] are written [] (m ∷ g) first other e = absurd other
  numbers-apart [] are written (n ∷ f) g first other e = absurd first
  numbers-apart (d ∷ ds) are written [] g first other e = absurd first
  numbers-apart (d ∷ ds) are written (n ∷ f) [] first other e = absurd other
  numbers-apart (d ∷ ds) are written (n ∷ f) (m ∷ g) first other e =
      let own : number_text d n ≡ number_text d m = cc in
      let rest : predicate_texts ds f ≡ predicate_texts ds g = cc in
      let forms : Stratum → Type 0 = λ (x : Stratum). Each (IsWrittenForm x.slot) x.predicates in
      let here : n ≡ m = number-apart d n m (All-head (IsStratum schema tests) d ds are) (All-head forms d ds written) first.0 other.0 own in
      let later : f ≡ g = numbers-apart ds (All-tail (IsStratum schema tests) d ds are) (All-tail forms d ds written) f g first.1 other.1 rest in
      cc

-- the texts of findings of strata that were made for read sets
pub findings-apart : PredicatesAreOfWrittenForms → PredicatesAreWrittenApart → FindingsAreWrittenApart
findings-apart written apart schema strata is f g first other e =
    let ds = strata.dimensions in
    numbers-apart apart schema is.base.tests ds is.made.are.each (written schema strata is) f g first other (texts-apart (predicate_texts ds f) (predicate_texts ds g) e)
