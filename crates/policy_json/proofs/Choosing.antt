-- The checks of an element and of its Not element, where at most one of them is there.
use Rattle.std.proofs.Common.{◌≡◌, ℕ, List, [], ◌∷◌, ◌++◌, Bool, true, false, not, ◌&&◌, Option, Some, None, is_some, MatchBool, append-nil, ap, ◌∙◌, sym}
use Rattle.serde_json.specs.Data.{Data}
use Rattle.serde_json.specs.Find.{get}
use Rattle.policy_json.specs.declared.fault.PolicyCode.TheVariants.{P6BothElements}
use Rattle.policy_json.specs.declared.location.Location.{Location}
use Rattle.json_shapes.specs.Checks.{first_fault}
use Rattle.policy_json.specs.Checks.{PolicyCheck, check}
use Rattle.policy_json.specs.Elements.{HasElement, HasNotElement}

-- the value under the name is that of the first element, or, negated, that of the second
abbrev Found : Bool → List ℕ → List ℕ → Option Data → Option Data → List ℕ → Data → Type 0
Found negated first second a b name value = MatchBool negated ((a ≡ None) × (b ≡ Some value) × (name ≡ second)) ((a ≡ Some value) × (name ≡ first))

found : (negated : Bool) (first second : List ℕ) (d : Data) (name : List ℕ) (value : Data) → MatchBool negated (HasNotElement first second d name value) (HasElement first d name value) → Found negated first second (get first d) (get second d) name value
found true first second d name value h = (h.absent, h.is, h.name_is)
found false first second d name value h = (h.is, h.name_is)

-- the checks of the two elements
abbrev checks_of_both : (List ℕ → Option Data → List PolicyCheck) → Location → List ℕ → List ℕ → Option Data → Option Data → List PolicyCheck
checks_of_both checks location first second a b = check location (not (is_some a && is_some b)) P6BothElements first ∷ (checks first a ++ checks second b)

of_one : (checks : List ℕ → Option Data → List PolicyCheck) → ((name : List ℕ) → checks name None ≡ []) → (location : Location) (negated : Bool) (first second : List ℕ) (a b : Option Data) (name : List ℕ) (value : Data) →
    first_fault (check location (not (is_some a && is_some b)) P6BothElements first ∷ []) ≡ None → Found negated first second a b name value → first_fault (checks_of_both checks location first second a b) ≡ first_fault (checks name (Some value))
of_one checks empty location negated first second (Some x) (Some y) name value single h = cc
of_one checks empty location true first second (Some x) None name value single h = let no = h.0 in cc
of_one checks empty location false first second (Some x) None name value single h =
    let same : x ≡ value = let is = h.0 in cc in
    ap (λ (r : List PolicyCheck). first_fault (checks first (Some x) ++ r)) (empty second) ∙ ap first_fault (append-nil (checks first (Some x))) ∙ ap (λ (n : List ℕ). first_fault (checks n (Some x))) (sym h.1) ∙ ap (λ (v : Data). first_fault (checks name (Some v))) same
of_one checks empty location true first second None (Some y) name value single h =
    let same : y ≡ value = let is = h.1 in cc in
    ap (λ (r : List PolicyCheck). first_fault (r ++ checks second (Some y))) (empty first) ∙ ap (λ (n : List ℕ). first_fault (checks n (Some y))) (sym h.2) ∙ ap (λ (v : Data). first_fault (checks name (Some v))) same
of_one checks empty location false first second None b name value single h = let no = h.0 in cc
of_one checks empty location true first second None None name value single h = let no = h.1 in cc

-- where not both are there, the first fault of their checks is that of the one that is
pub faults_of_one : (checks : List ℕ → Option Data → List PolicyCheck) → ((name : List ℕ) → checks name None ≡ []) → (location : Location) (negated : Bool) (first second : List ℕ) (d : Data) (name : List ℕ) (value : Data) →
    first_fault (check location (not (is_some (get first d) && is_some (get second d))) P6BothElements first ∷ []) ≡ None → MatchBool negated (HasNotElement first second d name value) (HasElement first d name value) →
    first_fault (check location (not (is_some (get first d) && is_some (get second d))) P6BothElements first ∷ (checks first (get first d) ++ checks second (get second d))) ≡ first_fault (checks name (Some value))
faults_of_one checks empty location negated first second d name value single h = of_one checks empty location negated first second (get first d) (get second d) name value single (found negated first second d name value h)
