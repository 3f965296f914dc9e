-- Elements of a statement that have a Not element, such as Action and NotAction.
use Rattle.std.specs.Prelude.{◌≡◌, ℕ, List, [], ◌∷◌, ◌&&◌, not, Option, Some, None, MatchBool}
use Rattle.serde_json.specs.Data.{Data}
use Rattle.serde_json.specs.Find.{get}
use Rattle.serde_json.specs.View.{view}
use Rattle.policy_json.specs.declared.element.Element.{Element}
use Rattle.policy_json.specs.declared.fault.PolicyCode.TheVariants.{P6BothElements}
use Rattle.policy_json.specs.declared.location.Location.{Location}
use Rattle.policy_json.specs.Checks.{PolicyCheck, check}
use Rattle.json_shapes.specs.Json.{has_name}

-- an element and its Not element don't stand together
abbrev pub both_checks : Location → List ℕ → List ℕ → Data → List PolicyCheck
both_checks location name not_name d = check location (not (has_name name d && has_name not_name d)) P6BothElements name ∷ []

-- the object has no element of the first name, and one of the second name
pub record HasNotElement (first second : List ℕ) (d : Data) (name : List ℕ) (value : Data) : Type 0 where
  pub absent : get first d ≡ None
  pub is : get second d ≡ Some value
  pub name_is : name ≡ second

-- the object has the element of the first name
pub record HasElement (first : List ℕ) (d : Data) (name : List ℕ) (value : Data) : Type 0 where
  pub is : get first d ≡ Some value
  pub name_is : name ≡ first

-- the object has neither of the two elements, or else this is the first of them that it has, and with `not` the second
abbrev pub IsElementOf : List ℕ → List ℕ → Data → Option Element → Type 0
IsElementOf first second d None = (get first d ≡ None) × (get second d ≡ None)
IsElementOf first second d (Some e) =
    MatchBool e.not (HasNotElement first second d e.name.now (view e.value.now))
    (HasElement first d e.name.now (view e.value.now))
