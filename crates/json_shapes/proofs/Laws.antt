-- What readers that stand above need: the first fault of a list of checks by its parts, loops over the members of a list or of an
-- object, each read by its own checks, and texts that are read again.
-- the first fault of checks by their parts
pub use Rattle.json_shapes.proofs.Faults.{first_fault-front, first_fault-rest, front_passes, front_passes-none}
-- readers one after another
pub use Rattle.json_shapes.proofs.Steps.{passed_two, passed_three, passed_four, passed_five, passes_one, passes_two, passes_four, passes_at, Refuses, refuses_at, refused_last, refused, refused_first, refused_whole, continued}
-- what holds of each member of an object and of one that is put in holds of all
pub use Rattle.json_shapes.proofs.Rising.{each-put}
-- the compact text of a value that is spelled is read as that value, alone and with a line feed behind it
pub use Rattle.json_shapes.proofs.Spelling.{read-again}
-- an object that is spelled is so still where a member that is spelled is put in
pub use Rattle.json_shapes.proofs.Spelling.{spelled-put}
use Rattle.std.proofs.Common.{◌≡◌, ◌≤◌, ◌<◌, ◌+◌, ℕ, List, [], ◌∷◌, ◌++◌, Some, None, map, length, drop, get_or, append-nil, String, Global, string_bytes, ap, sym, ◌∙◌}
use Rattle.std.proofs.lemmas.List.{append_assoc, drop_more, drop_all}
use Rattle.std.specs.List.{flat_map}
use Rattle.serde_json.specs.View.{view, members_view}
use Rattle.serde_json.specs.declared.value.Value.{Value}
use Rattle.json_shapes.specs.Checks.{Check, first_fault}
use Rattle.json_shapes.specs.Json.{pairs_of}

-- ---- loops

-- the checks so far are passed, so that the first fault is that of the rest; and what was got so far is what was there before and
-- what the members so far stand for
pub record IsRead {F A X : Type 0} (checks : A → List (Check F)) (meaning : List A → List X) (before : List X) (all rest : List A) (got : List X) : Type 0 where
  pub faults : first_fault (flat_map checks all) ≡ first_fault (flat_map checks rest)
  pub values : before ++ meaning all ≡ got ++ meaning rest

-- one member more is read
pub one_more : {F A X : Type 0} (checks : A → List (Check F)) (meaning : List A → List X) (before : List X) (all rest next : List A) (a : A) (got more pushed : List X) →
    IsRead checks meaning before all rest got → rest ≡ a ∷ next → first_fault (checks a) ≡ None → meaning (a ∷ next) ≡ more ++ meaning next → pushed ≡ got ++ more → IsRead checks meaning before all next pushed
one_more checks meaning before all rest next a got more pushed so_far is passed stands grown = record {
  faults = so_far.faults ∙ ap (λ r. first_fault (flat_map checks r)) is ∙ first_fault-rest (checks a) (flat_map checks next) passed;
  values = so_far.values ∙ ap (λ r. got ++ meaning r) is ∙ ap (λ r. got ++ r) stands ∙ sym (append_assoc got more (meaning next)) ∙ ap (λ r. r ++ meaning next) (sym grown);
}

-- the first fault of the next member is that of all
pub refused_next : {F A X : Type 0} (checks : A → List (Check F)) (meaning : List A → List X) (before : List X) (all rest next : List A) (a : A) (got : List X) (fault : F) →
    IsRead checks meaning before all rest got → rest ≡ a ∷ next → first_fault (checks a) ≡ Some fault → first_fault (flat_map checks all) ≡ Some fault
refused_next checks meaning before all rest next a got fault so_far is refused = so_far.faults ∙ ap (λ r. first_fault (flat_map checks r)) is ∙ first_fault-front (checks a) (flat_map checks next) fault refused

-- all members are read
pub all_read : {F A X : Type 0} (checks : A → List (Check F)) (meaning : List A → List X) (before : List X) (all rest : List A) (got : List X) →
    IsRead checks meaning before all rest got → rest ≡ [] → meaning [] ≡ [] → (first_fault (flat_map checks all) ≡ None) × (got ≡ before ++ meaning all)
all_read checks meaning before all rest got so_far is empty = (
  so_far.faults ∙ ap (λ r. first_fault (flat_map checks r)) is,
  sym (so_far.values ∙ ap (λ r. got ++ meaning r) is ∙ ap (λ r. got ++ r) empty ∙ append-nil got),
)

-- the members of a slice, from an index on
pub from_here : {A B : Type 0} (f : A → B) (xs : List A) (i : ℕ) (x : A) → i < length xs → x ≡ get_or xs i x → map f (drop i xs) ≡ f x ∷ map f (drop (i + 1) xs)
from_here f xs i x within is = ap (map f) (drop_more xs i x within) ∙ ap (λ v. f v ∷ map f (drop (i + 1) xs)) (sym is)

pub from_end : {A B : Type 0} (f : A → B) (xs : List A) (i : ℕ) → length xs ≤ i → map f (drop i xs) ≡ []
from_end f xs i past = ap (map f) (drop_all i xs past)

-- the next of the members of an object
pub pairs_from : (members rest : List (String Global × Value)) (key : String Global) (value : Value) (name : List ℕ) → members ≡ (key, value) ∷ rest → name ≡ string_bytes key →
    pairs_of (members_view members) ≡ (name, view value) ∷ pairs_of (members_view rest)
pairs_from members rest key value name is named =
    ap (λ (ms : List (String Global × Value)). pairs_of (members_view ms)) is ∙ ap (λ (n : List ℕ). (n, view value) ∷ pairs_of (members_view rest)) (sym named)
