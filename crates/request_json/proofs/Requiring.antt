-- The keys that a schema requires: the first that is missing is asked of them alone.
use Rattle.std.proofs.Common.{◌≡◌, ℕ, List, [], ◌∷◌, Bool, true, false, ◌||◌, not, is_some, Option, Some, Err, refl, ap, sym, ◌∙◌}
use Rattle.std.specs.Prelude.{if◌then◌else◌}
use Rattle.text_table.specs.Table.{Entries, item_at}
use Rattle.json_shapes.specs.Checks.{first_fault, IsReadOf}
use Rattle.json_shapes.specs.declared.read_error.ReadError.TheVariants.{Refused, NoMemory}
use Rattle.policy_model.specs.declared.schema.KeyRule.{KeyRule}
use Rattle.policy_model.specs.RequiredKeys.{required_keys}
use Rattle.policy_model.proofs.Laws.{required_keys-of}
use Rattle.request_json.specs.declared.fault.RequestFault.{RequestFault}
use Rattle.request_json.specs.RequestChecks.{RequestAnswer}
use Rattle.request_json.specs.RequestKeys.{presence_check, presence_checks, required_checks}
use Rattle.request_json.proofs.KeysRead.{Keys}

-- the names of an entry that is required and of those behind it, or of these alone
abbrev names : Bool → List ℕ → List (List ℕ) → List (List ℕ)
names required own rest = (if required then own ∷ rest else rest)

front : (required there : Bool) (own : List ℕ) (names_ : List (List ℕ)) (context : Keys) (fault : RequestFault) (others : Option RequestFault) → fault ≡ (presence_check context own).fault → there ≡ (presence_check context own).passes → others ≡ first_fault (presence_checks context names_) →
    (if not required || there then others else Some fault) ≡ first_fault (presence_checks context (names required own names_))
front true there own names_ context fault others told same rest = rw (told, same, rest) refl
front false there own names_ context fault others told same rest = rest

-- the first required key without a value is the same among all keys and among those that are required
pub required-faults : (keys : Entries KeyRule) (context : Keys) → first_fault (required_checks keys context) ≡ first_fault (presence_checks context (required_keys keys))
required-faults [] context = refl
required-faults (e ∷ es) context =
    front e.1.required (is_some (item_at e.0 context)) e.0 (required_keys es) context _ (first_fault (required_checks es context)) refl refl (required-faults es context)
    ∙ ap (λ (ns : List (List ℕ)). first_fault (presence_checks context ns)) (sym (required_keys-of e es))

-- ---- of a list that is theirs

-- the checks of the listed keys are those of all
pub faults-of : (keys : Entries KeyRule) (listed_ : List (List ℕ)) (context : Keys) → listed_ ≡ required_keys keys → first_fault (required_checks keys context) ≡ first_fault (presence_checks context listed_)
faults-of keys listed_ context are = required-faults keys context ∙ ap (λ (ns : List (List ℕ)). first_fault (presence_checks context ns)) (sym are)

-- so a reader that refuses by the checks of the listed keys refuses by those of all
pub refuses-of : (keys : Entries KeyRule) (listed_ : List (List ℕ)) (context : Keys) (e : RequestAnswer) → listed_ ≡ required_keys keys → IsReadOf (presence_checks context listed_) (tt {0}) (Err e) → IsReadOf (required_checks keys context) (tt {0}) (Err e)
refuses-of keys listed_ context (Refused fault) are is = faults-of keys listed_ context are ∙ is
refuses-of keys listed_ context NoMemory are is = is
