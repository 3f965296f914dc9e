-- What a file stands for, by what a read of its bytes says.
use Rattle.std.proofs.Common.{◌≡◌, List, [], ℕ, None, Err, refl, ap, sym, ◌∙◌}
use Rattle.std.specs.Str.{chars}
use Rattle.policy_json.specs.declared.fault.PolicyFault.{PolicyFault}
use Rattle.policy_json.specs.declared.fault.PolicyCode.TheVariants.{P1NotJson}
use Rattle.policy_json.specs.Checks.{fault_at, PolicyAnswer}
use Rattle.json_shapes.specs.Json.{json_of}
use Rattle.policy_json.specs.Sets.{IsSetOf, not_json, file_location, set_read}
use Rattle.json_shapes.specs.declared.read_error.ReadError.TheVariants.{Refused, NoMemory}
use Rattle.json_shapes.specs.Checks.{IsRefusal}

not_json_at : fault_at file_location P1NotJson [] ≡ not_json
unfolding chars
not_json_at = refl

-- a file without a reading is refused
pub refused_file : (bytes : List ℕ) (e : PolicyAnswer) → json_of bytes ≡ None → IsRefusal (fault_at file_location P1NotJson []) e → IsSetOf bytes (Err e)
refused_file bytes (Refused fault) none is = ap set_read none ∙ ap (λ (f : PolicyFault). Err f) (sym (is ∙ not_json_at))
refused_file bytes NoMemory none is = tt
