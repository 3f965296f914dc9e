use Rattle.std.proofs.Common.{[], ◌∷◌, codes, refl}
use Rattle.serde_json.specs.View.{view}
use Rattle.policy_json.specs.Checks.{name_checks}
use Rattle.policy_json.specs.Sets.{guarded_checks, list_checks, file_location}
use Rattle.json_shapes.proofs.Laws.{first_fault-rest, continued, refused}
use Rattle.policy_json.proofs.set.check_guarded.Goals as goal

pub returns-in_err-check_names-clause-read : goal.returns-in_err-check_names-clause-read
returns-in_err-check_names-clause-read c =
    let d = view c.args.value.now in
    refused (guarded_checks d) (name_checks file_location (codes "Grants" ∷ codes "Guards" ∷ []) d) (list_checks d) tt _ _ refl c.in_err-check_names.ensures c.from_residual.ensures.1

pub returns-clause-read : goal.returns-clause-read
returns-clause-read c =
    let d = view c.args.value.now in
    let same = first_fault-rest (name_checks file_location (codes "Grants" ∷ codes "Guards" ∷ []) d) (list_checks d) c.in_ok-check_names.ensures.0 in
    continued (guarded_checks d) (list_checks d) tt _ same c.check_lists.ensures.read
