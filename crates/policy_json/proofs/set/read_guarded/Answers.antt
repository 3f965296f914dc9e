use Rattle.std.proofs.Common.{◌≡◌, List, [], ◌∷◌, ◌++◌, Bool, true, map, refl, ap, sym, subst, ◌∙◌, if◌then◌else◌}
use Rattle.std.specs.List.{flat_map}
use Rattle.serde_json.specs.Data.{Data}
use Rattle.serde_json.specs.View.{view}
use Rattle.policy_model.specs.declared.set.PolicySet.{PolicySet}
use Rattle.json_shapes.specs.Checks.{first_fault, IsReadOf}
use Rattle.json_shapes.specs.Json.{values_in}
use Rattle.json_shapes.specs.Shapes.{is_object}
use Rattle.policy_json.specs.Sets.{documents_checks, documents_in, grant_documents, guarded_checks, guards_in, is_guarded, plain_checks, set_checks, set_of, set_with}
use Rattle.json_shapes.proofs.Laws.{first_fault-rest, continued, refused}
use Rattle.policy_json.proofs.set.read_guarded.Goals as goal

-- the checks of the form, and then those of the grants and of the guards
checks_of : (d : Data) (grants guards : List Data) → is_guarded d ≡ true → grants ≡ grant_documents d → guards ≡ guards_in d → set_checks d ≡ guarded_checks d ++ documents_checks 1 0 (grants ++ flat_map values_in guards)
checks_of d grants guards e is_grants is_guards =
    ap (λ (b : Bool). (if b then guarded_checks d else plain_checks d) ++ documents_checks 1 0 (if b then grant_documents d ++ flat_map values_in (guards_in d) else (if is_object d then d ∷ [] else values_in d))) e
    ∙ ap (λ (some : List Data). guarded_checks d ++ documents_checks 1 0 (some ++ flat_map values_in (guards_in d))) (sym is_grants)
    ∙ ap (λ (some : List Data). guarded_checks d ++ documents_checks 1 0 (grants ++ flat_map values_in some)) (sym is_guards)

stands_for : (d : Data) (grants guards : List Data) → is_guarded d ≡ true → grants ≡ grant_documents d → guards ≡ guards_in d → set_with grants guards ≡ set_of d
stands_for d grants guards e is_grants is_guards =
    ap (λ (some : List Data). set_with some guards) is_grants
    ∙ ap (set_with (grant_documents d)) is_guards
    ∙ ap (λ (b : Bool). (if b then set_with (grant_documents d) (guards_in d) else set_with (documents_in d) [])) (sym e)

pub returns-in_err-check_guarded-clause-read : goal.returns-in_err-check_guarded-clause-read
returns-in_err-check_guarded-clause-read c =
    let d = view c.args.value.now in
    let same = ap first_fault (checks_of d _ _ c.requires refl refl) in
    refused (set_checks d) (guarded_checks d) _ (set_of d) _ _ same c.in_err-check_guarded.ensures.read c.from_residual.ensures.1

pub returns-clause-read : goal.returns-clause-read
returns-clause-read c =
    let d = view c.args.value.now in
    let grants = map view c.list_under-grants.result.now in
    let guards = map view c.list_under-guards.result.now in
    let parts = documents_checks 1 0 (grants ++ flat_map values_in guards) in
    let same = ap first_fault (checks_of d grants guards c.requires c.list_under-grants.ensures c.list_under-guards.ensures) ∙ first_fault-rest (guarded_checks d) parts c.in_ok-check_guarded.ensures.read.0 in
    let meaning = stands_for d grants guards c.requires c.list_under-grants.ensures c.list_under-guards.ensures in
    continued (set_checks d) parts (set_of d) _ same (subst (λ (s : PolicySet). IsReadOf parts s c.read_parts.result) meaning c.read_parts.ensures.read)
