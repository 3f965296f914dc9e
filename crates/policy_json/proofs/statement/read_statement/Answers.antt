use Rattle.std.proofs.Common.{refl, codes, Bool, List, ◌++◌, Option, ◌≡◌, ◌∙◌}
use Rattle.serde_json.specs.Data.{Data}
use Rattle.serde_json.specs.View.{view}
use Rattle.wildcard_lang.specs.declared.piece.Piece.{Piece}
use Rattle.policy_model.specs.declared.matcher.Matcher.{Matcher}
use Rattle.policy_model.specs.declared.operator.Condition.{Condition}
use Rattle.policy_model.specs.declared.principal.Entry.{Entry}
use Rattle.policy_model.specs.declared.set.Statement.{Statement}
use Rattle.policy_json.specs.declared.location.Location.{Location}
use Rattle.policy_json.specs.Checks.{PolicyCheck}
use Rattle.serde_json.specs.Find.{get}
use Rattle.policy_json.specs.Conditions.{condition_checks}
use Rattle.policy_json.specs.Statements.{action_checks, effect_checks, form_checks, resource_checks, statement_checks, statement_of, who_checks}
use Rattle.json_shapes.proofs.Laws.{first_fault-rest, refused, refused_last, passed_two, passed_three, passed_four, passed_five}
use Rattle.policy_json.proofs.statement.read_statement.Goals as goal

-- a statement of these parts
abbrev statement_with : Bool → Option (Matcher Entry) → Matcher (List Piece) → Option (Matcher (List Piece)) → List Condition → Statement
statement_with allow principal action resource conditions = record { allow = allow; principal = principal; action = action; resource = resource; conditions = conditions }

stands_for : (a b : Bool) (p q : Option (Matcher Entry)) (x y : Matcher (List Piece)) (r s : Option (Matcher (List Piece))) (cs ds : List Condition) → a ≡ b → p ≡ q → x ≡ y → r ≡ s → cs ≡ ds →
    statement_with a p x r cs ≡ statement_with b q y s ds
stands_for a b p q x y r s cs ds e f g h k = cc

-- what is left behind each part
abbrev behind_action : Location → Bool → Data → List PolicyCheck
behind_action location escapes d = resource_checks location escapes d ++ condition_checks location escapes (get (codes "Condition") d)

abbrev behind_who : Location → Bool → Data → List PolicyCheck
behind_who location escapes d = action_checks location d ++ behind_action location escapes d

abbrev behind_effect : Location → Bool → Data → List PolicyCheck
behind_effect location escapes d = who_checks location d ++ behind_who location escapes d

abbrev behind_form : Location → Bool → Data → List PolicyCheck
behind_form location escapes d = effect_checks location d ++ behind_effect location escapes d

pub returns-in_err-check_form-clause-read : goal.returns-in_err-check_form-clause-read
returns-in_err-check_form-clause-read c =
    let d = view c.args.statement.now in
    let p = c.args.location in
    let all = statement_checks p c.args.in_set c.args.escapes d in
    refused all (form_checks p c.args.in_set d) (behind_form p c.args.escapes d) (statement_of c.args.escapes d) _ _ refl c.in_err-check_form.ensures c.from_residual.ensures.1

pub returns-in_err-allow-clause-read : goal.returns-in_err-allow-clause-read
returns-in_err-allow-clause-read c =
    let d = view c.args.statement.now in
    let p = c.args.location in
    let all = statement_checks p c.args.in_set c.args.escapes d in
    let form = form_checks p c.args.in_set d in
    refused all (effect_checks p d) (behind_effect p c.args.escapes d) (statement_of c.args.escapes d) _ _ (first_fault-rest form (behind_form p c.args.escapes d) c.in_ok-check_form.ensures.0) c.in_err-allow.ensures c.from_residual-in_err-allow.ensures.1

pub returns-in_err-principal-clause-read : goal.returns-in_err-principal-clause-read
returns-in_err-principal-clause-read c =
    let d = view c.args.statement.now in
    let p = c.args.location in
    let all = statement_checks p c.args.in_set c.args.escapes d in
    let form = form_checks p c.args.in_set d in
    let same = passed_two form (effect_checks p d) (behind_effect p c.args.escapes d) c.in_ok-check_form.ensures.0 c.in_ok-allow.ensures.0 in
    refused all (who_checks p d) (behind_who p c.args.escapes d) (statement_of c.args.escapes d) _ _ same c.in_err-principal.ensures.read c.from_residual-in_err-principal.ensures.1

pub returns-in_err-action-clause-read : goal.returns-in_err-action-clause-read
returns-in_err-action-clause-read c =
    let d = view c.args.statement.now in
    let p = c.args.location in
    let all = statement_checks p c.args.in_set c.args.escapes d in
    let form = form_checks p c.args.in_set d in
    let same = passed_three form (effect_checks p d) (who_checks p d) (behind_who p c.args.escapes d) c.in_ok-check_form.ensures.0 c.in_ok-allow.ensures.0 c.in_ok-principal.ensures.read.0 in
    refused all (action_checks p d) (behind_action p c.args.escapes d) (statement_of c.args.escapes d) _ _ same c.in_err-action.ensures c.from_residual-in_err-action.ensures.1

pub returns-in_err-resource-clause-read : goal.returns-in_err-resource-clause-read
returns-in_err-resource-clause-read c =
    let d = view c.args.statement.now in
    let p = c.args.location in
    let all = statement_checks p c.args.in_set c.args.escapes d in
    let form = form_checks p c.args.in_set d in
    let same = passed_four form (effect_checks p d) (who_checks p d) (action_checks p d) (behind_action p c.args.escapes d) c.in_ok-check_form.ensures.0 c.in_ok-allow.ensures.0 c.in_ok-principal.ensures.read.0 c.in_ok-action.ensures.0 in
    refused all (resource_checks p c.args.escapes d) (condition_checks p c.args.escapes (get (codes "Condition") d)) (statement_of c.args.escapes d) _ _ same c.in_err-resource.ensures c.from_residual-in_err-resource.ensures.1

pub returns-in_err-conditions-clause-read : goal.returns-in_err-conditions-clause-read
returns-in_err-conditions-clause-read c =
    let d = view c.args.statement.now in
    let p = c.args.location in
    let all = statement_checks p c.args.in_set c.args.escapes d in
    let form = form_checks p c.args.in_set d in
    let same = passed_five form (effect_checks p d) (who_checks p d) (action_checks p d) (resource_checks p c.args.escapes d) (condition_checks p c.args.escapes (get (codes "Condition") d)) c.in_ok-check_form.ensures.0 c.in_ok-allow.ensures.0 c.in_ok-principal.ensures.read.0 c.in_ok-action.ensures.0 c.in_ok-resource.ensures.0 in
    refused_last all (condition_checks p c.args.escapes (get (codes "Condition") d)) (statement_of c.args.escapes d) _ _ same c.in_err-conditions.ensures.read c.from_residual-in_err-conditions.ensures.1

pub returns-clause-read : goal.returns-clause-read
returns-clause-read c =
    let d = view c.args.statement.now in
    let p = c.args.location in
    let all = statement_checks p c.args.in_set c.args.escapes d in
    let form = form_checks p c.args.in_set d in
    let same = passed_five form (effect_checks p d) (who_checks p d) (action_checks p d) (resource_checks p c.args.escapes d) (condition_checks p c.args.escapes (get (codes "Condition") d)) c.in_ok-check_form.ensures.0 c.in_ok-allow.ensures.0 c.in_ok-principal.ensures.read.0 c.in_ok-action.ensures.0 c.in_ok-resource.ensures.0 in (
      same ∙ c.in_ok-conditions.ensures.read.0,
      stands_for _ _ _ _ _ _ _ _ _ _ c.in_ok-allow.ensures.1 c.in_ok-principal.ensures.read.1 c.in_ok-action.ensures.1 c.in_ok-resource.ensures.1 c.in_ok-conditions.ensures.read.1,
    )
