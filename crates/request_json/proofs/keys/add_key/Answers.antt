use Rattle.std.proofs.Common.{◌≡◌, List, ℕ, Option, Some, ap, sym, ◌∙◌}
use Rattle.wildcard_lang.specs.Text.{folded_text}
use Rattle.serde_json.specs.Data.{Data}
use Rattle.serde_json.specs.View.{view}
use Rattle.json_shapes.specs.Checks.{first_fault}
use Rattle.policy_model.specs.declared.schema.KeyRule.{KeyRule}
use Rattle.request_schema.specs.BuiltIn.{folded_name}
use Rattle.request_json.specs.RequestKeys.{checks_by_rule, request_key_checks, rule_at, with_key}
use Rattle.request_json.proofs.KeysRead.{has-rule, valid-with}
use Rattle.json_shapes.proofs.Laws.{refused_last}
use Rattle.request_json.proofs.keys.add_key.Goals as goal

pub returns-in_err-values-clause-read : goal.returns-in_err-values-clause-read
returns-in_err-values-clause-read c =
    let key : List ℕ × Data = (c.args.name.now, view c.args.values.now) in
    let found = rule_at c.args.keys.now key.0 in
    let named : c.in_ok-key.key ≡ folded_name key.0 = c.in_ok-key.ensures.value ∙ ap folded_text c.in_ok-of.ensures in
    let has : found ≡ Some c.in-Some.rule.now = has-rule c.args.keys.now c.in_ok-key.key key.0 c.in-Some.rule.now named (sym c.in-Some.ensures) in
    refused_last (checks_by_rule found key) (request_key_checks c.in-Some.rule.now key) (with_key found c.args.context key) _ _ (ap (λ (r : Option KeyRule). first_fault (checks_by_rule r key)) has) c.in_err-values.ensures.read c.from_residual-in_err-values.ensures.1

pub returns-clause-valid : goal.returns-clause-valid
returns-clause-valid c =
    valid-with c.args.keys.now c.args.context c.insert.new.self c.in_ok-key.key c.in_ok-values.values c.in-Some.rule.now (sym c.in-Some.ensures) c.in_ok-values.ensures.permitted c.in_ok-insert.ensures.ok
