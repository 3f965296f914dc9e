use Rattle.std.proofs.Common.{◌≡◌, List, ℕ, Bool, None, is_some, ap, sym, subst, refl, ◌∙◌}
use Rattle.serde_json.specs.View.{view}
use Rattle.text_table.specs.Table.{item_at, with_item}
use Rattle.wildcard_lang.specs.Text.{folded_text}
use Rattle.json_shapes.specs.Checks.{first_fault}
use Rattle.policy_model.specs.declared.schema.KeyRule.{KeyRule}
use Rattle.policy_model.specs.Soundness.{RuleIsSound}
use Rattle.request_schema.specs.BuiltIn.{folded_name}
use Rattle.request_schema.specs.SchemaRules.{is_noted, rule_checks}
use Rattle.request_schema.proofs.Keys.{FileKey, Seen, some-copied}
use Rattle.json_shapes.proofs.Laws.{refused_last}
use Rattle.request_schema.proofs.file.add_rule.Goals as goal

pub returns-in_err-rule-clause-read : goal.returns-in_err-rule-clause-read
returns-in_err-rule-clause-read c =
    let key : FileKey = (c.args.name.now, view c.args.rule.now) in
    let seen : Seen = c.args.seen.now in
    let named : c.in_ok-key.key ≡ folded_name key.0 = c.in_ok-key.ensures.value ∙ ap folded_text c.in_ok-of.ensures in
    let known : c.is_some-twice.result ≡ is_noted seen key.0 =
    c.is_some-twice.ensures ∙ some-copied c.get.result (item_at c.in_ok-key.key seen) c.get.ensures ∙ ap (λ (k : List ℕ). is_some (item_at k seen)) named in
    refused_last (rule_checks c.args.second (is_noted seen key.0) key) (rule_checks c.args.second c.is_some-twice.result key) tt _ _
    (ap (λ (b : Bool). first_fault (rule_checks c.args.second b key)) (sym known)) c.in_err-rule.ensures.read c.from_residual-in_err-rule.ensures.1

pub returns-clause-read : goal.returns-clause-read
returns-clause-read c =
    let key : FileKey = (c.args.name.now, view c.args.rule.now) in
    let seen : Seen = c.args.seen.now in
    let named : c.in_ok-key.key ≡ folded_name key.0 = c.in_ok-key.ensures.value ∙ ap folded_text c.in_ok-of.ensures in
    let known : c.is_some-twice.result ≡ is_noted seen key.0 =
    c.is_some-twice.ensures ∙ some-copied c.get.result (item_at c.in_ok-key.key seen) c.get.ensures ∙ ap (λ (k : List ℕ). is_some (item_at k seen)) named in
    (subst (λ (b : Bool). first_fault (rule_checks c.args.second b key) ≡ None) known c.in_ok-rule.ensures.read.0, refl)

pub returns-clause-noted : goal.returns-clause-noted
returns-clause-noted c =
    let named : c.in_ok-key.key ≡ folded_name c.args.name.now = c.in_ok-key.ensures.value ∙ ap folded_text c.in_ok-of.ensures in
    c.in_ok-insert.ensures.ok ∙ ap (λ (k : List ℕ). with_item c.args.seen.now k tt) (c.in_ok-copy.ensures ∙ named)

pub returns-clause-added : goal.returns-clause-added
returns-clause-added c =
    let named : c.in_ok-key.key ≡ folded_name c.args.name.now = c.in_ok-key.ensures.value ∙ ap folded_text c.in_ok-of.ensures in
    c.in_ok-insert-2.ensures.ok ∙ ap (λ (k : List ℕ). with_item c.args.rules.now k c.in_ok-rule.rule) named
    ∙ ap (λ (r : KeyRule). with_item c.args.rules.now (folded_name c.args.name.now) r) c.in_ok-rule.ensures.read.1

pub returns-clause-sound : goal.returns-clause-sound
returns-clause-sound c = subst RuleIsSound c.in_ok-rule.ensures.read.1 c.in_ok-rule.ensures.sound
