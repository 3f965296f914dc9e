-- A schema file as a whole: its version is known under another name.
use Rattle.std.proofs.Common.{◌≡◌, ℕ, [], Bool, None, ap, ◌∙◌, subst}
use Rattle.std.specs.Prelude.{if◌then◌else◌}
use Rattle.serde_json.specs.Data.{Data}
use Rattle.text_table.specs.Table.{Entries}
use Rattle.json_shapes.specs.Checks.{first_fault}
use Rattle.policy_model.specs.declared.schema.KeyRule.{KeyRule}
use Rattle.policy_model.specs.declared.schema.Schema.{Schema}
use Rattle.policy_model.specs.declared.schema.Shapes.{Shapes}
use Rattle.request_schema.specs.BuiltIn.{built_in_rules, with_rules}
use Rattle.request_schema.specs.SchemaFiles.{keys_in, schema_of}
use Rattle.request_schema.specs.SchemaHeads.{is_second}
use Rattle.request_schema.specs.SchemaRules.{keys_checks, rules_of}
use Rattle.request_schema.specs.SchemaWords.{shapes_in}
use Rattle.request_schema.specs.SchemaChecks.{SchemaAnswer}
use Rattle.json_shapes.proofs.Laws.{Refuses}

refuse : (b c : Bool) (d : Data) (e : SchemaAnswer) → b ≡ c → Refuses (keys_checks b [] (keys_in d)) e → Refuses (keys_checks c [] (keys_in d)) e
refuse b c d e same is = subst (λ (x : Bool). Refuses (keys_checks x [] (keys_in d)) e) same is

pub keys-refuse : (second : Bool) (d : Data) (e : SchemaAnswer) → second ≡ is_second d → Refuses (keys_checks second [] (keys_in d)) e → Refuses (keys_checks (is_second d) [] (keys_in d)) e
keys-refuse second d e same is = refuse second (is_second d) d e same is

pub keys-pass : (second : Bool) (d : Data) → second ≡ is_second d → first_fault (keys_checks second [] (keys_in d)) ≡ None → first_fault (keys_checks (is_second d) [] (keys_in d)) ≡ None
keys-pass second d same is = subst (λ (x : Bool). first_fault (keys_checks x [] (keys_in d)) ≡ None) same is

pub whole-schema : (second : Bool) (d : Data) (version : ℕ) (keys : Entries KeyRule) (shapes : Shapes) → second ≡ is_second d → version ≡ (if second then 2 else 1) → keys ≡ with_rules built_in_rules (rules_of (keys_in d)) → shapes ≡ shapes_in d →
    record { version = version; keys = keys; shapes = shapes } ≡ schema_of d
unfolding schema_of
whole-schema second d version keys shapes same version_is keys_is shapes_is =
    let number : version ≡ (if is_second d then 2 else 1) = version_is ∙ ap (λ (b : Bool). if b then 2 else 1) same in
    let make = λ (v : ℕ) (k : Entries KeyRule) (s : Shapes). let made : Schema = record { version = v; keys = k; shapes = s } in made in
    ap (λ (v : ℕ). make v keys shapes) number ∙ ap (λ (k : Entries KeyRule). make (if is_second d then 2 else 1) k shapes) keys_is ∙ ap (λ (s : Shapes). make (if is_second d then 2 else 1) (with_rules built_in_rules (rules_of (keys_in d))) s) shapes_is
