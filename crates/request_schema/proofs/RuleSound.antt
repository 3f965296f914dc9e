-- The rule of a key that passes its checks is sound.
use Rattle.std.proofs.Common.{◌≡◌, ℕ, List, Bool, true, false, not, ◌||◌, ◌&&◌, Option, Some, None, IfSome, is_some, All, map, option_map, option_and_then, refl, sym, subst, ◌∙◌, codes}
use Rattle.serde_json.specs.Data.{Data}
use Rattle.serde_json.specs.Find.{as_str, get}
use Rattle.wildcard_lang.specs.declared.piece.Piece.{Piece}
use Rattle.wildcard_lang.specs.Patterns.{IsPattern}
use Rattle.json_shapes.specs.Checks.{first_fault}
use Rattle.json_shapes.specs.Json.{has_name, values_in}
use Rattle.json_shapes.specs.Shapes.{is_string, where_there, is_object_of}
use Rattle.policy_model.specs.declared.value.Kind.{Kind}
use Rattle.policy_model.specs.declared.value.Kind.TheVariants as kind
use Rattle.policy_model.specs.declared.value.Value.{Value}
use Rattle.policy_model.specs.declared.schema.KeyRule.{KeyRule}
use Rattle.policy_model.specs.Requests.{IsOfKind}
use Rattle.policy_model.specs.Soundness.{IsShortValue, ListIsSound, RuleIsSound, ShapeIsSound}
use Rattle.request_schema.specs.declared.schema_fault.SchemaCode.TheVariants.{S2Shape, S3UnknownKind, S4KeyTwice, S7EmptyValues, S9Limit}
use Rattle.request_schema.specs.SchemaRules.{among_of, are_few, rule_form_checks, has_kind, has_limits, is_list_of_strings, is_rule, is_some_list, is_text_kind, kind_in, kind_of_rule, listed_checks, listed_in, rule_names, shape_in, shape_pieces, string_in, values_of_kind}
use Rattle.request_schema.proofs.Listed.{and-both, few-short, some-values}
use Rattle.json_shapes.proofs.Laws.{passes_four, passes_two}
use Rattle.request_schema.specs.SchemaChecks.{schema_check}

listed-sound : (k : Kind) (listed : Option (List (List ℕ))) (among : Option (List Value)) (rule : KeyRule) → where_there is_some_list listed ≡ true → where_there (are_few k) listed ≡ true
    → among ≡ option_map (values_of_kind k) listed → IfSome among (All (IsOfKind k)) → rule.kind ≡ k → ListIsSound among rule
listed-sound k listed None rule some few is all same = tt
listed-sound k None (Some vs) rule some few is all same = absurd (cc)
listed-sound k (Some texts) (Some vs) rule some few is all same =
    let equal : vs ≡ values_of_kind k texts = cc in
    let short = few-short k texts few (subst (All (IsOfKind k)) equal all) in
    (λ none. some-values k texts some (sym equal ∙ none), subst (λ (l : Kind). All (IsOfKind l) vs) (sym same) all, subst (All IsShortValue) (sym equal) short)

-- a shape stands at a key of texts
text-kind : (k : Kind) → is_text_kind k ≡ true → k ≡ kind.Text
text-kind kind.Text e = refl
text-kind kind.Truth e = absurd (cc)
text-kind kind.Number e = absurd (cc)
text-kind kind.Address e = absurd (cc)
text-kind kind.Bytes e = absurd (cc)

-- and beside no listed values
shape-sound : (k : Kind) (values shape : Option Data) (among : Option (List Value)) (pieces : Option (List Piece)) (rule : KeyRule) → not (is_some values && is_some shape) ≡ true → (not (is_some shape) || is_text_kind k) ≡ true
    → pieces ≡ option_map (shape_pieces false) (option_and_then as_str shape) → IfSome pieces IsPattern → among ≡ option_map (values_of_kind k) (option_map (λ ds. map string_in (values_in ds)) values) → rule.kind ≡ k → rule.among ≡ among → ShapeIsSound pieces rule
shape-sound k values shape among None rule apart text is pattern listed same_kind same_among = tt
shape-sound k values None among (Some ps) rule apart text is pattern listed same_kind same_among = absurd (cc)
shape-sound k (Some v) (Some s) among (Some ps) rule apart text is pattern listed same_kind same_among = absurd (cc)
shape-sound k None (Some s) among (Some ps) rule apart text is pattern listed same_kind same_among = (pattern, same_kind ∙ text-kind k text, same_among ∙ listed)

pub rule-sound : (second twice many required : Bool) (key : List ℕ × Data) (k : Kind) (among : Option (List Value)) (shape : Option (List Piece)) → first_fault (rule_form_checks second twice key) ≡ None → k ≡ kind_of_rule key.1 → first_fault (listed_checks k key) ≡ None
    → shape ≡ shape_in key.1 → IfSome shape IsPattern → among ≡ among_of k key.1 → IfSome among (All (IsOfKind k)) → RuleIsSound (record { kind = k; many = many; required = required; among = among; shape = shape })
rule-sound second twice many required key k among shape form same listed shape_is pattern among_is of_kind =
    let d = key.1 in
    let rule : KeyRule = record { kind = k; many = many; required = required; among = among; shape = shape } in
    let checks = passes_four (schema_check (is_rule second d) S2Shape key.0) (schema_check (is_some (kind_in d)) S3UnknownKind key.0) (schema_check (not (has_name (codes "Shape") d) || is_text_kind (kind_of_rule d)) S2Shape key.0) (schema_check (not twice) S4KeyTwice key.0) form in
    let limits = and-both (has_kind d) (has_limits d) (and-both (is_object_of (rule_names second) d) (has_kind d && has_limits d) checks.0).1 in
    let apart = and-both (where_there is_string (get (codes "Shape") d)) (not (has_name (codes "Values") d && has_name (codes "Shape") d)) (and-both (where_there is_list_of_strings (get (codes "Values") d)) (where_there is_string (get (codes "Shape") d) && not (has_name (codes "Values") d && has_name (codes "Shape") d)) limits.1).1 in
    let text = subst (λ (l : Kind). (not (has_name (codes "Shape") d) || is_text_kind l) ≡ true) (sym same) checks.2 in
    let some = passes_two (schema_check (where_there is_some_list (listed_in d)) S7EmptyValues key.0) (schema_check (where_there (are_few k) (listed_in d)) S9Limit key.0) listed in
    record {
      listed = listed-sound k (listed_in d) among rule some.0 some.1 among_is of_kind refl;
      shape = shape-sound k (get (codes "Values") d) (get (codes "Shape") d) among shape rule apart.1 text shape_is pattern among_is refl refl;
    }
