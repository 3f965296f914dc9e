use Rattle.std.proofs.Common.{◌≡◌, ◌∙◌, ap, refl, Bool, List, ◌++◌, ℕ, Option}
use Rattle.json_shapes.proofs.Laws.{first_fault-rest, passed_two, passed_three, passes_at, refused, refused_last, refuses_at}
use Rattle.serde_json.specs.Data.{Data}
use Rattle.serde_json.specs.View.{view}
use Rattle.wildcard_lang.specs.declared.piece.Piece.{Piece}
use Rattle.policy_model.specs.declared.value.Kind.{Kind}
use Rattle.policy_model.specs.declared.value.Value.{Value}
use Rattle.policy_model.specs.declared.schema.KeyRule.{KeyRule}
use Rattle.request_schema.specs.SchemaRules.{among_of, rule_form_checks, kind_of_rule, listed_checks, rule_checks, rule_of, shape_checks, value_kind_checks}
use Rattle.request_schema.proofs.RuleSound.{rule-sound}
use Rattle.request_schema.proofs.rules.read_rule.Goals as goal

-- a rule of these parts
abbrev rule_with : Kind → Bool → Bool → Option (List Value) → Option (List Piece) → KeyRule
rule_with k many required among shape = record { kind = k; many = many; required = required; among = among; shape = shape }

stands_for : (k l : Kind) (a b r q : Bool) (x y : Option (List Value)) (s t : Option (List Piece)) → k ≡ l → a ≡ b → r ≡ q → x ≡ y → s ≡ t → rule_with k a r x s ≡ rule_with l b q y t
stands_for k l a b r q x y s t e f g h i = cc

pub returns-in_err-kind-clause-read : goal.returns-in_err-kind-clause-read
returns-in_err-kind-clause-read c =
    let key : List ℕ × Data = (c.args.name.now, view c.args.rule.now) in
    let k = kind_of_rule key.1 in
    let all = rule_checks c.args.second c.args.twice key in
    refused all (rule_form_checks c.args.second c.args.twice key) (listed_checks k key ++ (shape_checks key ++ value_kind_checks k key)) (rule_of key.1) _ _ refl c.in_err-kind.ensures c.from_residual.ensures.1

pub returns-in_err-check_listed-clause-read : goal.returns-in_err-check_listed-clause-read
returns-in_err-check_listed-clause-read c =
    let key : List ℕ × Data = (c.args.name.now, view c.args.rule.now) in
    let k = kind_of_rule key.1 in
    let all = rule_checks c.args.second c.args.twice key in
    let form = rule_form_checks c.args.second c.args.twice key in
    let same = first_fault-rest form (listed_checks k key ++ (shape_checks key ++ value_kind_checks k key)) c.in_ok-kind.ensures.0 in
    let is = refuses_at (λ (l : Kind). listed_checks l key) c.in_ok-kind.kind k _ c.in_ok-kind.ensures.1 c.in_err-check_listed.ensures in
    refused all (listed_checks k key) (shape_checks key ++ value_kind_checks k key) (rule_of key.1) _ _ same is c.from_residual-in_err-check_listed.ensures.1

pub returns-in_err-shape-clause-read : goal.returns-in_err-shape-clause-read
returns-in_err-shape-clause-read c =
    let key : List ℕ × Data = (c.args.name.now, view c.args.rule.now) in
    let k = kind_of_rule key.1 in
    let all = rule_checks c.args.second c.args.twice key in
    let form = rule_form_checks c.args.second c.args.twice key in
    let listed = passes_at (λ (l : Kind). listed_checks l key) c.in_ok-kind.kind k c.in_ok-kind.ensures.1 c.in_ok-check_listed.ensures.0 in
    let same = passed_two form (listed_checks k key) (shape_checks key ++ value_kind_checks k key) c.in_ok-kind.ensures.0 listed in
    refused all (shape_checks key) (value_kind_checks k key) (rule_of key.1) _ _ same c.in_err-shape.ensures.read c.from_residual-in_err-shape.ensures.1

pub returns-in_err-among-clause-read : goal.returns-in_err-among-clause-read
returns-in_err-among-clause-read c =
    let key : List ℕ × Data = (c.args.name.now, view c.args.rule.now) in
    let k = kind_of_rule key.1 in
    let all = rule_checks c.args.second c.args.twice key in
    let form = rule_form_checks c.args.second c.args.twice key in
    let listed = passes_at (λ (l : Kind). listed_checks l key) c.in_ok-kind.kind k c.in_ok-kind.ensures.1 c.in_ok-check_listed.ensures.0 in
    let same = passed_three form (listed_checks k key) (shape_checks key) (value_kind_checks k key) c.in_ok-kind.ensures.0 listed c.in_ok-shape.ensures.read.0 in
    let is = refuses_at (λ (l : Kind). value_kind_checks l key) c.in_ok-kind.kind k _ c.in_ok-kind.ensures.1 c.in_err-among.ensures.read in
    refused_last all (value_kind_checks k key) (rule_of key.1) _ _ same is c.from_residual-in_err-among.ensures.1

pub returns-clause-read : goal.returns-clause-read
returns-clause-read c =
    let d = view c.args.rule.now in
    let key : List ℕ × Data = (c.args.name.now, d) in
    let k = kind_of_rule d in
    let form = rule_form_checks c.args.second c.args.twice key in
    let is_kind = c.in_ok-kind.ensures.1 in
    let listed = passes_at (λ (l : Kind). listed_checks l key) c.in_ok-kind.kind k is_kind c.in_ok-check_listed.ensures.0 in
    let of_kind = passes_at (λ (l : Kind). value_kind_checks l key) c.in_ok-kind.kind k is_kind c.in_ok-among.ensures.read.0 in
    let same = passed_three form (listed_checks k key) (shape_checks key) (value_kind_checks k key) c.in_ok-kind.ensures.0 listed c.in_ok-shape.ensures.read.0 in
    let among = c.in_ok-among.ensures.read.1 ∙ ap (λ (l : Kind). among_of l d) is_kind in
    (same ∙ of_kind, stands_for _ _ _ _ _ _ _ _ _ _ is_kind c.truth_at.ensures c.truth_at-2.ensures among c.in_ok-shape.ensures.read.1)

pub returns-clause-sound : goal.returns-clause-sound
returns-clause-sound c =
    rule-sound c.args.second c.args.twice _ _ (c.args.name.now, view c.args.rule.now) _ _ _ c.in_ok-kind.ensures.0 c.in_ok-kind.ensures.1 c.in_ok-check_listed.ensures.0 c.in_ok-shape.ensures.read.1 c.in_ok-shape.ensures.pattern c.in_ok-among.ensures.read.1 c.in_ok-among.ensures.kind
