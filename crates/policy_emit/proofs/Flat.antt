-- A policy as JSON has no floating-point number.
use Rattle.std.proofs.Common.{◌≡◌, List, [], ◌∷◌, ℕ, map, fold, false, Option, Some, None, Ordering, Less, Equal, Greater, refl}
use Rattle.std.specs.Ordering.{match_ordering}
use Rattle.std.specs.Str.{encode_utf8_all}
use Rattle.serde_json.specs.Data.{Data, null, boolean, number, string, array, object, Members, no_members, member, put}
use Rattle.serde_json.specs.Find.{get_member}
use Rattle.serde_json.specs.View.{items_of}
use Rattle.serde_json.specs.Written.{has_float, items_have_float, members_have_float}
use Rattle.json_shapes.proofs.WithoutFloats.{first-isn't, neither, put-no_float, second-isn't}
use Rattle.policy_model.specs.declared.operator.Condition.{Condition}
use Rattle.policy_model.specs.declared.operator.Operand.{Operand}
use Rattle.policy_model.specs.declared.principal.Entry.{Entry}
use Rattle.policy_model.specs.declared.principal.Entry.TheVariants.{All, Kind, Account, Exact}
use Rattle.policy_model.specs.declared.schema.Schema.{Schema}
use Rattle.policy_json.specs.OperatorNames.{operator_text}
use Rattle.strata.specs.declared.stratum.Stratum.{Stratum}
use Rattle.policy_emit.specs.Emitted.{action_of_finding, conditions_in, entry_of_finding, policy_data, resource_of_finding, statement_data}
use Rattle.policy_emit.specs.Written.{action_data, allow_data, block_data, block_members, entry_data, keys_under, members_in, operand_data, operands_data, resource_data, with_condition}
use Rattle.policy_emit.proofs.Groups.{cmp}

items-no_float : (os : List Operand) → items_have_float (items_of (map operand_data os)) ≡ false
items-no_float [] = refl
items-no_float (o ∷ os) = items-no_float os

values-no_float : (os : List Operand) → has_float (operands_data os) ≡ false
values-no_float [] = refl
values-no_float (o ∷ []) = refl
values-no_float (o ∷ p ∷ os) = items-no_float (o ∷ p ∷ os)

inner-no_float : (d : Data) → has_float d ≡ false → members_have_float (members_in (Some d)) ≡ false
inner-no_float null none = refl
inner-no_float (boolean b) none = refl
inner-no_float (number n) none = refl
inner-no_float (string s) none = refl
inner-no_float (array ds) none = refl
inner-no_float (object ms) none = none

found-no_float : (o : Ordering) (found : Option Data) (d : Data) → has_float d ≡ false → members_have_float (members_in found) ≡ false → members_have_float (members_in (match_ordering o found (Some d) found)) ≡ false
found-no_float Less found d own later = later
found-no_float Equal found d own later = inner-no_float d own
found-no_float Greater found d own later = later

under-no_float : (name : List ℕ) (ms : Members) → members_have_float ms ≡ false → members_have_float (keys_under name ms) ≡ false
under-no_float name no_members none = refl
under-no_float name (member l d ms) none =
    found-no_float (cmp name l) (get_member name ms) d (first-isn't (has_float d) (members_have_float ms) none) (under-no_float name ms (second-isn't (has_float d) (members_have_float ms) none))

block-no_float : (cs : List Condition) (ms : Members) → members_have_float ms ≡ false → members_have_float (fold with_condition ms cs) ≡ false
block-no_float [] ms none = none
block-no_float (c ∷ cs) ms none =
    let name = operator_text c.operator in
    let keys = put-no_float (encode_utf8_all c.written) (operands_data c.values) (keys_under name ms) (values-no_float c.values) (under-no_float name ms none) in
    block-no_float cs (with_condition ms c) (put-no_float name (object (put (encode_utf8_all c.written) (operands_data c.values) (keys_under name ms))) ms keys none)

-- an element that may be left out has none
abbrev HasNoFloat : Option Data → Type 0
HasNoFloat None = Unit {0}
HasNoFloat (Some d) = has_float d ≡ false

element-no_float : (ms : Members) → members_have_float ms ≡ false → HasNoFloat (block_data ms)
element-no_float no_members none = tt
element-no_float (member name d ms) none = none

entry-no_float : (e : Entry) → HasNoFloat (entry_data e)
entry-no_float All = tt
entry-no_float (Kind k) = refl
entry-no_float (Account a) = refl
entry-no_float (Exact k id) = refl

allow-no_float : (a r : Data) (c p : Option Data) → has_float a ≡ false → has_float r ≡ false → HasNoFloat c → HasNoFloat p → has_float (allow_data a c p r) ≡ false
allow-no_float a r None None x y condition principal = neither (has_float a) _ x (neither (has_float r) false y refl)
allow-no_float a r None (Some p) x y condition principal = neither (has_float a) _ x (neither (has_float p) _ principal (neither (has_float r) false y refl))
allow-no_float a r (Some c) None x y condition principal = neither (has_float a) _ x (neither (has_float c) _ condition (neither (has_float r) false y refl))
allow-no_float a r (Some c) (Some p) x y condition principal = neither (has_float a) _ x (neither (has_float c) _ condition (neither (has_float p) _ principal (neither (has_float r) false y refl)))

statement-no_float : (schema : Schema) (ds : List Stratum) (f : List ℕ) → has_float (statement_data schema ds f) ≡ false
statement-no_float schema ds f =
    allow-no_float (action_data (action_of_finding ds f)) (resource_data (resource_of_finding ds f)) (block_data (block_members (conditions_in schema ds f))) (entry_data (entry_of_finding ds f)) refl refl
    (element-no_float (block_members (conditions_in schema ds f)) (block-no_float (conditions_in schema ds f) no_members refl)) (entry-no_float (entry_of_finding ds f))

statements-no_float : (schema : Schema) (ds : List Stratum) (fs : List (List ℕ)) → items_have_float (items_of (map (statement_data schema ds) fs)) ≡ false
statements-no_float schema ds [] = refl
statements-no_float schema ds (f ∷ fs) = neither (has_float (statement_data schema ds f)) _ (statement-no_float schema ds f) (statements-no_float schema ds fs)

pub policy-no_float : (schema : Schema) (ds : List Stratum) (fs : List (List ℕ)) → has_float (policy_data schema ds fs) ≡ false
policy-no_float schema ds fs = neither (items_have_float (items_of (map (statement_data schema ds) fs))) false (statements-no_float schema ds fs) refl
