-- How the parts of a policy are written (IAM JSON policy reference; RFC 8259), and in which order its conditions are read.
use Rattle.std.specs.Prelude.{ℕ, List, [], ◌∷◌, map, fold, codes, false, Option, Some, None, option_and_then, unwrap_or}
use Rattle.std.specs.Cmp.Lexicographic.{slice_cmp}
use Rattle.std.specs.Ordering.{match_ordering, nat_cmp}
use Rattle.std.specs.Str.{encode_utf8_all}
use Rattle.std.specs.declared.cmp.Ordering.{Ordering}
use Rattle.std.specs.declared.cmp.Ordering.TheVariants.{Less, Greater}
use Rattle.serde_json.specs.Data.{Data, array, object, string, Members, no_members, member, put}
use Rattle.serde_json.specs.Find.{as_object, get_member}
use Rattle.serde_json.specs.View.{items_of}
use Rattle.base64.specs.Engines.{standard}
use Rattle.base64.specs.GeneralPurpose.{encode_of}
use Rattle.cidr_bits.specs.Texts.{block_text}
use Rattle.intervals.specs.DecimalTexts.{written_decimal}
use Rattle.wildcard_lang.specs.declared.piece.Piece.{Piece}
use Rattle.wildcard_lang.specs.Writing.{action_form, written_form}
use Rattle.policy_model.specs.declared.matcher.Matcher.{Matcher}
use Rattle.policy_model.specs.declared.operator.Condition.{Condition}
use Rattle.policy_model.specs.declared.operator.Operand.{Operand}
use Rattle.policy_model.specs.declared.operator.Operand.TheVariants.{Pattern, Number, Block, Truth, Bytes}
use Rattle.policy_model.specs.declared.principal.Entry.{Entry}
use Rattle.policy_model.specs.declared.principal.Entry.TheVariants.{All, Kind, Account, Exact}
use Rattle.policy_model.specs.declared.principal.PrincipalKind.{PrincipalKind}
use Rattle.policy_model.specs.declared.principal.PrincipalKind.TheVariants.{Aws}
use Rattle.policy_model.specs.Operators.{truth_word}
use Rattle.policy_model.specs.Principals.{kind_word}
use Rattle.policy_json.specs.OperatorNames.{operator_text}

-- ---- elements with one item

abbrev pub one_item : {X : Type 0} → X → Matcher X
one_item x = record { not = false; items = x ∷ [] }

-- the element of principals that has this entry: none of every principal
abbrev pub entry_element : Entry → Option (Matcher Entry)
entry_element All = None
entry_element (Kind kind) = Some (one_item (Kind kind))
entry_element (Account account) = Some (one_item (Account account))
entry_element (Exact kind id) = Some (one_item (Exact kind id))

-- an id under its kind
abbrev pub id_data : PrincipalKind → List ℕ → Data
id_data kind id = object (member (kind_word kind) (string (encode_utf8_all id)) no_members)

-- the same element as JSON. Every principal of a kind is `*` under it
abbrev pub entry_data : Entry → Option Data
entry_data All = None
entry_data (Kind kind) = Some (id_data kind (codes "*"))
entry_data (Account account) = Some (id_data Aws account)
entry_data (Exact kind id) = Some (id_data kind id)

-- an action, in which no escapes are read, and a resource, with escapes
abbrev pub action_data : List Piece → Data
action_data pattern = string (encode_utf8_all (action_form pattern))

abbrev pub resource_data : List Piece → Data
resource_data pattern = string (encode_utf8_all (written_form pattern))

-- ---- conditions

-- a value: a pattern with escapes, a number in decimal, a block in its one form, `true` or `false`, bytes in Base64 with padding
-- (RFC 4648)
abbrev pub operand_text : Operand → List ℕ
operand_text (Pattern pattern) = encode_utf8_all (written_form pattern)
operand_text (Number units) = written_decimal units
operand_text (Block block) = block_text block.first block.prefix
operand_text (Truth truth) = truth_word truth
operand_text (Bytes bytes) = encode_of standard bytes

abbrev pub operand_data : Operand → Data
operand_data o = string (operand_text o)

-- one value stands alone, and any other number of them as a list
abbrev pub operands_data : List Operand → Data
operands_data [] = array (items_of [])
operands_data (o ∷ []) = operand_data o
operands_data (o ∷ p ∷ os) = array (items_of (map operand_data (o ∷ p ∷ os)))

-- the members of an object that was found, or none
abbrev pub members_in : Option Data → Members
members_in found = unwrap_or (option_and_then as_object found) no_members

-- the keys that stand under an operator
abbrev pub keys_under : List ℕ → Members → Members
keys_under name ms = members_in (get_member name ms)

-- the operators with one condition more: its key with its values stands under its operator
abbrev pub with_condition : Members → Condition → Members
with_condition ms c =
    let name = operator_text c.operator in
    put name (object (put (encode_utf8_all c.written) (operands_data c.values) (keys_under name ms))) ms

-- the operators of conditions, each with its keys
abbrev pub block_members : List Condition → Members
block_members cs = fold with_condition no_members cs

-- the element of conditions: none where there are no conditions
abbrev pub block_data : Members → Option Data
block_data no_members = None
block_data (member name d ms) = Some (object (member name d ms))

-- how conditions stand in such an element: in the order of their operators' names, and under one operator in that of their keys
abbrev pub file_order : Condition → Condition → Ordering
file_order c d =
    match_ordering (slice_cmp nat_cmp (operator_text c.operator) (operator_text d.operator))
    Less (slice_cmp nat_cmp (encode_utf8_all c.written) (encode_utf8_all d.written)) Greater

-- a condition at its place, instead of one on its key under its operator
abbrev pub place_condition : List Condition → Condition → List Condition
place_condition [] c = c ∷ []
place_condition (d ∷ ds) c = match_ordering (file_order c d) (c ∷ d ∷ ds) (c ∷ ds) (d ∷ place_condition ds c)

abbrev pub in_file_order : List Condition → List Condition
in_file_order cs = fold place_condition [] cs

-- ---- statements and documents

-- an element that may be left out
abbrev pub member_if : List ℕ → Option Data → Members → Members
member_if name None ms = ms
member_if name (Some d) ms = member name d ms

-- the same, put at its place
abbrev pub put_if : List ℕ → Option Data → Members → Members
put_if name None ms = ms
put_if name (Some d) ms = put name d ms

-- an Allow statement of these elements
abbrev pub allow_data : Data → Option Data → Option Data → Data → Data
allow_data action condition principal resource =
    let last = member_if (codes "Principal") principal (member (codes "Resource") resource no_members) in
    let effect = member (codes "Effect") (string (codes "Allow")) last in
    object (member (codes "Action") action (member_if (codes "Condition") condition effect))

-- the same elements, put one by one among members
abbrev pub with_elements : Data → Option Data → Option Data → Data → Members → Members
with_elements action condition principal resource ms =
    let first = put (codes "Effect") (string (codes "Allow")) (put (codes "Action") action ms) in
    put_if (codes "Principal") principal (put_if (codes "Condition") condition (put (codes "Resource") resource first))

-- a document with these statements, of the version whose texts have escapes
abbrev pub document_data : List Data → Data
document_data statements =
    let version = member (codes "Version") (string (codes "2012-10-17")) no_members in
    object (member (codes "Statement") (array (items_of statements)) version)
