-- An element of conditions as it is written is read as those conditions, without a fault.
use Rattle.std.proofs.Common.{◌≡◌, ◌≤◌, ℕ, List, [], ◌∷◌, ◌++◌, map, fold, true, false, is_some, Option, Some, None, Ordering, Less, Equal, Greater, chars, refl, ap, sym, subst, ◌∙◌, arith}
use Rattle.std.specs.Prelude.{unwrap_or}
use Rattle.std.specs.List.{flat_map, list_all}
use Rattle.std.specs.Ordering.{match_ordering}
use Rattle.std.specs.Str.{IsUtf8}
use Rattle.serde_json.specs.Data.{Data, null, boolean, number, string, array, object, Members, no_members, member, put, depth, items_depth, members_depth}
use Rattle.serde_json.specs.Find.{get_member}
use Rattle.serde_json.specs.View.{items_of}
use Rattle.json_shapes.specs.Checks.{first_fault}
use Rattle.json_shapes.specs.Json.{one_or_more, pairs_of, values_of}
use Rattle.json_shapes.specs.Spelled.{IsSpelled, ItemsAreSpelled, MembersAreSpelled}
use Rattle.json_shapes.proofs.Laws.{first_fault-rest, spelled-put}
use Rattle.wildcard_lang.specs.Text.{IsText, folded_text}
use Rattle.policy_model.specs.declared.operator.Base.{Base}
use Rattle.policy_model.specs.declared.operator.Base.TheVariants.{Null}
use Rattle.policy_model.specs.declared.operator.Quantifier.TheVariants.{Plain}
use Rattle.policy_model.specs.declared.operator.Condition.{Condition}
use Rattle.policy_model.specs.declared.operator.Operand.{Operand}
use Rattle.policy_model.specs.declared.operator.Operator.{Operator}
use Rattle.policy_model.specs.Keys.{IsFolded}
use Rattle.policy_json.specs.Conditions.{are_single, condition_checks, condition_of, conditions_of, conditions_under, is_single, key_checks, operator_checks, operator_named}
use Rattle.policy_json.specs.OperatorNames.{operator_of, operator_text, operator_with}
use Rattle.policy_json.specs.Operands.{operand_of, value_checks}
use Rattle.policy_emit.specs.Written.{block_data, block_members, in_file_order, keys_under, members_in, operand_data, operands_data, place_condition, with_condition}
use Rattle.policy_emit.proofs.Groups.{AreGroups, AreUnder, Group, HasSome, cmp, conditions_among, group_members, group_of, key_members, key_of, name_of_operator, place-among, place-groups, place_group, place_key, put-group, with_key}
use Rattle.policy_emit.proofs.Operands.{IsOperandAgain, chars-encoded, encoded-utf8, if-passes}

-- ---- the values of a condition

abbrev pub AreAgain : Base → List Operand → Type 0
AreAgain b [] = Unit {0}
AreAgain b (o ∷ os) = IsOperandAgain b o × AreAgain b os

several : (os : List Operand) → values_of (items_of (map operand_data os)) ≡ map operand_data os
several [] = refl
several (o ∷ os) = ap (λ (ds : List Data). operand_data o ∷ ds) (several os)

-- one value stands alone, several in a list
members-again : (os : List Operand) → one_or_more (operands_data os) ≡ map operand_data os
members-again [] = refl
members-again (o ∷ []) = refl
members-again (o ∷ p ∷ os) = several (o ∷ p ∷ os)

values-stand : (b : Base) (os : List Operand) → AreAgain b os → map (operand_of b true) (map operand_data os) ≡ os
values-stand b [] again = refl
values-stand b (o ∷ os) again = ap (λ (p : Operand). p ∷ map (operand_of b true) (map operand_data os)) again.0.stands ∙ ap (λ (ps : List Operand). o ∷ ps) (values-stand b os again.1)

values-pass : (location : _) (key : List ℕ) (b : Base) (os : List Operand) → AreAgain b os → first_fault (flat_map (value_checks location key b true) (map operand_data os)) ≡ None
values-pass location key b [] again = refl
values-pass location key b (o ∷ os) again = first_fault-rest (value_checks location key b true (operand_data o)) (flat_map (value_checks location key b true) (map operand_data os)) (again.0.passes location key) ∙ values-pass location key b os again.1

single-all : (os : List Operand) → list_all is_single (map operand_data os) ≡ true
single-all [] = refl
single-all (o ∷ os) = single-all os

items-spelled : (b : Base) (os : List Operand) → AreAgain b os → ItemsAreSpelled (items_of (map operand_data os))
items-spelled b [] again = tt
items-spelled b (o ∷ os) again = (again.0.utf8, items-spelled b os again.1)

values-spelled : (b : Base) (os : List Operand) → AreAgain b os → IsSpelled (operands_data os)
values-spelled b [] again = tt
values-spelled b (o ∷ []) again = again.0.utf8
values-spelled b (o ∷ p ∷ os) again = items-spelled b (o ∷ p ∷ os) again

-- ---- a condition

-- its operator is read from its name, its key is a text without capitals, and each of its values is read again
pub record IsAgain (c : Condition) : Type 0 where
  pub operator : operator_of (operator_text c.operator) ≡ Some c.operator
  pub operator_utf8 : IsUtf8 (operator_text c.operator)
  pub same : c.key ≡ c.written
  pub text : IsText c.written
  pub folded : IsFolded c.written
  pub values : AreAgain c.operator.base c.values

module _ (c : Condition) (again : IsAgain c) where
  key-again : chars (key_of c) ≡ c.written
  key-again = chars-encoded c.written again.text

  of-parts : (key written : List ℕ) (values : List Operand) → key ≡ c.key → written ≡ c.written → values ≡ c.values → (let made : Condition = record { operator = c.operator; key = key; written = written; values = values } in made) ≡ c
  of-parts key written values e f g =
      let make = λ (k w : List ℕ) (vs : List Operand). let made : Condition = record { operator = c.operator; key = k; written = w; values = vs } in made in
      ap (λ (k : List ℕ). make k written values) e ∙ ap (λ (w : List ℕ). make c.key w values) f ∙ ap (make c.key c.written) g

  condition-stands : condition_of c.operator true (key_of c, operands_data c.values) ≡ c
  condition-stands =
      of-parts (folded_text (chars (key_of c))) (chars (key_of c)) (map (operand_of c.operator.base true) (one_or_more (operands_data c.values)))
      (ap folded_text key-again ∙ again.folded ∙ sym again.same) key-again
      (ap (map (operand_of c.operator.base true)) (members-again c.values) ∙ values-stand c.operator.base c.values again.values)

  condition-passes : (location : _) → first_fault (key_checks location c.operator true (key_of c, operands_data c.values)) ≡ None
  condition-passes location =
      if-passes (are_single (operands_data c.values)) _ _ (ap (list_all is_single) (members-again c.values) ∙ single-all c.values)
      (ap (λ (ds : List Data). first_fault (flat_map (value_checks location (key_of c) c.operator.base true) ds)) (members-again c.values) ∙ values-pass location (key_of c) c.operator.base c.values again.values)

-- ---- the conditions of an operator

abbrev pub AllAgain : List Condition → Type 0
AllAgain [] = Unit {0}
AllAgain (c ∷ cs) = IsAgain c × AllAgain cs

-- the name is that of the operator
names-operator : (name : List ℕ) (c : Condition) → IsAgain c → name_of_operator c ≡ name → operator_named name ≡ c.operator
names-operator name c again is = ap operator_named (sym is) ∙ ap (λ (o : Option Operator). unwrap_or o (operator_with Null Plain false)) again.operator

keys-stand : (name : List ℕ) (cs : List Condition) → AreUnder name cs → AllAgain cs → map (condition_of (operator_named name) true) (pairs_of (key_members cs)) ≡ cs
keys-stand name [] under again = refl
keys-stand name (c ∷ cs) under again =
    let own = ap (λ (o : Operator). condition_of o true (key_of c, operands_data c.values)) (names-operator name c again.0 under.0) ∙ condition-stands c again.0 in
    ap (λ (d : Condition). d ∷ map (condition_of (operator_named name) true) (pairs_of (key_members cs))) own ∙ ap (λ (ds : List Condition). c ∷ ds) (keys-stand name cs under.1 again.1)

keys-pass : (location : _) (name : List ℕ) (cs : List Condition) → AreUnder name cs → AllAgain cs → first_fault (flat_map (key_checks location (operator_named name) true) (pairs_of (key_members cs))) ≡ None
keys-pass location name [] under again = refl
keys-pass location name (c ∷ cs) under again =
    let own = ap (λ (o : Operator). first_fault (key_checks location o true (key_of c, operands_data c.values))) (names-operator name c again.0 under.0) ∙ condition-passes c again.0 location in
    first_fault-rest (key_checks location (operator_named name) true (key_of c, operands_data c.values)) (flat_map (key_checks location (operator_named name) true) (pairs_of (key_members cs))) own
    ∙ keys-pass location name cs under.1 again.1

-- ---- all conditions

abbrev pub GroupsAgain : List Group → Type 0
GroupsAgain [] = Unit {0}
GroupsAgain (g ∷ gs) = AllAgain g.own × GroupsAgain gs

pub groups-stand : (gs : List Group) → AreGroups gs → GroupsAgain gs → flat_map (conditions_under true) (pairs_of (group_members gs)) ≡ conditions_among gs
groups-stand [] groups again = refl
groups-stand (g ∷ gs) groups again =
    ap (λ (cs : List Condition). cs ++ flat_map (conditions_under true) (pairs_of (group_members gs))) (keys-stand g.name g.own groups.0.0 again.0)
    ∙ ap (λ (cs : List Condition). g.own ++ cs) (groups-stand gs groups.1 again.1)

named-operator : (name : List ℕ) (own : List Condition) → AreUnder name own → HasSome own → AllAgain own → is_some (operator_of name) ≡ true
named-operator name [] under some again = absurd some
named-operator name (c ∷ cs) under some again = ap (λ (n : List ℕ). is_some (operator_of n)) (sym under.0) ∙ ap is_some again.0.operator

groups-pass : (location : _) (gs : List Group) → AreGroups gs → GroupsAgain gs → first_fault (flat_map (operator_checks location true) (pairs_of (group_members gs))) ≡ None
groups-pass location [] groups again = refl
groups-pass location (g ∷ gs) groups again =
    let own = if-passes (is_some (operator_of g.name)) _ _ (named-operator g.name g.own groups.0.0 groups.0.1 again.0) (keys-pass location g.name g.own groups.0.0 again.0) in
    first_fault-rest (operator_checks location true (g.name, object (key_members g.own))) (flat_map (operator_checks location true) (pairs_of (group_members gs))) own
    ∙ groups-pass location gs groups.1 again.1

-- ---- the element

-- an element that may be left out is spelled
abbrev pub IsSpelledIf : Option Data → Type 0
IsSpelledIf None = Unit {0}
IsSpelledIf (Some d) = IsSpelled d

element-stands : (gs : List Group) → AreGroups gs → GroupsAgain gs → conditions_of true (block_data (group_members gs)) ≡ conditions_among gs
element-stands [] groups again = refl
element-stands (g ∷ gs) groups again = groups-stand (g ∷ gs) groups again

element-passes : (location : _) (gs : List Group) → AreGroups gs → GroupsAgain gs → first_fault (condition_checks location true (block_data (group_members gs))) ≡ None
element-passes location [] groups again = refl
element-passes location (g ∷ gs) groups again = groups-pass location (g ∷ gs) groups again

element-spelled : (gs : List Group) → IsSpelled (object (group_members gs)) → IsSpelledIf (block_data (group_members gs))
element-spelled [] spelled = tt
element-spelled (g ∷ gs) spelled = spelled

-- ---- nesting

items-shallow : (os : List Operand) → items_depth (items_of (map operand_data os)) ≤ 0
items-shallow [] = omega arith
items-shallow (o ∷ os) = let rest = items-shallow os in omega (arith, rest)

values-shallow : (os : List Operand) → depth (operands_data os) ≤ 1
values-shallow [] = omega arith
values-shallow (o ∷ []) = omega arith
values-shallow (o ∷ p ∷ os) = let items = items-shallow (o ∷ p ∷ os) in omega (arith, items)

keys-shallow : (cs : List Condition) → members_depth (key_members cs) ≤ 1
keys-shallow [] = omega arith
keys-shallow (c ∷ cs) = let own = values-shallow c.values in let rest = keys-shallow cs in omega (arith, own, rest)

groups-shallow : (gs : List Group) → members_depth (group_members gs) ≤ 2
groups-shallow [] = omega arith
groups-shallow (g ∷ gs) = let own = keys-shallow g.own in let rest = groups-shallow gs in omega (arith, own, rest)

-- an element that may be left out nests at most three deep
abbrev pub IsShallowIf : Option Data → Type 0
IsShallowIf None = Unit {0}
IsShallowIf (Some d) = depth d ≤ 3

element-shallow : (gs : List Group) → IsShallowIf (block_data (group_members gs))
element-shallow [] = tt
element-shallow (g ∷ gs) = let rest = groups-shallow (g ∷ gs) in omega (arith, rest)

-- ---- one condition more

again-at : (o : Ordering) (c d : Condition) (ds : List Condition) → IsAgain c → AllAgain (d ∷ ds) → AllAgain (place_key ds c) → AllAgain (match_ordering o (c ∷ d ∷ ds) (c ∷ ds) (d ∷ place_key ds c))
again-at Less c d ds own again later = (own, again)
again-at Equal c d ds own again later = (own, again.1)
again-at Greater c d ds own again later = (again.0, later)

key-again-put : (c : Condition) (ds : List Condition) → IsAgain c → AllAgain ds → AllAgain (place_key ds c)
key-again-put c [] own again = (own, tt)
key-again-put c (d ∷ ds) own again = again-at (cmp (key_of c) (key_of d)) c d ds own again (key-again-put c ds own again.1)

groups-again-at : (o : Ordering) (c : Condition) (g : Group) (gs : List Group) → IsAgain c → GroupsAgain (g ∷ gs) → GroupsAgain (place_group gs c) → GroupsAgain (match_ordering o (group_of c ∷ g ∷ gs) (with_key g c ∷ gs) (g ∷ place_group gs c))
groups-again-at Less c g gs own again later = ((own, tt), again)
groups-again-at Equal c g gs own again later = (key-again-put c g.own own again.0, again.1)
groups-again-at Greater c g gs own again later = (again.0, later)

groups-again-put : (c : Condition) (gs : List Group) → IsAgain c → GroupsAgain gs → GroupsAgain (place_group gs c)
groups-again-put c [] own again = ((own, tt), tt)
groups-again-put c (g ∷ gs) own again = groups-again-at (cmp (name_of_operator c) g.name) c g gs own again (groups-again-put c gs own again.1)

object-spelled : (d : Data) → IsSpelled d → IsSpelled (object (members_in (Some d)))
object-spelled null spelled = (tt, tt)
object-spelled (boolean b) spelled = (tt, tt)
object-spelled (number n) spelled = (tt, tt)
object-spelled (string s) spelled = (tt, tt)
object-spelled (array ds) spelled = (tt, tt)
object-spelled (object ms) spelled = spelled

under-at : (o : Ordering) (found : Option Data) (d : Data) → IsSpelled d → IsSpelled (object (members_in found)) → IsSpelled (object (members_in (match_ordering o found (Some d) found)))
under-at Less found d own later = later
under-at Equal found d own later = object-spelled d own
under-at Greater found d own later = later

under-spelled : (name : List ℕ) (ms : Members) → MembersAreSpelled ms → IsSpelled (object (keys_under name ms))
under-spelled name no_members spelled = (tt, tt)
under-spelled name (member l d ms) spelled = under-at (cmp name l) (get_member name ms) d spelled.0.1 (under-spelled name ms spelled.1)

with-spelled : (c : Condition) (ms : Members) → IsAgain c → IsSpelled (object ms) → IsSpelled (object (with_condition ms c))
with-spelled c ms again spelled =
    let name = name_of_operator c in
    let keys = spelled-put (key_of c) (operands_data c.values) (keys_under name ms) (encoded-utf8 c.written again.text) (values-spelled c.operator.base c.values again.values) (under-spelled name ms spelled.1) in
    spelled-put name (object (put (key_of c) (operands_data c.values) (keys_under name ms))) ms again.operator_utf8 keys spelled

-- ---- all of them

-- conditions that are put in, one after another, are an element that is read as these conditions
pub record IsBlock (before : List Group) (cs : List Condition) : Type 0 where
  pub after : List Group
  pub members : fold with_condition (group_members before) cs ≡ group_members after
  pub order : fold place_condition (conditions_among before) cs ≡ conditions_among after
  pub groups : AreGroups after
  pub again : GroupsAgain after
  pub spelled : IsSpelled (object (group_members after))

block-again : (before : List Group) (cs : List Condition) → AllAgain cs → AreGroups before → GroupsAgain before → IsSpelled (object (group_members before)) → IsBlock before cs
block-again before [] own groups again spelled = record { after = before; members = refl; order = refl; groups = groups; again = again; spelled = spelled }
block-again before (c ∷ cs) own groups again spelled =
    let put-in = put-group c before spelled.0 in
    let rest = block-again (place_group before c) cs own.1 (place-groups c before groups) (groups-again-put c before own.0 again) (subst (λ (ms : Members). IsSpelled (object ms)) put-in (with-spelled c (group_members before) own.0 spelled)) in record {
      after = rest.after;
      members = ap (λ (ms : Members). fold with_condition ms cs) put-in ∙ rest.members;
      order = ap (λ (ds : List Condition). fold place_condition ds cs) (sym (place-among c before spelled.0 groups)) ∙ rest.order;
      groups = rest.groups;
      again = rest.again;
      spelled = rest.spelled;
    }

module _ (cs : List Condition) (own : AllAgain cs) where
  whole : IsBlock [] cs
  whole = block-again [] cs own tt tt (tt, tt)

  pub conditions-stand : conditions_of true (block_data (block_members cs)) ≡ in_file_order cs
  conditions-stand = ap (λ (ms : Members). conditions_of true (block_data ms)) whole.members ∙ element-stands whole.after whole.groups whole.again ∙ sym whole.order

  pub conditions-pass : (location : _) → first_fault (condition_checks location true (block_data (block_members cs))) ≡ None
  conditions-pass location = ap (λ (ms : Members). first_fault (condition_checks location true (block_data ms))) whole.members ∙ element-passes location whole.after whole.groups whole.again

  pub conditions-spelled : IsSpelledIf (block_data (block_members cs))
  conditions-spelled = subst (λ (ms : Members). IsSpelledIf (block_data ms)) (sym whole.members) (element-spelled whole.after whole.spelled)

  pub conditions-shallow : IsShallowIf (block_data (block_members cs))
  conditions-shallow = subst (λ (ms : Members). IsShallowIf (block_data ms)) (sym whole.members) (element-shallow whole.after)
