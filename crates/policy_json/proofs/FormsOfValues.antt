-- The entries, the patterns and the values of conditions that pass their checks are of the forms that files give.
use Rattle.std.proofs.Common.{◌≡◌, ◌≢◌, ◌≤◌, ◌⊎◌, inl, inr, ℕ, ℤ, pos, List, [], ◌∷◌, length, map, Bool, true, false, not, ◌||◌, is_some, if◌then◌else◌, Option, Some, None, option_map, option_and_then, unwrap_or, chars, refl, ◌∙◌, arith}
use Rattle.std.specs.Prelude.{nat_le}
use Rattle.std.proofs.lemmas.Bool.{leb-true}
use Rattle.std.proofs.lemmas.List.{length-map}
use Rattle.std.proofs.lemmas.List.Elements.{All-map}
use Rattle.std.specs.List.{flat_map}
use Rattle.base64.specs.Engines.{standard}
use Rattle.base64.specs.GeneralPurpose.{decoded_of}
use Rattle.serde_json.specs.Data.{Data, null, boolean, number, string, array, object}
use Rattle.serde_json.specs.Find.{as_integer, as_str, as_u64}
use Rattle.wildcard_lang.specs.declared.pattern.TheConstants.{MOST_PIECES}
use Rattle.wildcard_lang.specs.declared.piece.Piece.{Piece}
use Rattle.wildcard_lang.specs.declared.symbol.Symbol.TheVariants.{Written}
use Rattle.wildcard_lang.specs.Arns.{arn_pieces, colons}
use Rattle.wildcard_lang.specs.Reading.{glob_pieces, literal_pieces, wildcard_of}
use Rattle.wildcard_lang.specs.WrittenAgain.{IsArnOf, IsGlobOf, IsLiteralOf}
use Rattle.wildcard_lang.proofs.Laws.{arns-with_escapes, globs-with_escapes, literals-with_escapes}
use Rattle.intervals.specs.Scaled.{whole_units}
use Rattle.intervals.specs.DecimalTexts.{decimal_of}
use Rattle.intervals.specs.MomentTexts.{moment_of}
use Rattle.cidr_bits.specs.Readings.{block_spelled}
use Rattle.policy_model.specs.declared.operator.Base.{Base}
use Rattle.policy_model.specs.declared.operator.Base.TheVariants as base
use Rattle.policy_model.specs.declared.operator.Operator.{Operator}
use Rattle.policy_model.specs.declared.operator.Operand.{Operand}
use Rattle.policy_model.specs.declared.operator.Operand.TheVariants as operand
use Rattle.policy_model.specs.declared.principal.Entry.{Entry}
use Rattle.policy_model.specs.declared.principal.Entry.TheVariants.{All, Kind, Exact}
use Rattle.policy_model.specs.declared.principal.PrincipalKind.{PrincipalKind}
use Rattle.policy_model.specs.declared.principal.PrincipalKind.TheVariants.{Aws, Service, Federated, CanonicalUser}
use Rattle.policy_model.specs.Soundness.{OperatorIsSound}
use Rattle.policy_json.specs.declared.location.Location.{Location}
use Rattle.json_shapes.specs.Checks.{first_fault}
use Rattle.json_shapes.specs.Json.{one_or_more, text_of}
use Rattle.json_shapes.proofs.Laws.{front_passes-none}
use Rattle.policy_json.specs.Checks.{PolicyCheck}
use Rattle.policy_json.specs.Conditions.{condition_of, key_checks}
use Rattle.policy_json.specs.Laws.{StandsForAccount}
use Rattle.policy_json.specs.Operands.{block_in, bytes_in, moment_in, number_in, operand_of, text_in, truth_in, value_checks, value_pattern}
use Rattle.policy_json.specs.Principals.{account_of, account_or_exact, entry_of, has_wildcard, id_checks, is_star_id}
use Rattle.policy_json.specs.ReadForms.{IsReadAction, IsReadCondition, IsReadEntry, IsReadId, IsReadOperand, IsReadResource, IsWhole}
use Rattle.policy_json.specs.Texts.{glob_of, pattern_checks, pieces_of}
use Rattle.policy_json.proofs.Naming.{stands-read}
use Rattle.policy_json.proofs.Roots.{account_of-is}
use Rattle.policy_json.proofs.Sound.{behind, each_sound, first_passes, none-behind, second_of, third_of}
use Rattle.policy_json.proofs.SoundConditions.{key_sound}

-- ---- entries

not_empty : (id : List ℕ) → not (nat_le (length id) 0) ≡ true → id ≢ []
not_empty [] some = absurd cc
not_empty (c ∷ id) some = λ none. absurd cc

no_wildcard : (star wild : Bool) → (star || not wild) ≡ true → star ≡ false → wild ≡ false
no_wildcard star true h other = absurd cc
no_wildcard star false h other = refl

either_form : (star : Bool) (x y : Entry) → IsReadEntry x → (star ≡ false → IsReadEntry y) → IsReadEntry (if star then x else y)
either_form true x y h k = h
either_form false x y h k = k refl

-- what an id that passes its checks is, where it isn't `*`
record IsFine (id : List ℕ) : Type 0 where
  nonempty : id ≢ []
  plain : is_star_id id ≡ false → has_wildcard id ≡ false
  short : length id ≤ MOST_PIECES

exact_form : (kind : PrincipalKind) (id : List ℕ) → IsFine id → is_star_id id ≡ false → (kind ≡ Aws → (account : List ℕ) → ¬ StandsForAccount account id) → IsReadId kind id
exact_form kind id fine other apart = record { nonempty = fine.nonempty; plain = fine.plain other; short = fine.short; no_account = apart }

account_form : (id : List ℕ) → IsFine id → is_star_id id ≡ false → (o : Option (List ℕ)) → account_of id ≡ o → IsReadEntry (account_or_exact id o)
account_form id fine other None none = exact_form Aws id fine other (λ is account stands. let read = stands-read account id stands in absurd cc)
account_form id fine other (Some account) is = account_of-is id account is

entry_form : (kind : PrincipalKind) (id : List ℕ) → IsFine id → IsReadEntry (entry_of kind id)
entry_form Aws id fine = either_form (is_star_id id) All (account_or_exact id (account_of id)) tt (λ other. account_form id fine other (account_of id) refl)
entry_form Service id fine = either_form (is_star_id id) (Kind Service) (Exact Service id) (λ is. absurd cc) (λ other. exact_form Service id fine other (λ is. absurd cc))
entry_form Federated id fine = either_form (is_star_id id) (Kind Federated) (Exact Federated id) (λ is. absurd cc) (λ other. exact_form Federated id fine other (λ is. absurd cc))
entry_form CanonicalUser id fine = either_form (is_star_id id) (Kind CanonicalUser) (Exact CanonicalUser id) (λ is. absurd cc) (λ other. exact_form CanonicalUser id fine other (λ is. absurd cc))

pub id_form : (location : Location) (name : List ℕ) (kind : PrincipalKind) (d : Data) → first_fault (id_checks location name d) ≡ None → IsReadEntry (entry_of kind (text_of d))
id_form location name kind d e =
    let id = text_of d in
    let checks = id_checks location name d in
    entry_form kind id (record { nonempty = not_empty id (front_passes-none checks e); plain = no_wildcard (is_star_id id) (has_wildcard id) (second_of checks e); short = leb-true (length id) MOST_PIECES (third_of checks e) })

-- ---- patterns

-- what is there is what is taken out of it
is_there : {T : Type 0} (o : Option T) (other : T) → is_some o ≡ true → o ≡ Some (unwrap_or o other)
is_there None other e = absurd cc
is_there (Some x) other e = refl

pub resource_form : (location : Location) (name : List ℕ) (escapes : Bool) (d : Data) → first_fault (pattern_checks location name escapes d) ≡ None → IsReadResource (glob_of false escapes d)
resource_form location name escapes d e =
    let checks = pattern_checks location name escapes d in
    record {
      glob = globs-with_escapes false escapes (glob_of false escapes d) (text_of d, is_there (pieces_of false escapes d) [] (front_passes-none checks e));
      few = leb-true (length (glob_of false escapes d)) MOST_PIECES (second_of checks e);
    }

-- without escapes a pattern has a piece for each character, folded or not
as_many : (fold : Bool) (cs : List ℕ) → length (map (wildcard_of fold) (map Written cs)) ≡ length cs
as_many fold cs = length-map (map Written cs) (wildcard_of fold) ∙ length-map cs Written

pub action_form : (location : Location) (name : List ℕ) (d : Data) → first_fault (pattern_checks location name false d) ≡ None → IsReadAction (glob_of true false d)
action_form location name d e =
    let few : length (glob_of false false d) ≤ MOST_PIECES = leb-true (length (glob_of false false d)) MOST_PIECES (second_of (pattern_checks location name false d) e) in
    let unfolded : length (glob_of false false d) ≡ length (text_of d) = as_many false (text_of d) in
    let folded : length (glob_of true false d) ≡ length (text_of d) = as_many true (text_of d) in
    record { glob = (text_of d, refl); few = omega (arith, few, unfolded, folded) }

-- ---- values of conditions

-- the pieces that a value's text stands for
of_text : (pieces : List ℕ → Option (List Piece)) (o : Option (List ℕ)) → is_some (option_and_then pieces o) ≡ true → (text : List ℕ) × (pieces text ≡ Some (unwrap_or (option_and_then pieces o) []))
of_text pieces None e = absurd cc
of_text pieces (Some text) e = (text, is_there (pieces text) [] e)

literal_form : (fold escapes : Bool) (o : Option (List ℕ)) → is_some (option_and_then (λ text. literal_pieces fold escapes (chars text)) o) ≡ true → IsLiteralOf fold true (unwrap_or (option_and_then (λ text. literal_pieces fold escapes (chars text)) o) [])
literal_form fold escapes o e = let read = of_text (λ text. literal_pieces fold escapes (chars text)) o e in literals-with_escapes fold escapes _ (chars read.0, read.1)

glob_form : (escapes : Bool) (o : Option (List ℕ)) → is_some (option_and_then (λ text. glob_pieces false escapes (chars text)) o) ≡ true → IsGlobOf false true (unwrap_or (option_and_then (λ text. glob_pieces false escapes (chars text)) o) [])
glob_form escapes o e = let read = of_text (λ text. glob_pieces false escapes (chars text)) o e in globs-with_escapes false escapes _ (chars read.0, read.1)

arn_form : (escapes : Bool) (o : Option (List ℕ)) → is_some (option_and_then (λ text. arn_pieces escapes (chars text)) o) ≡ true → nat_le 5 (colons (unwrap_or (option_and_then (λ text. arn_pieces escapes (chars text)) o) [])) ≡ true →
    IsArnOf true (unwrap_or (option_and_then (λ text. arn_pieces escapes (chars text)) o) [])
arn_form escapes o e parts = let read = of_text (λ text. arn_pieces escapes (chars text)) o e in arns-with_escapes escapes _ (chars read.0, read.1, leb-true 5 _ parts)

-- a value that was found
found_form : {X : Type 0} (b : Base) (put : X → Operand) (o : Option X) → ((x : X) → o ≡ Some x → IsReadOperand b (put x)) → is_some (option_map put o) ≡ true → IsReadOperand b (unwrap_or (option_map put o) (operand.Truth false))
found_form b put None each e = absurd cc
found_form b put (Some x) each e = each x refl

whole_read : (o : Option ℤ) (units : ℤ) → option_and_then whole_units o ≡ Some units → IsWhole units
whole_read None units e = absurd cc
whole_read (Some n) units e = (n, e)

natural_read : (o : Option ℕ) (units : ℤ) → option_and_then (λ n. whole_units (pos n)) o ≡ Some units → IsWhole units
natural_read None units e = absurd cc
natural_read (Some n) units e = (pos n, e)

number_read : (d : Data) (units : ℤ) → number_in d ≡ Some units → ((text : List ℕ) × (decimal_of text ≡ Some units)) ⊎ IsWhole units
number_read null units e = absurd cc
number_read (boolean b) units e = absurd cc
number_read (number x) units e = inr (whole_read (as_integer x) units e)
number_read (string s) units e = inl (s, e)
number_read (array ds) units e = absurd cc
number_read (object ms) units e = absurd cc

moment_read : (d : Data) (units : ℤ) → moment_in d ≡ Some units → ((text : List ℕ) × (moment_of text ≡ Some units)) ⊎ IsWhole units
moment_read null units e = absurd cc
moment_read (boolean b) units e = absurd cc
moment_read (number x) units e = inr (natural_read (as_u64 x) units e)
moment_read (string s) units e = inl (s, e)
moment_read (array ds) units e = absurd cc
moment_read (object ms) units e = absurd cc

-- what a string stands for
string_read : {X : Type 0} (reads : List ℕ → Option X) (o : Option (List ℕ)) (x : X) → option_and_then reads o ≡ Some x → (text : List ℕ) × (reads text ≡ Some x)
string_read reads None x e = absurd cc
string_read reads (Some text) x e = (text, e)

module _ (location : Location) (key : List ℕ) (escapes : Bool) (d : Data) where
  abbrev checks : Base → List PolicyCheck
  checks b = value_checks location key b escapes d

  abbrev Passes : Base → Type 0
  Passes b = first_fault (checks b) ≡ None

  few : (b : Base) → Passes b → length (value_pattern b escapes d) ≤ MOST_PIECES
  few b e = leb-true (length (value_pattern b escapes d)) MOST_PIECES (third_of (behind (checks b)) (none-behind (checks b) e))

  value_form : (b : Base) → Passes b → IsReadOperand b (operand_of b escapes d)
  value_form base.StringEquals e = (literal_form false escapes (text_in d) (second_of (checks base.StringEquals) e), few base.StringEquals e)
  value_form base.StringNotEquals e = (literal_form false escapes (text_in d) (second_of (checks base.StringNotEquals) e), few base.StringNotEquals e)
  value_form base.StringEqualsIgnoreCase e = (literal_form true escapes (text_in d) (second_of (checks base.StringEqualsIgnoreCase) e), few base.StringEqualsIgnoreCase e)
  value_form base.StringNotEqualsIgnoreCase e = (literal_form true escapes (text_in d) (second_of (checks base.StringNotEqualsIgnoreCase) e), few base.StringNotEqualsIgnoreCase e)
  value_form base.StringLike e = (glob_form escapes (text_in d) (second_of (checks base.StringLike) e), few base.StringLike e)
  value_form base.StringNotLike e = (glob_form escapes (text_in d) (second_of (checks base.StringNotLike) e), few base.StringNotLike e)
  value_form base.ArnEquals e = (arn_form escapes (text_in d) (second_of (checks base.ArnEquals) e) (third_of (checks base.ArnEquals) e), few base.ArnEquals e)
  value_form base.ArnNotEquals e = (arn_form escapes (text_in d) (second_of (checks base.ArnNotEquals) e) (third_of (checks base.ArnNotEquals) e), few base.ArnNotEquals e)
  value_form base.ArnLike e = (arn_form escapes (text_in d) (second_of (checks base.ArnLike) e) (third_of (checks base.ArnLike) e), few base.ArnLike e)
  value_form base.ArnNotLike e = (arn_form escapes (text_in d) (second_of (checks base.ArnNotLike) e) (third_of (checks base.ArnNotLike) e), few base.ArnNotLike e)
  value_form base.NumericEquals e = found_form base.NumericEquals (λ n. operand.Number n) (number_in d) (number_read d) (front_passes-none (checks base.NumericEquals) e)
  value_form base.NumericNotEquals e = found_form base.NumericNotEquals (λ n. operand.Number n) (number_in d) (number_read d) (front_passes-none (checks base.NumericNotEquals) e)
  value_form base.NumericLessThan e = found_form base.NumericLessThan (λ n. operand.Number n) (number_in d) (number_read d) (front_passes-none (checks base.NumericLessThan) e)
  value_form base.NumericLessThanEquals e = found_form base.NumericLessThanEquals (λ n. operand.Number n) (number_in d) (number_read d) (front_passes-none (checks base.NumericLessThanEquals) e)
  value_form base.NumericGreaterThan e = found_form base.NumericGreaterThan (λ n. operand.Number n) (number_in d) (number_read d) (front_passes-none (checks base.NumericGreaterThan) e)
  value_form base.NumericGreaterThanEquals e = found_form base.NumericGreaterThanEquals (λ n. operand.Number n) (number_in d) (number_read d) (front_passes-none (checks base.NumericGreaterThanEquals) e)
  value_form base.DateEquals e = found_form base.DateEquals (λ n. operand.Number n) (moment_in d) (moment_read d) (front_passes-none (checks base.DateEquals) e)
  value_form base.DateNotEquals e = found_form base.DateNotEquals (λ n. operand.Number n) (moment_in d) (moment_read d) (front_passes-none (checks base.DateNotEquals) e)
  value_form base.DateLessThan e = found_form base.DateLessThan (λ n. operand.Number n) (moment_in d) (moment_read d) (front_passes-none (checks base.DateLessThan) e)
  value_form base.DateLessThanEquals e = found_form base.DateLessThanEquals (λ n. operand.Number n) (moment_in d) (moment_read d) (front_passes-none (checks base.DateLessThanEquals) e)
  value_form base.DateGreaterThan e = found_form base.DateGreaterThan (λ n. operand.Number n) (moment_in d) (moment_read d) (front_passes-none (checks base.DateGreaterThan) e)
  value_form base.DateGreaterThanEquals e = found_form base.DateGreaterThanEquals (λ n. operand.Number n) (moment_in d) (moment_read d) (front_passes-none (checks base.DateGreaterThanEquals) e)
  value_form base.Bool e = found_form base.Bool (λ t. operand.Truth t) (truth_in d) (λ t is. tt) (front_passes-none (checks base.Bool) e)
  value_form base.Null e = found_form base.Null (λ t. operand.Truth t) (truth_in d) (λ t is. tt) (front_passes-none (checks base.Null) e)
  value_form base.BinaryEquals e = found_form base.BinaryEquals (λ s. operand.Bytes s) (bytes_in d) (string_read (decoded_of standard) (as_str d)) (front_passes-none (checks base.BinaryEquals) e)
  value_form base.IpAddress e = found_form base.IpAddress (λ s. operand.Block s) (block_in d) (string_read block_spelled (as_str d)) (front_passes-none (checks base.IpAddress) e)
  value_form base.NotIpAddress e = found_form base.NotIpAddress (λ s. operand.Block s) (block_in d) (string_read block_spelled (as_str d)) (front_passes-none (checks base.NotIpAddress) e)

pub key_form : (location : Location) (escapes : Bool) (o : Operator) → OperatorIsSound o → (key : List ℕ × Data) → first_fault (key_checks location o escapes key) ≡ None → IsReadCondition (condition_of o escapes key)
key_form location escapes o sound key e =
    let passed : first_fault (flat_map (value_checks location key.0 o.base escapes) (one_or_more key.1)) ≡ None = first_passes _ _ _ e in
    record {
      sound = key_sound location o escapes sound key e;
      values = All-map (IsReadOperand o.base) (operand_of o.base escapes) (one_or_more key.1)
          (each_sound (value_checks location key.0 o.base escapes) (λ d. IsReadOperand o.base (operand_of o.base escapes d)) (λ d one. value_form location key.0 escapes d o.base one) (one_or_more key.1) passed);
    }
