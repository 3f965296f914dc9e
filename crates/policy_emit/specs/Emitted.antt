-- Policies written from findings (IAM JSON policy reference): each finding is a statement that allows exactly what lies in it. What the
-- statements say, and the text of the document.
use Rattle.std.specs.Prelude.{◌≡◌, ◌<◌, ◌≤◌, ℕ, List, [], ◌∷◌, ◌++◌, length, map, All, Bool, true, false, if◌then◌else◌}
use Rattle.std.specs.Prelude.{Option, Some, None, option_map, unwrap_or, Result, Ok, Err, String, string_bytes}
use Rattle.std.specs.List.{list_any}
use Rattle.std.specs.declared.alloc.Global.{Global}
use Rattle.serde_json.specs.Data.{Data, array}
use Rattle.serde_json.specs.View.{items_of}
use Rattle.serde_json.specs.Written.{compact_text}
use Rattle.intervals.specs.declared.compare.Compare as compare
use Rattle.intervals.specs.declared.compare.Compare.TheVariants as how
use Rattle.text_table.specs.Table.{item_at}
use Rattle.wildcard_lang.specs.declared.piece.Piece.{Piece}
use Rattle.wildcard_lang.specs.declared.piece.Piece.TheVariants.{Many}
use Rattle.policy_model.specs.declared.cond.Cond.{Cond}
use Rattle.policy_model.specs.declared.cond.Cond.TheVariants.{Matches, Compares, Inside, Flag, Equals}
use Rattle.policy_model.specs.declared.operator.Base.{Base}
use Rattle.policy_model.specs.declared.operator.Base.TheVariants as base
use Rattle.policy_model.specs.declared.operator.Condition.{Condition}
use Rattle.policy_model.specs.declared.operator.Operand.{Operand}
use Rattle.policy_model.specs.declared.operator.Operand.TheVariants as operand
use Rattle.policy_model.specs.declared.operator.Quantifier.{Quantifier}
use Rattle.policy_model.specs.declared.operator.Quantifier.TheVariants.{Plain, ForAny}
use Rattle.policy_model.specs.declared.principal.Entry.{Entry}
use Rattle.policy_model.specs.declared.principal.Entry.TheVariants as entry
use Rattle.policy_model.specs.declared.schema.Schema.{Schema}
use Rattle.policy_model.specs.declared.set.Document.{Document}
use Rattle.policy_model.specs.declared.set.PolicySet.{PolicySet}
use Rattle.policy_model.specs.declared.set.Statement.{Statement}
use Rattle.policy_model.specs.declared.test.Slot.{Slot}
use Rattle.policy_model.specs.declared.test.Slot.TheVariants as slot
use Rattle.policy_json.specs.declared.statement.TheConstants.{MOST_STATEMENTS}
use Rattle.policy_json.specs.OperatorNames.{operator_with}
use Rattle.strata.specs.declared.predicate.Predicate.{Predicate}
use Rattle.strata.specs.declared.predicate.Predicate.TheVariants.{Every, Principal, Word, Meets}
use Rattle.strata.specs.declared.stratum.Stratum.{Stratum}
use Rattle.strata.specs.Covers.{predicate_at}
use Rattle.findings.specs.Texts.{is_narrow_wildcard, takes_either_case}
use Rattle.policy_emit.specs.declared.fault.EmitFault.{EmitFault}
use Rattle.policy_emit.specs.declared.fault.EmitFault.TheVariants.{TooManyStatements, NoMemory}
use Rattle.policy_emit.specs.declared.part.Part.{Part}
use Rattle.policy_emit.specs.declared.part.Part.TheVariants as part
use Rattle.policy_emit.specs.Kept.{StatementIsKept}
use Rattle.policy_emit.specs.Written.{action_data, allow_data, block_data, block_members, document_data, entry_data, entry_element, in_file_order, one_item, resource_data}

-- ---- what a finding asks of the parts of each request

-- the slot of a part
abbrev pub is_slot_of : Part → Slot → Bool
is_slot_of part.Principal slot.Principal = true
is_slot_of part.Action slot.Action = true
is_slot_of part.Resource slot.Resource = true
is_slot_of p s = false

-- the finding's predicate of a part, or none where the part is no dimension
abbrev pub predicate_of : Part → List Stratum → List ℕ → Option Predicate
predicate_of p [] f = None
predicate_of p (d ∷ ds) [] = None
predicate_of p (d ∷ ds) (n ∷ f) = (if is_slot_of p d.slot then Some (predicate_at d.predicates n) else predicate_of p ds f)

-- the entry of the principal: every principal, where nothing is asked
abbrev pub entry_in : Option Predicate → Entry
entry_in None = entry.All
entry_in (Some Every) = entry.All
entry_in (Some (Principal e)) = e
entry_in (Some (Word pattern)) = entry.All
entry_in (Some (Meets c)) = entry.All

-- the pattern of a word: `*`, where nothing is asked
abbrev pub pattern_in : Option Predicate → List Piece
pattern_in None = Many ∷ []
pattern_in (Some Every) = Many ∷ []
pattern_in (Some (Principal e)) = Many ∷ []
pattern_in (Some (Word pattern)) = pattern
pattern_in (Some (Meets c)) = Many ∷ []

abbrev pub entry_of_finding : List Stratum → List ℕ → Entry
entry_of_finding ds f = entry_in (predicate_of part.Principal ds f)

abbrev pub action_of_finding : List Stratum → List ℕ → List Piece
action_of_finding ds f = pattern_in (predicate_of part.Action ds f)

abbrev pub resource_of_finding : List Stratum → List ℕ → List Piece
resource_of_finding ds f = pattern_in (predicate_of part.Resource ds f)

-- ---- what it asks of keys

-- the operator of a pattern: of ARNs where a wildcard takes no colon, and otherwise of texts, without regard to case where a letter is
-- taken in either case
abbrev pub pattern_base : List Piece → Base
pattern_base ps =
    (if list_any is_narrow_wildcard ps then base.ArnLike
    else (if list_any takes_either_case ps then base.StringEqualsIgnoreCase else base.StringLike))

-- the operator of a comparison
abbrev pub numeric_base : compare.Compare → Base
numeric_base how.Equal = base.NumericEquals
numeric_base how.Less = base.NumericLessThan
numeric_base how.LessOrEqual = base.NumericLessThanEquals
numeric_base how.Greater = base.NumericGreaterThan
numeric_base how.GreaterOrEqual = base.NumericGreaterThanEquals

-- the operator of what is asked of a value
abbrev pub cond_base : Cond → Base
cond_base (Matches pattern) = pattern_base pattern
cond_base (Compares compare bound) = numeric_base compare
cond_base (Inside block) = base.IpAddress
cond_base (Flag at_true at_false) = base.Bool
cond_base (Equals bytes) = base.BinaryEquals

-- the truth values that a flag takes
abbrev pub truths_of : Bool → Bool → List Operand
truths_of true true = operand.Truth true ∷ operand.Truth false ∷ []
truths_of true false = operand.Truth true ∷ []
truths_of false true = operand.Truth false ∷ []
truths_of false false = []

-- the operator's values: one, but of a flag each truth value that it takes
abbrev pub cond_operands : Cond → List Operand
cond_operands (Matches pattern) = operand.Pattern pattern ∷ []
cond_operands (Compares compare bound) = operand.Number bound ∷ []
cond_operands (Inside block) = operand.Block block ∷ []
cond_operands (Flag at_true at_false) = truths_of at_true at_false
cond_operands (Equals bytes) = operand.Bytes bytes ∷ []

-- the schema gives the key several values
abbrev pub has_several : Schema → List ℕ → Bool
has_several schema key = unwrap_or (option_map (λ rule. rule.many) (item_at key schema.keys)) false

-- of a key with several values some value is to meet what is asked
abbrev pub key_quantifier : Schema → List ℕ → Quantifier
key_quantifier schema key = (if has_several schema key then ForAny else Plain)

-- the condition by which a value of the key meets what is asked
abbrev pub condition_on : Schema → List ℕ → Cond → Condition
condition_on schema key c = record {
  operator = operator_with (cond_base c) (key_quantifier schema key) false;
  key = key;
  written = key;
  values = cond_operands c;
}

-- a dimension's condition: of a key, where something is asked of it
abbrev pub key_conditions : Schema → Slot → Predicate → List Condition
key_conditions schema (slot.Key key) (Meets c) = condition_on schema key c ∷ []
key_conditions schema s p = []

-- the finding's conditions, in the order of the dimensions
abbrev pub conditions_in : Schema → List Stratum → List ℕ → List Condition
conditions_in schema [] f = []
conditions_in schema (d ∷ ds) [] = []
conditions_in schema (d ∷ ds) (n ∷ f) = key_conditions schema d.slot (predicate_at d.predicates n) ++ conditions_in schema ds f

-- ---- what the policy says

-- the Allow statement that a request meets where it lies in the finding
abbrev pub emitted_statement : Schema → List Stratum → List ℕ → Statement
emitted_statement schema ds f = record {
  allow = true;
  principal = entry_element (entry_of_finding ds f);
  action = one_item (action_of_finding ds f);
  resource = Some (one_item (resource_of_finding ds f));
  conditions = in_file_order (conditions_in schema ds f);
}

-- the document whose statements are those of the findings, in their order, and the set of this document alone
abbrev pub emitted_document : Schema → List Stratum → List (List ℕ) → Document
emitted_document schema ds fs = record { statements = map (emitted_statement schema ds) fs }

abbrev pub emitted_set : Schema → List Stratum → List (List ℕ) → PolicySet
emitted_set schema ds fs = record { grants = emitted_document schema ds fs ∷ []; guards = [] }

-- ---- how it is written

-- a finding's statement, without the elements that say nothing
abbrev pub statement_data : Schema → List Stratum → List ℕ → Data
statement_data schema ds f =
    allow_data (action_data (action_of_finding ds f)) (block_data (block_members (conditions_in schema ds f)))
    (entry_data (entry_of_finding ds f)) (resource_data (resource_of_finding ds f))

-- the statements of findings, in their order
abbrev pub statements_data : Schema → List Stratum → List (List ℕ) → Data
statements_data schema ds fs = array (items_of (map (statement_data schema ds) fs))

-- the whole document
abbrev pub policy_data : Schema → List Stratum → List (List ℕ) → Data
policy_data schema ds fs = document_data (map (statement_data schema ds) fs)

-- as a text: one line, with a line feed behind it
abbrev pub policy_text : Schema → List Stratum → List (List ℕ) → List ℕ
policy_text schema ds fs = compact_text (policy_data schema ds fs) ++ 10 ∷ []

-- each statement is such as a program has
abbrev pub StatementsAreKept : Schema → List Stratum → List (List ℕ) → Type 0
StatementsAreKept schema ds fs = All (λ f. StatementIsKept (emitted_statement schema ds f)) fs

-- the text of findings, where a set may have so many statements, or else that they are too many; or that there was no memory
abbrev pub IsEmitted : Schema → List Stratum → List (List ℕ) → Result (String Global) EmitFault → Type 0
IsEmitted schema ds fs (Ok text) = (length fs ≤ MOST_STATEMENTS) × (string_bytes text ≡ policy_text schema ds fs)
IsEmitted schema ds fs (Err TooManyStatements) = MOST_STATEMENTS < length fs
IsEmitted schema ds fs (Err NoMemory) = length fs ≤ MOST_STATEMENTS
