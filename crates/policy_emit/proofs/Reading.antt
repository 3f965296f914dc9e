-- The policy of findings as it is written is read as the set of their statements.
use Rattle.std.proofs.Common.{◌≢◌, ◌≤◌, ℕ, List, [], ◌∷◌, ◌++◌, map, length, Bool, true, false, All as Each, AllPairs, Option, Some, None, codes, refl, sym, subst, inl, inr, if◌then◌else◌, arith}
use Rattle.std.specs.Prelude.{IfSome, MatchBool}
use Rattle.std.specs.List.{list_any}
use Rattle.std.specs.Str.{IsUtf8}
use Rattle.std.proofs.lemmas.Bool.{cases_lt}
use Rattle.std.proofs.lemmas.List.{get_or_past, length-map}
use Rattle.std.proofs.lemmas.List.Elements.{All-head, All-tail}
use Rattle.std.proofs.lemmas.Str.{IsUtf8-append, IsUtf8-nil}
use Rattle.json.proofs.Printed.Utf8.{IsUtf8-are_ascii}
use Rattle.cidr_bits.specs.Laws.{BlockIsSpelled, BlockOfIsTheForm}
use Rattle.intervals.specs.declared.compare.Compare as compare
use Rattle.intervals.specs.declared.compare.Compare.TheVariants as how
use Rattle.wildcard_lang.specs.declared.piece.Piece.{Piece}
use Rattle.wildcard_lang.specs.declared.piece.Piece.TheVariants.{Many}
use Rattle.wildcard_lang.specs.Patterns.{IsPattern}
use Rattle.wildcard_lang.specs.WrittenAgain.{IsArnOf, IsGlobOf, IsLiteralOf}
use Rattle.policy_model.specs.declared.cond.Cond.{Cond}
use Rattle.policy_model.specs.declared.cond.Cond.TheVariants.{Matches, Compares, Inside, Flag, Equals}
use Rattle.policy_model.specs.declared.operator.Base.TheVariants as base
use Rattle.policy_model.specs.declared.operator.Condition.{Condition}
use Rattle.policy_model.specs.declared.operator.Operand.TheVariants as operand
use Rattle.policy_model.specs.declared.operator.Quantifier.TheVariants.{Plain, ForAny}
use Rattle.policy_model.specs.declared.principal.Entry.{Entry}
use Rattle.policy_model.specs.declared.principal.Entry.TheVariants as entry
use Rattle.policy_model.specs.declared.schema.Schema.{Schema}
use Rattle.policy_model.specs.declared.test.Slot.{Slot}
use Rattle.policy_model.specs.declared.test.Slot.TheVariants as slot
use Rattle.policy_json.specs.declared.statement.TheConstants.{MOST_STATEMENTS}
use Rattle.policy_json.specs.OperatorNames.{OperatorsAreNamed, base_text, operator_text, operator_with, quantifier_text}
use Rattle.policy_json.specs.ReadForms.{IsReadAction, IsReadEntry, IsReadResource}
use Rattle.strata.specs.declared.predicate.Predicate.{Predicate}
use Rattle.strata.specs.declared.predicate.Predicate.TheVariants.{Every, Principal, Word, Meets}
use Rattle.strata.specs.declared.stratum.Stratum.{Stratum}
use Rattle.strata.specs.Covers.{predicate_at}
use Rattle.findings.specs.Texts.{is_narrow_wildcard, takes_either_case}
use Rattle.read_predicates.specs.Laws.{PredicatesAreOfWrittenForms}
use Rattle.read_predicates.specs.WrittenForms.{AreOfWrittenForms, IsWrittenCond, IsWrittenForm, IsWrittenOf}
use Rattle.policy_emit.specs.declared.part.Part.TheVariants as part
use Rattle.policy_emit.specs.Emitted.{action_of_finding, cond_base, cond_operands, condition_on, conditions_in, emitted_statement, entry_in, entry_of_finding, has_several, key_conditions, key_quantifier, numeric_base, pattern_in, predicate_of, resource_of_finding, statement_data, truths_of}
use Rattle.policy_emit.specs.Kept.{ConditionIsKept, EntryIsKept, OperandIsKept, StatementIsKept}
use Rattle.policy_emit.specs.Laws.{EmittedPoliciesAreRead}
use Rattle.policy_emit.specs.Written.{entry_element}
use Rattle.policy_emit.proofs.Allowing.{all-apart}
use Rattle.policy_emit.proofs.Blocks.{AllAgain, AreAgain, IsAgain}
use Rattle.policy_emit.proofs.Documents.{AreStatementsOf, IsStatementOf, document-read}
use Rattle.policy_emit.proofs.Lying.{AllHave, AreApart, HasPart, others-all, predicate-has}
use Rattle.policy_emit.proofs.Operands.{IsNumeric, IsOperandAgain, arn-again, block-again, bytes-again, fold-again, like-again, number-again, truth-again}
use Rattle.policy_emit.proofs.Placing.{ordered-back}
use Rattle.policy_emit.proofs.Statements.{IsStatementAgain, statement-passes, statement-shallow, statement-spelled, statement-stands}

-- what lower crates say
pub record Known : Type 0 where
  pub operators : OperatorsAreNamed
  pub form : BlockOfIsTheForm
  pub spelled : BlockIsSpelled
  pub predicates : PredicatesAreOfWrittenForms

-- ---- the values of a condition

classed-again : (narrow either : Bool) (p : List Piece) → IsPattern p → MatchBool narrow (IsArnOf true p) (MatchBool either (IsLiteralOf true true p) (IsGlobOf false true p)) →
    IsOperandAgain (if narrow then base.ArnLike else (if either then base.StringEqualsIgnoreCase else base.StringLike)) (operand.Pattern p)
classed-again true either p pattern classed = arn-again p pattern classed
classed-again false true p pattern classed = fold-again p pattern classed
classed-again false false p pattern classed = like-again p pattern classed

numeric : (c : compare.Compare) → IsNumeric (numeric_base c)
numeric how.Equal = tt
numeric how.Less = tt
numeric how.LessOrEqual = tt
numeric how.Greater = tt
numeric how.GreaterOrEqual = tt

truths-again : (at_true at_false : Bool) → AreAgain base.Bool (truths_of at_true at_false)
truths-again true true = (truth-again true, (truth-again false, tt))
truths-again true false = (truth-again true, tt)
truths-again false true = (truth-again false, tt)
truths-again false false = tt

module _ (known : Known) where
  values-again : (c : Cond) → IsWrittenCond c → Each OperandIsKept (cond_operands c) → AreAgain (cond_base c) (cond_operands c)
  values-again (Matches p) written kept = (classed-again (list_any is_narrow_wildcard p) (list_any takes_either_case p) p (All-head OperandIsKept (operand.Pattern p) [] kept) written.classed, tt)
  values-again (Compares c bound) written kept = (number-again (numeric_base c) bound written (numeric c), tt)
  values-again (Inside own) written kept = (block-again known.form known.spelled own written, tt)
  values-again (Flag at_true at_false) written kept = truths-again at_true at_false
  values-again (Equals bytes) written kept = (bytes-again bytes written, tt)

-- ---- the operator

pattern-utf8 : (narrow either : Bool) → IsUtf8 (base_text (if narrow then base.ArnLike else (if either then base.StringEqualsIgnoreCase else base.StringLike)))
pattern-utf8 true either = IsUtf8-are_ascii (codes "ArnLike") refl
pattern-utf8 false true = IsUtf8-are_ascii (codes "StringEqualsIgnoreCase") refl
pattern-utf8 false false = IsUtf8-are_ascii (codes "StringLike") refl

numeric-utf8 : (c : compare.Compare) → IsUtf8 (base_text (numeric_base c))
numeric-utf8 how.Equal = IsUtf8-are_ascii (codes "NumericEquals") refl
numeric-utf8 how.Less = IsUtf8-are_ascii (codes "NumericLessThan") refl
numeric-utf8 how.LessOrEqual = IsUtf8-are_ascii (codes "NumericLessThanEquals") refl
numeric-utf8 how.Greater = IsUtf8-are_ascii (codes "NumericGreaterThan") refl
numeric-utf8 how.GreaterOrEqual = IsUtf8-are_ascii (codes "NumericGreaterThanEquals") refl

base-utf8 : (c : Cond) → IsUtf8 (base_text (cond_base c))
base-utf8 (Matches p) = pattern-utf8 (list_any is_narrow_wildcard p) (list_any takes_either_case p)
base-utf8 (Compares c bound) = numeric-utf8 c
base-utf8 (Inside own) = IsUtf8-are_ascii (codes "IpAddress") refl
base-utf8 (Flag at_true at_false) = IsUtf8-are_ascii (codes "Bool") refl
base-utf8 (Equals bytes) = IsUtf8-are_ascii (codes "BinaryEquals") refl

prefix-utf8 : (several : Bool) → IsUtf8 (quantifier_text (if several then ForAny else Plain))
prefix-utf8 true = IsUtf8-are_ascii (codes "ForAnyValue:") refl
prefix-utf8 false = IsUtf8-nil

asks-pattern : (narrow either : Bool) → (if narrow then base.ArnLike else (if either then base.StringEqualsIgnoreCase else base.StringLike)) ≢ base.Null
asks-pattern true either = λ e. cc
asks-pattern false true = λ e. cc
asks-pattern false false = λ e. cc

asks-number : (c : compare.Compare) → numeric_base c ≢ base.Null
asks-number how.Equal = λ e. cc
asks-number how.Less = λ e. cc
asks-number how.LessOrEqual = λ e. cc
asks-number how.Greater = λ e. cc
asks-number how.GreaterOrEqual = λ e. cc

asks-values : (c : Cond) → cond_base c ≢ base.Null
asks-values (Matches p) = asks-pattern (list_any is_narrow_wildcard p) (list_any takes_either_case p)
asks-values (Compares c bound) = asks-number c
asks-values (Inside own) = λ e. cc
asks-values (Flag at_true at_false) = λ e. cc
asks-values (Equals bytes) = λ e. cc

-- ---- conditions

module _ (known : Known) (schema : Schema) where
  condition-again : (key : List ℕ) (c : Cond) → IsWrittenOf key c → ConditionIsKept (condition_on schema key c) → IsAgain (condition_on schema key c)
  condition-again key c written kept =
      let o = operator_with (cond_base c) (key_quantifier schema key) false in record {
        operator = (known.operators (operator_text o) o).1 (refl, λ e. absurd (asks-values c e));
        operator_utf8 =
            IsUtf8-append (quantifier_text (key_quantifier schema key)) (base_text (cond_base c) ++ []) (prefix-utf8 (has_several schema key))
            (IsUtf8-append (base_text (cond_base c)) [] (base-utf8 c) IsUtf8-nil);
        same = refl;
        text = kept.key;
        folded = written.folded;
        values = values-again known c written.cond kept.values;
      }

  dimension-again : (s : Slot) (p : Predicate) (cs : List Condition) → IsWrittenForm s p → Each ConditionIsKept (key_conditions schema s p ++ cs) → (Each ConditionIsKept cs → AllAgain cs) → AllAgain (key_conditions schema s p ++ cs)
  dimension-again slot.Principal p cs written kept later = later kept
  dimension-again slot.Action p cs written kept later = later kept
  dimension-again slot.Resource p cs written kept later = later kept
  dimension-again (slot.Key key) Every cs written kept later = later kept
  dimension-again (slot.Key key) (Principal e) cs written kept later = absurd written
  dimension-again (slot.Key key) (Word pattern) cs written kept later = absurd written
  dimension-again (slot.Key key) (Meets c) cs written kept later = (
    condition-again key c written (All-head ConditionIsKept (condition_on schema key c) cs kept),
    later (All-tail ConditionIsKept (condition_on schema key c) cs kept),
  )

  conditions-again : (ds : List Stratum) (f : List ℕ) → AllHave IsWrittenForm ds → Each ConditionIsKept (conditions_in schema ds f) → AllAgain (conditions_in schema ds f)
  conditions-again [] f written kept = tt
  conditions-again (d ∷ ds) [] written kept = tt
  conditions-again (d ∷ ds) (n ∷ f) written kept = dimension-again d.slot (predicate_at d.predicates n) (conditions_in schema ds f) (written.0 n) kept (conditions-again ds f written.1)

-- ---- the elements

star-action : IsReadAction (Many ∷ [])
star-action = record { glob = (42 ∷ [], refl); few = omega arith }

star-resource : IsReadResource (Many ∷ [])
star-resource = record { glob = (42 ∷ [], refl); few = omega arith }

action-read : (asked : Option Predicate) → HasPart IsWrittenForm part.Action asked → IsReadAction (pattern_in asked)
action-read None written = star-action
action-read (Some Every) written = star-action
action-read (Some (Principal e)) written = absurd written
action-read (Some (Word pattern)) written = written
action-read (Some (Meets c)) written = absurd written

resource-read : (asked : Option Predicate) → HasPart IsWrittenForm part.Resource asked → IsReadResource (pattern_in asked)
resource-read None written = star-resource
resource-read (Some Every) written = star-resource
resource-read (Some (Principal e)) written = absurd written
resource-read (Some (Word pattern)) written = written
resource-read (Some (Meets c)) written = absurd written

entry-read : (asked : Option Predicate) → HasPart IsWrittenForm part.Principal asked → IsReadEntry (entry_in asked)
entry-read None written = tt
entry-read (Some Every) written = tt
entry-read (Some (Principal e)) written = written.read
entry-read (Some (Word pattern)) written = absurd written
entry-read (Some (Meets c)) written = absurd written

entry-kept : (e : Entry) → IfSome (entry_element e) (λ m. Each EntryIsKept m.items) → EntryIsKept e
entry-kept entry.All kept = tt
entry-kept (entry.Kind kind) kept = tt
entry-kept (entry.Account account) kept = All-head EntryIsKept (entry.Account account) [] kept
entry-kept (entry.Exact kind id) kept = All-head EntryIsKept (entry.Exact kind id) [] kept

-- ---- statements

module _ (known : Known) (schema : Schema) (ds : List Stratum) (written : AllHave IsWrittenForm ds) (apart : AreApart ds) where
  statement-again : (f : List ℕ) → StatementIsKept (emitted_statement schema ds f) → IsStatementAgain (action_of_finding ds f) (resource_of_finding ds f) (entry_of_finding ds f) (conditions_in schema ds f)
  statement-again f kept = record {
    action_read = action-read (predicate_of part.Action ds f) (predicate-has IsWrittenForm part.Action ds f written);
    action_kept = All-head IsPattern (action_of_finding ds f) [] kept.action;
    resource_read = resource-read (predicate_of part.Resource ds f) (predicate-has IsWrittenForm part.Resource ds f written);
    resource_kept = All-head IsPattern (resource_of_finding ds f) [] kept.resource;
    entry_read = entry-read (predicate_of part.Principal ds f) (predicate-has IsWrittenForm part.Principal ds f written);
    entry_kept = entry-kept (entry_of_finding ds f) kept.principal;
    conditions = conditions-again known schema ds f written (ordered-back ConditionIsKept (conditions_in schema ds f) (others-all schema ds f apart) kept.conditions);
  }

  statement-of : (f : List ℕ) → StatementIsKept (emitted_statement schema ds f) → IsStatementOf (statement_data schema ds f) (emitted_statement schema ds f)
  statement-of f kept =
      let again = statement-again f kept in
      let a = action_of_finding ds f in
      let r = resource_of_finding ds f in
      let e = entry_of_finding ds f in
      let cs = conditions_in schema ds f in record {
        stands = statement-stands a r e cs again;
        passes = λ document statement in_set few. statement-passes a r e cs again (record { document = document; statement = statement }) in_set few;
        spelled = statement-spelled a r e cs again;
        shallow = statement-shallow a r e cs again;
      }

  statements-of : (fs : List (List ℕ)) → Each (λ f. StatementIsKept (emitted_statement schema ds f)) fs → AreStatementsOf (map (statement_data schema ds) fs) (map (emitted_statement schema ds) fs)
  statements-of [] kept = tt
  statements-of (f ∷ fs) kept = (
    statement-of f (All-head (λ g. StatementIsKept (emitted_statement schema ds g)) f fs kept),
    statements-of fs (All-tail (λ g. StatementIsKept (emitted_statement schema ds g)) f fs kept),
  )

-- ---- strata of a set from a file

written-at : (s : Slot) (ps : List Predicate) → Each (IsWrittenForm s) ps → (n : ℕ) → IsWrittenForm s (predicate_at ps n)
written-at s ps all n = elim (cases_lt n (length ps)) [
  | inl within ↦ all n Every within
  | inr past ↦ subst (IsWrittenForm s) (sym (get_or_past ps n Every past)) tt
]

written-all : (ds : List Stratum) → AreOfWrittenForms ds → AllHave IsWrittenForm ds
written-all [] all = tt
written-all (d ∷ ds) all = (
  written-at d.slot d.predicates (All-head (λ x. Each (IsWrittenForm x.slot) x.predicates) d ds all),
  written-all ds (All-tail (λ x. Each (IsWrittenForm x.slot) x.predicates) d ds all),
)

pub policies-read : Known → EmittedPoliciesAreRead
policies-read known = λ schema strata fs few kept made.
    let ds = strata.dimensions in
    let written = written-all ds (known.predicates schema strata made) in
    let apart = all-apart ds (subst (λ (slots : List Slot). AllPairs (λ s t. s ≢ t) slots) (sym made.made.are.on) made.made.differ) in
    let count : length (map (statement_data schema ds) fs) ≤ MOST_STATEMENTS = omega (arith, few, length-map fs (statement_data schema ds)) in
    document-read (map (statement_data schema ds) fs) (map (emitted_statement schema ds) fs) count (statements-of known schema ds written apart fs kept)
