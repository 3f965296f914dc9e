-- The forms of the sets that files stand for. This says more than that the set is sound, and less than which file it was.
use Rattle.std.specs.Prelude.{◌≡◌, ◌≢◌, ◌≤◌, ◌+◌, ◌⊎◌, ⊤, ℕ, ℤ, List, [], length, sum_by, true, false, Some, Ok, IfSome, All as Each}
use Rattle.base64.specs.Engines.{standard}
use Rattle.base64.specs.GeneralPurpose.{decoded_of}
use Rattle.wildcard_lang.specs.declared.pattern.TheConstants.{MOST_PIECES}
use Rattle.wildcard_lang.specs.declared.piece.Piece.{Piece}
use Rattle.wildcard_lang.specs.WrittenAgain.{IsArnOf, IsGlobOf, IsLiteralOf}
use Rattle.intervals.specs.Scaled.{whole_units}
use Rattle.intervals.specs.DecimalTexts.{decimal_of}
use Rattle.intervals.specs.MomentTexts.{moment_of}
use Rattle.cidr_bits.specs.Readings.{block_spelled}
use Rattle.policy_model.specs.Operators.{family_of}
use Rattle.policy_model.specs.Soundness.{ConditionIsSound, IsAccount}
use Rattle.policy_model.specs.declared.operator.Base.{Base}
use Rattle.policy_model.specs.declared.operator.Base.TheVariants as base
use Rattle.policy_model.specs.declared.operator.Family.{Family}
use Rattle.policy_model.specs.declared.operator.Family.TheVariants as family
use Rattle.policy_model.specs.declared.operator.Operand.{Operand}
use Rattle.policy_model.specs.declared.operator.Operand.TheVariants as operand
use Rattle.policy_model.specs.declared.operator.Condition.{Condition}
use Rattle.policy_model.specs.declared.principal.Entry.{Entry}
use Rattle.policy_model.specs.declared.principal.Entry.TheVariants.{All, Kind, Account, Exact}
use Rattle.policy_model.specs.declared.principal.PrincipalKind.{PrincipalKind}
use Rattle.policy_model.specs.declared.principal.PrincipalKind.TheVariants.{Aws}
use Rattle.policy_model.specs.declared.set.Statement.{Statement}
use Rattle.policy_model.specs.declared.set.Document.{Document}
use Rattle.policy_model.specs.declared.set.PolicySet.{PolicySet}
use Rattle.policy_json.specs.Laws.{StandsForAccount}
use Rattle.policy_json.specs.Principals.{has_wildcard}
use Rattle.policy_json.specs.Sets.{set_from}
use Rattle.policy_json.specs.declared.document.TheConstants.{MOST_DOCUMENTS}
use Rattle.policy_json.specs.declared.set.TheConstants.{MOST_GUARDS}
use Rattle.policy_json.specs.declared.statement.TheConstants.{MOST_STATEMENTS}

-- ---- principals

-- an exact id: not empty, without `*` and `?`, and under `AWS` no spelling of an account
pub record IsReadId (kind : PrincipalKind) (id : List ℕ) : Type 0 where
  pub nonempty : id ≢ []
  pub plain : has_wildcard id ≡ false
  pub short : length id ≤ MOST_PIECES
  pub no_account : kind ≡ Aws → (account : List ℕ) → ¬ StandsForAccount account id

-- a kind of principals is another than `AWS`, under which `*` is every principal
abbrev pub IsReadEntry : Entry → Type 0
IsReadEntry All = ⊤
IsReadEntry (Kind kind) = kind ≢ Aws
IsReadEntry (Account account) = IsAccount account
IsReadEntry (Exact kind id) = IsReadId kind id

-- ---- patterns

-- a pattern of actions: some text stands for it, in which letters are folded and `${` is plain
pub record IsReadAction (p : List Piece) : Type 0 where
  pub glob : IsGlobOf true false p
  pub few : length p ≤ MOST_PIECES

-- a pattern of resources: some text with escapes stands for it
pub record IsReadResource (p : List Piece) : Type 0 where
  pub glob : IsGlobOf false true p
  pub few : length p ≤ MOST_PIECES

-- a pattern under an operator: some text with escapes stands for it, as the operator reads texts
abbrev pub IsPatternOf : Base → List Piece → Type 0
IsPatternOf base.StringEquals p = IsLiteralOf false true p
IsPatternOf base.StringNotEquals p = IsLiteralOf false true p
IsPatternOf base.StringEqualsIgnoreCase p = IsLiteralOf true true p
IsPatternOf base.StringNotEqualsIgnoreCase p = IsLiteralOf true true p
IsPatternOf base.StringLike p = IsGlobOf false true p
IsPatternOf base.StringNotLike p = IsGlobOf false true p
IsPatternOf base.ArnEquals p = IsArnOf true p
IsPatternOf base.ArnNotEquals p = IsArnOf true p
IsPatternOf base.ArnLike p = IsArnOf true p
IsPatternOf base.ArnNotLike p = IsArnOf true p
IsPatternOf b p = ⊥

-- ---- values of conditions

-- a whole number less than 10^18 in size stands for these units
abbrev pub IsWhole : ℤ → Type 0
IsWhole units = (n : ℤ) × (whole_units n ≡ Some units)

-- a number, and of dates a moment: some text of its form stands for it, or a whole number does
abbrev pub IsReadNumber : Family → ℤ → Type 0
IsReadNumber family.Date units = ((text : List ℕ) × (moment_of text ≡ Some units)) ⊎ IsWhole units
IsReadNumber f units = ((text : List ℕ) × (decimal_of text ≡ Some units)) ⊎ IsWhole units

-- a value under an operator, whose family it has: some text stands for it, or the value itself does
abbrev pub IsReadOperand : Base → Operand → Type 0
IsReadOperand b (operand.Pattern p) = IsPatternOf b p × (length p ≤ MOST_PIECES)
IsReadOperand b (operand.Number units) = IsReadNumber (family_of b) units
IsReadOperand b (operand.Block block) = (text : List ℕ) × (block_spelled text ≡ Some block)
IsReadOperand b (operand.Truth t) = ⊤
IsReadOperand b (operand.Bytes bytes) = (text : List ℕ) × (decoded_of standard text ≡ Some bytes)

pub record IsReadCondition (c : Condition) : Type 0 where
  pub sound : ConditionIsSound c
  pub values : Each (IsReadOperand c.operator.base) c.values

-- ---- sets

pub record IsReadStatement (s : Statement) : Type 0 where
  pub principal : IfSome s.principal (λ m. Each IsReadEntry m.items)
  pub action : Each IsReadAction s.action.items
  pub resource : IfSome s.resource (λ m. Each IsReadResource m.items)
  pub conditions : Each IsReadCondition s.conditions

-- each statement of the documents is of these forms
abbrev pub AreReadDocuments : List Document → Type 0
AreReadDocuments documents = Each (λ d. Each IsReadStatement d.statements) documents

-- how many documents, and how many statements, stand in lists of documents
abbrev pub document_count : List (List Document) → ℕ
document_count lists = sum_by (λ documents. length documents) lists

abbrev pub statements_among : List Document → ℕ
statements_among documents = sum_by (λ d. length d.statements) documents

abbrev pub statement_total : List (List Document) → ℕ
statement_total lists = sum_by statements_among lists

-- a set that some file may stand for: at most 32 documents with at most 2,000 statements, of these forms, and at most 16 guards
pub record IsReadForm (set : PolicySet) : Type 0 where
  pub documents : length set.grants + document_count set.guards ≤ MOST_DOCUMENTS
  pub statements : statements_among set.grants + statement_total set.guards ≤ MOST_STATEMENTS
  pub guards : length set.guards ≤ MOST_GUARDS
  pub granting : AreReadDocuments set.grants
  pub guarding : Each AreReadDocuments set.guards

-- the set of a file is one
abbrev pub ReadSetsAreOfForms : Type 0
ReadSetsAreOfForms = (bytes : List ℕ) (set : PolicySet) → set_from bytes ≡ Ok set → IsReadForm set

-- ---- the limits as numbers: documents, guards and statements of a set, and characters of an id
abbrev pub SetLimits : Type 0
SetLimits = (MOST_DOCUMENTS ≡ 32) × (MOST_GUARDS ≡ 16) × (MOST_STATEMENTS ≡ 2000) × (MOST_PIECES ≡ 2048)
