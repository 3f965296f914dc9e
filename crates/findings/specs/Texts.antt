-- The texts of predicates and findings.
use Rattle.std.specs.Prelude.{ℕ, List, [], ◌∷◌, ◌++◌, map, codes, Bool, true, false, if◌then◌else◌}
use Rattle.std.specs.List.{list_any}
use Rattle.std.specs.Str.{encode_utf8_all}
use Rattle.serde_json.specs.Data.{Data, array, string}
use Rattle.serde_json.specs.View.{items_of}
use Rattle.serde_json.specs.Written.{compact_text}
use Rattle.base64.specs.Engines.{standard}
use Rattle.base64.specs.GeneralPurpose.{encode_of}
use Rattle.cidr_bits.specs.Texts.{block_text}
use Rattle.intervals.specs.DecimalTexts.{written_decimal}
use Rattle.intervals.specs.declared.compare.Compare.{Compare}
use Rattle.intervals.specs.declared.compare.Compare.TheVariants.{Equal, Less, LessOrEqual, Greater, GreaterOrEqual}
use Rattle.wildcard_lang.specs.declared.piece.Piece.{Piece}
use Rattle.wildcard_lang.specs.declared.piece.Piece.TheVariants.{Lit, LitFold, One, Many, OneNoColon, ManyNoColon}
use Rattle.wildcard_lang.specs.Writing.{written_form}
use Rattle.policy_model.specs.Principals.{kind_word}
use Rattle.policy_model.specs.declared.cond.Cond.{Cond}
use Rattle.policy_model.specs.declared.cond.Cond.TheVariants.{Matches, Compares, Inside, Flag, Equals}
use Rattle.policy_model.specs.declared.principal.Entry.{Entry}
use Rattle.policy_model.specs.declared.principal.Entry.TheVariants.{All, Kind, Account, Exact}
use Rattle.strata.specs.declared.predicate.Predicate.{Predicate}
use Rattle.strata.specs.declared.predicate.Predicate.TheVariants.{Every, Principal, Word, Meets}
use Rattle.strata.specs.declared.stratum.Stratum.{Stratum}
use Rattle.strata.specs.Covers.{predicate_at}

-- an entry: every principal, those of an account, those of a kind, or one by its kind and id
abbrev pub entry_text : Entry → List ℕ
entry_text All = codes "any"
entry_text (Account account) = codes "account " ++ encode_utf8_all account
entry_text (Kind kind) = codes "kind " ++ kind_word kind
entry_text (Exact kind id) = kind_word kind ++ codes " " ++ encode_utf8_all id

-- a wildcard that takes no colon
abbrev pub is_narrow_wildcard : Piece → Bool
is_narrow_wildcard (Lit c) = false
is_narrow_wildcard (LitFold c) = false
is_narrow_wildcard One = false
is_narrow_wildcard Many = false
is_narrow_wildcard OneNoColon = true
is_narrow_wildcard ManyNoColon = true

-- a letter that is taken in either case
abbrev pub takes_either_case : Piece → Bool
takes_either_case (Lit c) = false
takes_either_case (LitFold c) = true
takes_either_case One = false
takes_either_case Many = false
takes_either_case OneNoColon = false
takes_either_case ManyNoColon = false

-- `arn` where a wildcard takes no colon, else `fold` where a letter is taken in either case, else `like`
abbrev pub pattern_word : List Piece → List ℕ
pattern_word ps =
    (if list_any is_narrow_wildcard ps then codes "arn "
    else (if list_any takes_either_case ps then codes "fold " else codes "like "))

abbrev pub pattern_text : List Piece → List ℕ
pattern_text ps = pattern_word ps ++ encode_utf8_all (written_form ps)

abbrev pub compare_word : Compare → List ℕ
compare_word Equal = codes "= "
compare_word Less = codes "< "
compare_word LessOrEqual = codes "<= "
compare_word Greater = codes "> "
compare_word GreaterOrEqual = codes ">= "

-- the truth values that a flag takes
abbrev pub flag_text : Bool → Bool → List ℕ
flag_text true true = codes "is true or false"
flag_text true false = codes "is true"
flag_text false true = codes "is false"
flag_text false false = codes "is neither"

-- what is asked of a value
abbrev pub cond_text : Cond → List ℕ
cond_text (Matches pattern) = pattern_text pattern
cond_text (Compares compare bound) = compare_word compare ++ written_decimal bound
cond_text (Inside block) = codes "in " ++ block_text block.first block.prefix
cond_text (Flag at_true at_false) = flag_text at_true at_false
cond_text (Equals bytes) = codes "bytes " ++ encode_of standard bytes

abbrev pub predicate_text : Predicate → List ℕ
predicate_text Every = codes "any"
predicate_text (Principal entry) = entry_text entry
predicate_text (Word pattern) = pattern_text pattern
predicate_text (Meets c) = cond_text c

-- the text of the predicate of a number
abbrev pub number_text : Stratum → ℕ → List ℕ
number_text d n = predicate_text (predicate_at d.predicates n)

-- the texts of a finding's predicates, in the order of the dimensions
abbrev pub predicate_texts : List Stratum → List ℕ → List (List ℕ)
predicate_texts [] f = []
predicate_texts (d ∷ ds) [] = []
predicate_texts (d ∷ ds) (n ∷ f) = number_text d n ∷ predicate_texts ds f

-- a finding as a list of texts in JSON (RFC 8259)
abbrev pub finding_data : List Stratum → List ℕ → Data
finding_data ds f = array (items_of (map string (predicate_texts ds f)))

abbrev pub finding_text : List Stratum → List ℕ → List ℕ
finding_text ds f = compact_text (finding_data ds f)
