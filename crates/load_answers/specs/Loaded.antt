-- What a load may print: the comparisons and the summary of two sets of a size that is asked for.
use Rattle.std.specs.Prelude.{◌≡◌, ◌==◌, ◌⊎◌, ◌++◌, ℕ, List, [], ◌∷◌, false, String, string_bytes, if◌then◌else◌, codes, decimal}
use Rattle.command_words.specs.declared.limits.TheConstants.{DEFAULT_SPLITS, DEFAULT_STATES, DEFAULT_FINDINGS}
use Rattle.policy_load.specs.Loads.{first_load, second_load}
use Rattle.policy_model.specs.declared.schema.Schema.{Schema}
use Rattle.policy_model.specs.declared.set.PolicySet.{PolicySet}
use Rattle.request_schema.specs.BuiltIn.{built_in_schema}
use Rattle.summary_search.specs.declared.outcome.Limits.{Limits}
use Rattle.tree_search.specs.declared.outcome.Budgets.{Budgets}
use Rattle.std.specs.declared.alloc.Global.{Global}
use Rattle.run_inputs.specs.declared.printed.Printed.{Printed}
use Rattle.run_inputs.specs.declared.status.Status.TheVariants.{Holds}
use Rattle.run_inputs.specs.Printing.{PrintsText}
use Rattle.run_inputs.specs.OneSets.{IsSetRunRefusal, SomeSetRun}
use Rattle.run_inputs.specs.Pairs.{IsPairRunRefusal, SomePairRun}
use Rattle.run_inputs.specs.Refusals.{IsRefusedBy}
use Rattle.compare_answers.specs.Printed.{IsPairPrinted}
use Rattle.strata.specs.declared.names.TheConstants.{MOST_PREDICATES}
use Rattle.summary_answers.specs.Printed.{IsSubjectPrinted, always_holds}
use Rattle.summary_answers.specs.Subjects.{subject_of_set}
use Rattle.load_answers.specs.declared.loading.LoadLines.{LoadLines}

-- the text up to its first line feed
abbrev pub line_of : List ℕ → List ℕ
line_of [] = []
line_of (b ∷ bs) = (if b == 10 then [] else b ∷ line_of bs)

-- the budgets of a comparison that names no others
abbrev pub default_budgets : Budgets
default_budgets = record { splits = DEFAULT_SPLITS; states = DEFAULT_STATES }

-- and those of a summary
abbrev pub default_limits : Limits
default_limits = record { splits = DEFAULT_SPLITS; predicates = MOST_PREDICATES; states = DEFAULT_STATES; findings = DEFAULT_FINDINGS }

-- the first key, by which the first set is summarised
abbrev pub first_key : List (List ℕ)
first_key = codes "load:k001" ∷ []

-- what may be printed to a comparison of two sets under named keys that asks for no certificate and names no budget: the first condition
-- that the run has no schema for, or what may be printed of the pair
abbrev pub ComparesSets : Schema → PolicySet → PolicySet → Printed → Type 0
ComparesSets named one two p =
    IsRefusedBy (IsPairRunRefusal named one two) p ⊎ SomePairRun named one two (λ pair. IsPairPrinted false default_budgets pair p)

-- the same to a summary of a set by the first key that names no budget
abbrev pub SummarisesFirst : Schema → PolicySet → Printed → Type 0
SummarisesFirst named set p =
    IsRefusedBy (IsSetRunRefusal named set) p
    ⊎ SomeSetRun named set (λ one. IsSubjectPrinted always_holds first_key default_limits (subject_of_set one) p)

-- the text is the first line of one that may be printed
pub record IsLineFor (may : Printed → Type 0) (line : String Global) : Type 0 where
  pub printed : Printed
  pub said : may printed
  pub is : string_bytes line ≡ line_of (string_bytes printed.text)

-- the lines of the two sets of so many keys, under the built-in keys: of the comparison of the first with the second, of that of the
-- second with the first, and of the summary of the first
pub record IsLoaded (keys : ℕ) (lines : LoadLines) : Type 0 where
  pub count : lines.keys ≡ keys
  pub forth : IsLineFor (ComparesSets built_in_schema (first_load keys) second_load) lines.forth
  pub back : IsLineFor (ComparesSets built_in_schema second_load (first_load keys)) lines.back
  pub summary : IsLineFor (SummarisesFirst built_in_schema (first_load keys)) lines.summary

-- the line on the number of keys
abbrev pub keys_line : ℕ → List ℕ
keys_line keys = codes "load " ++ decimal keys ++ codes "\n"

-- the line of the comparison of the first set with the second, and that of the second with the first
abbrev pub forth_line : List ℕ → List ℕ
forth_line line = codes "first to second: " ++ line ++ codes "\n"

abbrev pub back_line : List ℕ → List ℕ
back_line line = codes "second to first: " ++ line ++ codes "\n"

-- the lines of a load
abbrev pub load_text : LoadLines → List ℕ
load_text lines =
    ((keys_line lines.keys ++ forth_line (string_bytes lines.forth)) ++ back_line (string_bytes lines.back))
    ++ (string_bytes lines.summary ++ codes "\n")

-- what may be printed to a load of so many keys
pub record IsLoadPrinted (keys : ℕ) (p : Printed) : Type 0 where
  pub lines : LoadLines
  pub loaded : IsLoaded keys lines
  pub prints : PrintsText (load_text lines) Holds p
