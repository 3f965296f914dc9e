-- What the words of a command line ask for.
use Rattle.std.specs.Prelude.{◌≡◌, ◌≤◌, ◌&&◌, ⊤, ℕ, List, [], ◌∷◌, map, find, length, nat_lt, Bool, true, false, not, if◌then◌else◌}
use Rattle.std.specs.Prelude.{Option, Some, None, option_and_then, option_map, unwrap_or, String, string_bytes, codes}
use Rattle.std.specs.Char.{to_ascii_lowercase}
use Rattle.std.specs.List.{list_any}
use Rattle.std.specs.Option.{option_map_or}
use Rattle.std.specs.Str.{bytes_eq}
use Rattle.std.specs.Str.Parse.{digits_value, without_leading_plus}
use Rattle.clap.specs.Words.{App, Kinds, Row, Text, all_of, fault_of, first_of, matches_of, one_of}
use Rattle.command_words.specs.Forms.{check_form, check_new_access_form, check_summary_form, compare_form, emit_form, eval_form}
use Rattle.command_words.specs.Forms.{idle_form, load_form, new_access_form, reach_form, summary_form}
use Rattle.command_words.specs.declared.asked.CheckArguments.{CheckArguments}
use Rattle.command_words.specs.declared.asked.CheckSummaryArguments.{CheckSummaryArguments}
use Rattle.command_words.specs.declared.asked.Command.{Command}
use Rattle.command_words.specs.declared.asked.Command.TheVariants.{Compare, Check, Summary, Eval, Load, Idle, Reach, Emit, CheckSummary, NewAccess, CheckNewAccess, MisusedNewAccess}
use Rattle.command_words.specs.declared.asked.CompareArguments.{CompareArguments}
use Rattle.command_words.specs.declared.asked.EvalArguments.{EvalArguments}
use Rattle.command_words.specs.declared.asked.FileNames.{FileNames}
use Rattle.command_words.specs.declared.asked.FindingArguments.{FindingArguments}
use Rattle.command_words.specs.declared.asked.IdleArguments.{IdleArguments}
use Rattle.command_words.specs.declared.limits.TheConstants.{MOST_SPLITS, MOST_STATES, DEFAULT_SPLITS, DEFAULT_STATES}
use Rattle.command_words.specs.declared.limits.TheConstants.{MOST_FINDINGS, DEFAULT_FINDINGS, MOST_KEYS, MOST_DIMENSIONS}

-- the names of the files of two sets, and of a schema where one is named
pub record Names : Type 0 where
  pub first : List ℕ
  pub second : List ℕ
  pub schema : Option (List ℕ)

-- a comparison: the budgets, and whether a certificate is asked for
pub record Comparing : Type 0 where
  pub names : Names
  pub splits : ℕ
  pub states : ℕ
  pub certified : Bool

-- a check of a certificate
pub record Checking : Type 0 where
  pub names : Names
  pub proof : List ℕ

-- the findings of a set: the names of the dimensions, and the budgets
pub record Summarising : Type 0 where
  pub set : List ℕ
  pub dimensions : List (List ℕ)
  pub schema : Option (List ℕ)
  pub splits : ℕ
  pub states : ℕ
  pub findings : ℕ

-- an evaluation of a request
pub record Evaluating : Type 0 where
  pub set : List ℕ
  pub request : List ℕ
  pub schema : Option (List ℕ)

-- which statements of a set are used: the budgets, and whether certificates are asked for
pub record UseQuestion : Type 0 where
  pub set : List ℕ
  pub schema : Option (List ℕ)
  pub splits : ℕ
  pub states : ℕ
  pub certified : Bool

-- a check of a certified summary of a set: the names of the dimensions, and the states of their predicates
pub record SummaryCheck : Type 0 where
  pub set : List ℕ
  pub proof : List ℕ
  pub dimensions : List (List ℕ)
  pub schema : Option (List ℕ)
  pub states : ℕ

-- what is asked: one of the commands
pub data Asked : Type 0 where
  CompareCommand : Comparing → Asked
  CheckCommand : Checking → Asked
  -- the findings, and whether a certificate is asked for
  SummaryCommand : Summarising → Bool → Asked
  EvalCommand : Evaluating → Asked
  -- the comparisons and the summary of two sets of so many keys
  LoadCommand : ℕ → Asked
  IdleCommand : UseQuestion → Asked
  -- the findings outside a zone, and the name of the zone's file
  ReachCommand : Summarising → List ℕ → Asked
  -- the findings that a policy is written from
  EmitCommand : Summarising → Asked
  CheckSummaryCommand : SummaryCheck → Asked
  -- the findings of what the set allows and a second set doesn't, the name of the second's file, and whether a certificate is asked for
  NewAccessCommand : Summarising → List ℕ → Bool → Asked
  -- a check of them
  CheckNewAccessCommand : SummaryCheck → List ℕ → Asked
  -- the line that says how these two are called: one of them is named, and the other words aren't such
  NewAccessUsage : Asked

-- ---- the same, of owned names

abbrev pub names_in : FileNames → Names
names_in n = record {
  first = string_bytes n.first;
  second = string_bytes n.second;
  schema = option_map (λ name. string_bytes name) n.schema;
}

abbrev pub comparing_in : CompareArguments → Comparing
comparing_in c = record {
  names = names_in c.names;
  splits = c.splits;
  states = c.states;
  certified = c.certified;
}

abbrev pub checking_in : CheckArguments → Checking
checking_in c = record { names = names_in c.names; proof = string_bytes c.proof }

-- the texts of the words
abbrev pub texts_in : {Z : Type 0} → List (String Z) → List Text
texts_in words = map (λ word. string_bytes word) words

abbrev pub summarising_in : FindingArguments → Summarising
summarising_in s = record {
  set = string_bytes s.set;
  dimensions = texts_in s.dimensions.items;
  schema = option_map (λ name. string_bytes name) s.schema;
  splits = s.splits;
  states = s.states;
  findings = s.findings;
}

abbrev pub evaluating_in : EvalArguments → Evaluating
evaluating_in e = record {
  set = string_bytes e.set;
  request = string_bytes e.request;
  schema = option_map (λ name. string_bytes name) e.schema;
}

abbrev pub use_question_in : IdleArguments → UseQuestion
use_question_in u = record {
  set = string_bytes u.set;
  schema = option_map (λ name. string_bytes name) u.schema;
  splits = u.splits;
  states = u.states;
  certified = u.certified;
}

abbrev pub summary_check_in : CheckSummaryArguments → SummaryCheck
summary_check_in c = record {
  set = string_bytes c.set;
  proof = string_bytes c.proof;
  dimensions = texts_in c.dimensions.items;
  schema = option_map (λ name. string_bytes name) c.schema;
  states = c.states;
}

abbrev pub asked_in : Command → Asked
asked_in (Compare c) = CompareCommand (comparing_in c)
asked_in (Check c) = CheckCommand (checking_in c)
asked_in (Summary s) = SummaryCommand (summarising_in s.summary) s.certified
asked_in (Eval e) = EvalCommand (evaluating_in e)
asked_in (Load keys) = LoadCommand keys
asked_in (Idle u) = IdleCommand (use_question_in u)
asked_in (Reach r) = ReachCommand (summarising_in r.summary) (string_bytes r.zone)
asked_in (Emit s) = EmitCommand (summarising_in s)
asked_in (CheckSummary c) = CheckSummaryCommand (summary_check_in c)
asked_in (NewAccess n) = NewAccessCommand (summarising_in n.summary) (string_bytes n.second) n.certified
asked_in (CheckNewAccess c) = CheckNewAccessCommand (summary_check_in c.check) (string_bytes c.second)
asked_in MisusedNewAccess = NewAccessUsage

-- ---- the dimensions of findings

-- the name with its ASCII letters lowered
abbrev pub lower_case : Text → Text
lower_case name = map to_ascii_lowercase name

-- the text is one of these
abbrev pub is_one_of : Text → List Text → Bool
is_one_of text others = list_any (λ other. bytes_eq other text) others

-- none of the texts is another one of them
abbrev pub are_distinct : List Text → Bool
are_distinct [] = true
are_distinct (text ∷ texts) = not (is_one_of text texts) && are_distinct texts

-- at most four names that differ when ASCII letters are lowered
abbrev pub are_dimensions : List Text → Bool
are_dimensions names = not (nat_lt MOST_DIMENSIONS (length names)) && are_distinct (map lower_case names)

-- ---- ranges

-- the numbers of a comparison lie in their ranges
abbrev pub HasNumbersInRange : CompareArguments → Type 0
HasNumbersInRange c = (1 ≤ c.splits) × (c.splits ≤ MOST_SPLITS) × (1 ≤ c.states) × (c.states ≤ MOST_STATES)

-- the numbers of findings lie in their ranges
abbrev pub HasBudgetsInRange : FindingArguments → Type 0
HasBudgetsInRange s = (1 ≤ s.splits) × (s.splits ≤ MOST_SPLITS) × (1 ≤ s.states) × (s.states ≤ MOST_STATES)
    × (1 ≤ s.findings) × (s.findings ≤ MOST_FINDINGS)

-- and their dimensions are such
abbrev pub AreFindingsInRange : FindingArguments → Type 0
AreFindingsInRange s = HasBudgetsInRange s × (are_dimensions (texts_in s.dimensions.items) ≡ true)

-- the numbers of a question on uses lie in their ranges
abbrev pub HasUseNumbersInRange : IdleArguments → Type 0
HasUseNumbersInRange u = (1 ≤ u.splits) × (u.splits ≤ MOST_SPLITS) × (1 ≤ u.states) × (u.states ≤ MOST_STATES)

-- the states of a check of a summary lie in their range
abbrev pub HasStatesInRange : CheckSummaryArguments → Type 0
HasStatesInRange c = (1 ≤ c.states) × (c.states ≤ MOST_STATES)

-- and its dimensions are those of findings
abbrev pub IsSummaryCheckInRange : CheckSummaryArguments → Type 0
IsSummaryCheckInRange c = HasStatesInRange c × (are_dimensions (texts_in c.dimensions.items) ≡ true)

abbrev pub IsInRange : Command → Type 0
IsInRange (Compare c) = HasNumbersInRange c
IsInRange (Check c) = ⊤
IsInRange (Summary s) = AreFindingsInRange s.summary
IsInRange (Eval e) = ⊤
IsInRange (Load keys) = (1 ≤ keys) × (keys ≤ MOST_KEYS)
IsInRange (Idle u) = HasUseNumbersInRange u
IsInRange (Reach r) = AreFindingsInRange r.summary
IsInRange (Emit s) = AreFindingsInRange s
IsInRange (CheckSummary c) = IsSummaryCheckInRange c
IsInRange (NewAccess n) = AreFindingsInRange n.summary
IsInRange (CheckNewAccess c) = IsSummaryCheckInRange c.check
IsInRange MisusedNewAccess = ⊤

-- ---- what the matches of a command say

-- the name at a position that has to be taken: where `clap` finds no fault it is there
abbrev pub name_at : Text → List Row → Text
name_at id rows = unwrap_or (first_of id rows) []

-- all names from a position on
abbrev pub names_at : Text → List Row → List Text
names_at id rows = unwrap_or (all_of id rows) []

-- the number that the digits write, behind a plus or none
abbrev pub written_number : Text → ℕ
written_number text = digits_value 10 (without_leading_plus text)

-- the number of an option, or the number without one
abbrev pub number_or : ℕ → Text → List Row → ℕ
number_or default id rows = option_map_or written_number (one_of id rows) default

-- the flag is set
abbrev pub has_flag : Text → List Row → Bool
has_flag id rows = option_map_or (λ text. bytes_eq text (codes "true")) (one_of id rows) false

abbrev pub pair_names : List Row → Names
pair_names rows = record {
  first = name_at (codes "first") rows;
  second = name_at (codes "second") rows;
  schema = first_of (codes "schema") rows;
}

abbrev pub comparison_of : List Row → Asked
comparison_of rows = CompareCommand (record {
  names = pair_names rows;
  splits = number_or DEFAULT_SPLITS (codes "splits") rows;
  states = number_or DEFAULT_STATES (codes "states") rows;
  certified = has_flag (codes "proof") rows;
})

abbrev pub check_of : List Row → Asked
check_of rows = CheckCommand (record { names = pair_names rows; proof = name_at (codes "proof") rows })

abbrev pub summarising_of : List Row → Summarising
summarising_of rows = record {
  set = name_at (codes "set") rows;
  dimensions = names_at (codes "dimension") rows;
  schema = first_of (codes "schema") rows;
  splits = number_or DEFAULT_SPLITS (codes "splits") rows;
  states = number_or DEFAULT_STATES (codes "states") rows;
  findings = number_or DEFAULT_FINDINGS (codes "findings") rows;
}

-- findings, unless there are too many dimensions or one stands twice
abbrev pub findings_asked : List Row → Option Summarising
findings_asked rows = if are_dimensions (names_at (codes "dimension") rows) then Some (summarising_of rows) else None

abbrev pub summary_of : List Row → Option Asked
summary_of rows = option_map (λ s. SummaryCommand s (has_flag (codes "proof") rows)) (findings_asked rows)

abbrev pub evaluation_of : List Row → Asked
evaluation_of rows = EvalCommand (record {
  set = name_at (codes "set") rows;
  request = name_at (codes "request") rows;
  schema = first_of (codes "schema") rows;
})

-- the number has to be taken: where `clap` finds no fault it is there
abbrev pub load_of : List Row → Asked
load_of rows = LoadCommand (number_or 1 (codes "keys") rows)

abbrev pub use_question_of : List Row → Asked
use_question_of rows = IdleCommand (record {
  set = name_at (codes "set") rows;
  schema = first_of (codes "schema") rows;
  splits = number_or DEFAULT_SPLITS (codes "splits") rows;
  states = number_or DEFAULT_STATES (codes "states") rows;
  certified = has_flag (codes "proof") rows;
})

abbrev pub reach_of : List Row → Option Asked
reach_of rows = option_map (λ s. ReachCommand s (name_at (codes "zone") rows)) (findings_asked rows)

abbrev pub emission_of : List Row → Option Asked
emission_of rows = option_map EmitCommand (findings_asked rows)

abbrev pub summary_checking_of : List Row → SummaryCheck
summary_checking_of rows = record {
  set = name_at (codes "set") rows;
  proof = name_at (codes "proof") rows;
  dimensions = names_at (codes "dimension") rows;
  schema = first_of (codes "schema") rows;
  states = number_or DEFAULT_STATES (codes "states") rows;
}

-- a check of a summary, unless there are too many dimensions or one stands twice
abbrev pub summary_check_asked : List Row → Option SummaryCheck
summary_check_asked rows = if are_dimensions (names_at (codes "dimension") rows) then Some (summary_checking_of rows) else None

abbrev pub summary_check_of : List Row → Option Asked
summary_check_of rows = option_map CheckSummaryCommand (summary_check_asked rows)

abbrev pub new_access_of : List Row → Option Asked
new_access_of rows =
    option_map (λ s. NewAccessCommand s (name_at (codes "second") rows) (has_flag (codes "proof") rows)) (findings_asked rows)

abbrev pub new_access_check_of : List Row → Option Asked
new_access_check_of rows = option_map (λ c. CheckNewAccessCommand c (name_at (codes "second") rows)) (summary_check_asked rows)

-- ---- the table of the commands

-- a command: its form, whose name is the first word, what the matches of the form ask, if anything, and what other words behind the name
-- ask
pub record NamedCommand : Type 0 where
  pub form : App
  pub asks : List Row → Option Asked
  pub otherwise : Option Asked

abbrev pub compare_command : NamedCommand
compare_command = record { form = compare_form; asks = λ rows. Some (comparison_of rows); otherwise = None }

abbrev pub check_command : NamedCommand
check_command = record { form = check_form; asks = λ rows. Some (check_of rows); otherwise = None }

abbrev pub summary_command : NamedCommand
summary_command = record { form = summary_form; asks = summary_of; otherwise = None }

abbrev pub eval_command : NamedCommand
eval_command = record { form = eval_form; asks = λ rows. Some (evaluation_of rows); otherwise = None }

abbrev pub load_command : NamedCommand
load_command = record { form = load_form; asks = λ rows. Some (load_of rows); otherwise = None }

abbrev pub idle_command : NamedCommand
idle_command = record { form = idle_form; asks = λ rows. Some (use_question_of rows); otherwise = None }

abbrev pub reach_command : NamedCommand
reach_command = record { form = reach_form; asks = reach_of; otherwise = None }

abbrev pub emit_command : NamedCommand
emit_command = record { form = emit_form; asks = emission_of; otherwise = None }

abbrev pub check_summary_command : NamedCommand
check_summary_command = record { form = check_summary_form; asks = summary_check_of; otherwise = None }

abbrev pub new_access_command : NamedCommand
new_access_command = record { form = new_access_form; asks = new_access_of; otherwise = Some NewAccessUsage }

abbrev pub check_new_access_command : NamedCommand
check_new_access_command = record { form = check_new_access_form; asks = new_access_check_of; otherwise = Some NewAccessUsage }

abbrev pub commands : List NamedCommand
commands = compare_command ∷ check_command ∷ summary_command ∷ eval_command ∷ load_command
    ∷ idle_command
    ∷ reach_command
    ∷ emit_command
    ∷ check_summary_command
    ∷ new_access_command
    ∷ check_new_access_command
    ∷ []

-- the command that the first word names, by its exact text
abbrev pub command_of : Text → Option NamedCommand
command_of word = find (λ e. bytes_eq e.form.top.name word) commands

-- what the matches ask, unless there is a fault
abbrev pub asked_unless : Kinds → Option Asked → Option Asked
asked_unless [] asked_by_words = asked_by_words
asked_unless (kind ∷ kinds) asked_by_words = None

-- what the words ask by the form of a command, as `clap` reads them: it passes over the first, the command's name
abbrev pub asked_by_form : NamedCommand → List Text → Option Asked
asked_by_form e words = asked_unless (fault_of e.form words) (e.asks (matches_of e.form words))

-- and what they ask if they ask nothing by it
abbrev pub or_otherwise : NamedCommand → Option Asked → Option Asked
or_otherwise e None = e.otherwise
or_otherwise e (Some asked) = Some asked

-- what the words ask of a command
abbrev pub asked_of : NamedCommand → List Text → Option Asked
asked_of e words = or_otherwise e (asked_by_form e words)

-- what the words ask, or none where the first is missing or names no command, or where it names one of the first nine and `clap` refuses
-- the others, or they ask for findings by too many dimensions or by one twice
abbrev pub asked_by_words : List Text → Option Asked
asked_by_words [] = None
asked_by_words (word ∷ words) = option_and_then (λ e. asked_of e (word ∷ words)) (command_of word)

abbrev pub asked_by : {Z : Type 0} → List (String Z) → Option Asked
asked_by words = asked_by_words (texts_in words)
