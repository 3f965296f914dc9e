-- The form of each command's words, as a simple command of `clap`.
use Rattle.std.specs.Prelude.{◌∷◌, ℕ, List, [], fold, Some, pos, true, codes}
use Rattle.clap.specs.Words.{App, Rule, Text, new_app, new_rule, with_rule}
use Rattle.clap.specs.Lexer.{usize_max}
use Rattle.clap.specs.declared.builder.action.ArgAction.TheVariants.{Append, Set, SetTrue}
use Rattle.clap.specs.declared.builder.value_parser.ValueParser.{ValueParser}
use Rattle.clap.specs.declared.builder.value_parser.ValueParser.TheVariants.{Signed}
use Rattle.command_words.specs.declared.limits.TheConstants.{MOST_FINDINGS, MOST_KEYS, MOST_SPLITS, MOST_STATES}

-- the numbers from 1 to `most`
abbrev pub numbers_up_to : ℕ → ValueParser
numbers_up_to most = Signed (pos 1) (pos most)

-- a name that has to stand, by its position
abbrev pub name_rule : Text → Rule
name_rule id = record (new_rule id) { required = true; action = Some Set }

-- names, one of them required, behind the others by their position
abbrev pub names_rule : Text → Rule
names_rule id = record (new_rule id) {
  required = true;
  range = Some (record { start_inclusive = 1; end_inclusive = usize_max });
  action = Some Append;
}

-- a number from 1 to `most` that has to stand, by its position
abbrev pub amount_rule : Text → ℕ → Rule
amount_rule id most = record (new_rule id) {
  required = true;
  action = Some Set;
  parser = Some (Signed (pos 1) (pos most));
}

-- `--ID FILE`
abbrev pub file_rule : Text → Rule
file_rule id = record (new_rule id) { long = Some id; action = Some Set }

-- `--ID N`, a number from 1 to `most`
abbrev pub number_rule : Text → ℕ → Rule
number_rule id most = record (new_rule id) {
  long = Some id;
  action = Some Set;
  parser = Some (Signed (pos 1) (pos most));
}

-- `--ID`
abbrev pub flag_rule : Text → Rule
flag_rule id = record (new_rule id) { long = Some id; action = Some SetTrue }

-- the command with these arguments
abbrev pub form_of : Text → List Rule → App
form_of name rules = fold with_rule (new_app name) rules

-- `compare FIRST SECOND [--schema FILE] [--splits N] [--states N] [--proof]`
unfoldable pub compare_form : App
compare_form = form_of (codes "compare") (name_rule (codes "first")
    ∷ name_rule (codes "second") ∷ file_rule (codes "schema")
    ∷ number_rule (codes "splits") MOST_SPLITS ∷ number_rule (codes "states") MOST_STATES
    ∷ flag_rule (codes "proof") ∷ [])

-- `check FIRST SECOND PROOF [--schema FILE]`
unfoldable pub check_form : App
check_form = form_of (codes "check") (name_rule (codes "first") ∷ name_rule (codes "second")
    ∷ name_rule (codes "proof") ∷ file_rule (codes "schema") ∷ [])

-- `summary SET DIMENSION.. [--schema FILE] [--splits N] [--states N] [--findings N] [--proof]`
unfoldable pub summary_form : App
summary_form = form_of (codes "summary") (name_rule (codes "set")
    ∷ names_rule (codes "dimension") ∷ file_rule (codes "schema")
    ∷ number_rule (codes "splits") MOST_SPLITS ∷ number_rule (codes "states") MOST_STATES
    ∷ number_rule (codes "findings") MOST_FINDINGS ∷ flag_rule (codes "proof") ∷ [])

-- `eval SET REQUEST [--schema FILE]`
unfoldable pub eval_form : App
eval_form = form_of (codes "eval") (name_rule (codes "set") ∷ name_rule (codes "request")
    ∷ file_rule (codes "schema") ∷ [])

-- `load N`
unfoldable pub load_form : App
load_form = form_of (codes "load") (amount_rule (codes "keys") MOST_KEYS ∷ [])

-- `idle SET [--schema FILE] [--splits N] [--states N] [--proof]`
unfoldable pub idle_form : App
idle_form = form_of (codes "idle") (name_rule (codes "set") ∷ file_rule (codes "schema")
    ∷ number_rule (codes "splits") MOST_SPLITS ∷ number_rule (codes "states") MOST_STATES
    ∷ flag_rule (codes "proof") ∷ [])

-- `reach SET ZONE DIMENSION.. [--schema FILE] [--splits N] [--states N] [--findings N]`
unfoldable pub reach_form : App
reach_form = form_of (codes "reach") (name_rule (codes "set") ∷ name_rule (codes "zone")
    ∷ names_rule (codes "dimension") ∷ file_rule (codes "schema")
    ∷ number_rule (codes "splits") MOST_SPLITS ∷ number_rule (codes "states") MOST_STATES
    ∷ number_rule (codes "findings") MOST_FINDINGS ∷ [])

-- `emit SET DIMENSION.. [--schema FILE] [--splits N] [--states N] [--findings N]`
unfoldable pub emit_form : App
emit_form = form_of (codes "emit") (name_rule (codes "set")
    ∷ names_rule (codes "dimension") ∷ file_rule (codes "schema")
    ∷ number_rule (codes "splits") MOST_SPLITS ∷ number_rule (codes "states") MOST_STATES
    ∷ number_rule (codes "findings") MOST_FINDINGS ∷ [])

-- `check-summary SET PROOF DIMENSION.. [--schema FILE] [--states N]`
unfoldable pub check_summary_form : App
check_summary_form = form_of (codes "check-summary") (name_rule (codes "set") ∷ name_rule (codes "proof")
    ∷ names_rule (codes "dimension") ∷ file_rule (codes "schema") ∷ number_rule (codes "states") MOST_STATES ∷ [])

-- `new-access FIRST SECOND DIMENSION.. [--schema FILE] [--splits N] [--states N] [--findings N] [--proof]`
unfoldable pub new_access_form : App
new_access_form = form_of (codes "new-access") (name_rule (codes "set") ∷ name_rule (codes "second")
    ∷ names_rule (codes "dimension") ∷ file_rule (codes "schema")
    ∷ number_rule (codes "splits") MOST_SPLITS ∷ number_rule (codes "states") MOST_STATES
    ∷ number_rule (codes "findings") MOST_FINDINGS ∷ flag_rule (codes "proof") ∷ [])

-- `check-new-access FIRST SECOND PROOF DIMENSION.. [--schema FILE] [--states N]`
unfoldable pub check_new_access_form : App
check_new_access_form = form_of (codes "check-new-access") (name_rule (codes "set") ∷ name_rule (codes "second")
    ∷ name_rule (codes "proof") ∷ names_rule (codes "dimension") ∷ file_rule (codes "schema")
    ∷ number_rule (codes "states") MOST_STATES ∷ [])
