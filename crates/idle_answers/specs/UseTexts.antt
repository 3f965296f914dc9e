-- The texts and statuses of answers on the statements of a set.
use Rattle.std.specs.Prelude.{ℕ, List, [], ◌∷◌, ◌++◌, length, Bool, true, false, codes, decimal, string_bytes, if◌then◌else◌}
use Rattle.std.specs.List.{list_any}
use Rattle.policy_model.specs.declared.set.StatementName.{StatementName}
use Rattle.policy_model.specs.StatementNames.{Named}
use Rattle.request_json.specs.RequestTexts.{request_text}
use Rattle.run_inputs.specs.declared.status.Status.{Status}
use Rattle.run_inputs.specs.declared.status.Status.TheVariants as status
use Rattle.run_inputs.specs.Parts.{shortage_text}
use Rattle.idle_answers.specs.declared.answer.UseAnswer.{UseAnswer}
use Rattle.idle_answers.specs.declared.answer.UseAnswer.TheVariants.{Used, Idle, Proved, Undecided}

-- the number of a statement, with which the start of its line ends
unfoldable pub name_end : ℕ → List ℕ
name_end number = codes ", statement " ++ decimal number ++ codes ": "

-- the start of a statement's line
unfoldable pub statement_start : StatementName → List ℕ
statement_start name = codes "document " ++ decimal name.document ++ name_end name.statement

-- the answer behind it: a used statement's request has a line of its own, and the lines of a certificate stand behind the idle
-- statement's line
unfoldable pub use_text : UseAnswer → List ℕ
use_text (Used q) = codes "used\n" ++ request_text q ++ codes "\n"
use_text Idle = codes "idle\n"
use_text (Proved text) = codes "idle\n" ++ string_bytes text
use_text (Undecided shortage) = shortage_text shortage

-- the statements with their answers, one after another
abbrev pub use_lines : List Named → List UseAnswer → List ℕ
use_lines (n ∷ ns) (a ∷ answers) = statement_start n.0 ++ use_text a ++ use_lines ns answers
use_lines _ _ = []

-- how many statements there are
unfoldable pub statements_line : ℕ → List ℕ
statements_line count = codes "statements: " ++ decimal count ++ codes "\n"

-- the whole text
abbrev pub uses_text : List Named → List UseAnswer → List ℕ
uses_text named answers = statements_line (length named) ++ use_lines named answers

abbrev pub is_idle : UseAnswer → Bool
is_idle Idle = true
is_idle (Proved text) = true
is_idle _ = false

abbrev pub is_undecided : UseAnswer → Bool
is_undecided (Undecided shortage) = true
is_undecided _ = false

-- undecided where a statement is, else no where a statement is idle, else yes
abbrev pub uses_status : List UseAnswer → Status
uses_status answers =
    (if list_any is_undecided answers then status.Undecided else (if list_any is_idle answers then status.Fails else status.Holds))
