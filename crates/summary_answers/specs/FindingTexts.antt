-- The text of a summary, and the lines on why there is none.
use Rattle.std.specs.Prelude.{◌≡◌, ℕ, List, ◌++◌, length, codes, decimal, IfOk, Result, String, string_bytes}
use Rattle.std.specs.List.{flat_map}
use Rattle.std.specs.declared.alloc.AllocError.{AllocError}
use Rattle.std.specs.declared.alloc.Global.{Global}
use Rattle.findings.specs.Texts.{finding_text}
use Rattle.policy_model.specs.declared.request.Request.{Request}
use Rattle.policy_model.specs.declared.test.Slot.{Slot}
use Rattle.request_json.specs.RequestTexts.{request_text}
use Rattle.run_inputs.specs.declared.printed.EarlyEnd.{EarlyEnd}
use Rattle.run_inputs.specs.declared.status.Status.{Status}
use Rattle.run_inputs.specs.Printing.{IfAnswered, PrintsText}
use Rattle.run_inputs.specs.Parts.{element_text, slot_word}
use Rattle.strata.specs.declared.stratum.Stratum.{Stratum}
use Rattle.summary_answers.specs.declared.answer.Found.{Found}

-- ---- why there is no summary

-- the line on a dimension that is neither a part of each request nor a key of the schema
abbrev pub unknown_line : List ℕ → List ℕ
unknown_line name = codes "refused: schema: S5 UnknownDimension: " ++ element_text name ++ codes "\n"

-- the element of a dimension with too many named predicates
abbrev pub predicates_element : List ℕ → List ℕ
predicates_element name = codes "predicates of " ++ name

-- the line on such a dimension
abbrev pub too_many_line : List ℕ → List ℕ
too_many_line name =
    codes "refused: query: P17 Limit: document 0, statement 0, " ++ element_text (predicates_element name) ++ codes "\n"

-- the line on the number of findings that are looked at
unfoldable pub findings_line : ℕ → List ℕ
findings_line n = codes "undecided: findings " ++ decimal n ++ codes "\n"

-- the end of a line on the query of a finding, which is given by its text
unfoldable pub finding_end : List ℕ → List ℕ
finding_end finding = codes " in " ++ finding ++ codes "\n"

-- the line on the splits for that query
unfoldable pub splits_line : ℕ → List ℕ → List ℕ
splits_line n finding = codes "undecided: splits " ++ decimal n ++ finding_end finding

-- the end of the line on the states of a slot in it, and that line
unfoldable pub states_end : Slot → List ℕ → List ℕ
states_end s finding = codes " at " ++ slot_word s ++ finding_end finding

unfoldable pub states_line : ℕ → Slot → List ℕ → List ℕ
states_line n s finding = codes "undecided: states " ++ decimal n ++ states_end s finding

-- a text, where there was memory for it, ends a command with the status
abbrev pub EndsWith : Result (String Global) AllocError → Status → EarlyEnd → Type 0
EndsWith text status e =
    (line : List ℕ) → IfOk text (λ s. string_bytes s ≡ line) → IfAnswered e (PrintsText line status)

-- ---- summaries

-- how many findings there are
unfoldable pub count_line : ℕ → List ℕ
count_line count = codes "findings: " ++ decimal count ++ codes "\n"

-- the end of a finding's line, and the line of its request
unfoldable pub request_end : Request → List ℕ
request_end r = codes "\n" ++ request_text r ++ codes "\n"

-- a finding's line and that of its request
unfoldable pub found_lines : List Stratum → List ℕ × Request → List ℕ
found_lines ds p = finding_text ds p.0 ++ request_end p.1

-- how many findings a summary has, and then each with its request
abbrev pub found_text : Found → List ℕ
found_text found =
    count_line (length found.summary) ++ flat_map (found_lines found.strata.dimensions) found.summary
