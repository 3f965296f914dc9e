-- The lines that only summaries with certificates, and checks of them, print.
use Rattle.std.specs.Prelude.{ℕ, List, ◌++◌, codes, decimal}
use Rattle.policy_model.specs.declared.test.Slot.{Slot}
use Rattle.run_inputs.specs.CertificateLines.{bad_line}
use Rattle.run_inputs.specs.Parts.{slot_word}
use Rattle.certified_summaries.specs.declared.fault.HeadCode.{HeadCode}
use Rattle.certified_summaries.specs.declared.fault.HeadCode.TheVariants.{C5Count, C6Finding, C7Request}
use Rattle.certified_summaries.specs.declared.fault.HeadFault.{HeadFault}

abbrev pub head_word : HeadCode → List ℕ
head_word C5Count = codes "C5"
head_word C6Finding = codes "C6"
head_word C7Request = codes "C7"

-- the line on the first line before the certificate that fails
abbrev pub head_fault_text : HeadFault → List ℕ
head_fault_text fault = bad_line (head_word fault.code) fault.line

-- the line on the first pair that keeps the list from standing for the region, by the line of its finding
unfoldable pub not_summary_line : ℕ → List ℕ
not_summary_line line = codes "not a summary: line " ++ decimal line ++ codes "\n"

-- the line on a cover whose query has too many tests
abbrev pub cover_tests_line : List ℕ
cover_tests_line = codes "refused: query: P17 Limit: document 0, statement 0, \"cover tests\"\n"

-- the line on the splits for the query of a cover
unfoldable pub cover_splits_line : ℕ → List ℕ
cover_splits_line n = codes "undecided: splits " ++ decimal n ++ codes " in cover\n"

-- the end of the line on the states of a slot for it, and that line
unfoldable pub cover_states_end : Slot → List ℕ
cover_states_end s = codes " at " ++ slot_word s ++ codes " in cover\n"

unfoldable pub cover_states_line : ℕ → Slot → List ℕ
cover_states_line n s = codes "undecided: states " ++ decimal n ++ cover_states_end s
