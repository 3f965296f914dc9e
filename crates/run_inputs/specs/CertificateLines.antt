-- The lines on certificates that are checked.
use Rattle.std.specs.Prelude.{ℕ, List, ◌++◌, codes, decimal}
use Rattle.proof_text.specs.declared.fault.ProofCode.{ProofCode}
use Rattle.proof_text.specs.declared.fault.ProofCode.TheVariants.{C1Syntax, C2Version, C3TestNumber, C4Limit}
use Rattle.proof_text.specs.declared.fault.ProofFault.{ProofFault}

abbrev pub proof_word : ProofCode → List ℕ
proof_word C1Syntax = codes "C1"
proof_word C2Version = codes "C2"
proof_word C3TestNumber = codes "C3"
proof_word C4Limit = codes "C4"

-- the end of the line on a fault of a file, by its line, and that line, by its code
unfoldable pub bad_end : ℕ → List ℕ
bad_end line = codes " line " ++ decimal line ++ codes "\n"

unfoldable pub bad_line : List ℕ → ℕ → List ℕ
bad_line code line = codes "bad proof: " ++ code ++ bad_end line

-- the line on the first fault of a certificate
abbrev pub proof_fault_text : ProofFault → List ℕ
proof_fault_text fault = bad_line (proof_word fault.code) fault.line

-- the line on the first node that fails
unfoldable pub not_closing_line : ℕ → List ℕ
not_closing_line line = codes "not closing: line " ++ decimal line ++ codes "\n"

-- the line on a certificate that is accepted
abbrev pub accepted_line : List ℕ
accepted_line = codes "accepted\n"
