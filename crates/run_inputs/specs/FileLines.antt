-- The lines on files that can't be read or are too long.
use Rattle.std.specs.Prelude.{ℕ, List, ◌++◌, codes, decimal}
use Rattle.run_inputs.specs.declared.printed.EarlyEnd.{EarlyEnd}
use Rattle.run_inputs.specs.declared.role.Role.{Role}
use Rattle.run_inputs.specs.declared.role.Role.TheVariants.{First, Second, Set, Schema, Request, Proof, Zone}
use Rattle.run_inputs.specs.declared.status.Status.TheVariants.{Refused}
use Rattle.run_inputs.specs.Files.{limit_of}
use Rattle.run_inputs.specs.Printing.{IfAnswered, PrintsText}

abbrev pub role_word : Role → List ℕ
role_word First = codes "first"
role_word Second = codes "second"
role_word Set = codes "set"
role_word Schema = codes "schema"
role_word Request = codes "request"
role_word Proof = codes "proof"
role_word Zone = codes "zone"

-- the line on a file that can't be read
abbrev pub read_fault_line : Role → List ℕ
read_fault_line role = codes "read fault: " ++ role_word role ++ codes "\n"

-- the end of the line on a file that is too long
unfoldable pub too_long_end : Role → List ℕ
too_long_end role = codes ": file longer than " ++ decimal (limit_of role) ++ codes " bytes\n"

-- the line on a file that is too long
abbrev pub too_long_line : Role → List ℕ
too_long_line role = codes "refused: " ++ role_word role ++ too_long_end role

-- what is printed of a file that is too long
abbrev pub IsTooLong : Role → EarlyEnd → Type 0
IsTooLong role e = IfAnswered e (PrintsText (too_long_line role) Refused)
