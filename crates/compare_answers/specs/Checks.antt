-- What checks of certificates come to.
use Rattle.std.specs.Prelude.{◌≡◌, ◌≤◌, List, ℕ, length, true, string_bytes, codes}
use Rattle.command_words.specs.Asked.{Comparing}
use Rattle.proof_text.specs.declared.limits.TheConstants.{MOST_PROOF_BYTES}
use Rattle.run_inputs.specs.declared.printed.Printed.{Printed}
use Rattle.run_inputs.specs.declared.status.Status.TheVariants.{Holds}
use Rattle.run_inputs.specs.Printing.{PrintsText}
use Rattle.run_inputs.specs.declared.pair.Pair.{Pair}
use Rattle.run_inputs.specs.Pairs.{Contents}
use Rattle.compare_answers.specs.Printed.{IsCheckOfPair, IsCheckPrinted, IsComparisonPrinted}

-- the same is printed
abbrev pub SaysTheSame : Printed → Printed → Type 0
SaysTheSame p q = (string_bytes p.text ≡ string_bytes q.text) × (p.status ≡ q.status)

-- to a check of a file one line is printed for a pair
abbrev pub ChecksAgree : Type 0
ChecksAgree = (bytes : List ℕ) (pair : Pair) (one other : Printed) →
    IsCheckOfPair bytes pair one → IsCheckOfPair bytes pair other → SaysTheSame one other

-- where to files of two sets a certificate is printed, a check of the same files and of all that was printed accepts it, as long as it has
-- at most as many bytes as a certificate may have
abbrev pub PrintedProofsAreAccepted : Type 0
PrintedProofsAreAccepted = (asked : Comparing) (c : Contents) (compared checked : Printed) →
    asked.certified ≡ true → IsComparisonPrinted asked c compared → compared.status ≡ Holds →
    length (string_bytes compared.text) ≤ MOST_PROOF_BYTES →
    IsCheckPrinted (string_bytes compared.text) c checked → PrintsText (codes "accepted\n") Holds checked
