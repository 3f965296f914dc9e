-- What a command prints, at its end or before.
use Rattle.std.specs.Prelude.{◌≡◌, ⊤, ℕ, List, Result, Ok, Err, alloc_error, string_bytes}
use Rattle.std.specs.declared.alloc.AllocError.{AllocError}
use Rattle.run_inputs.specs.declared.printed.EarlyEnd.{EarlyEnd}
use Rattle.run_inputs.specs.declared.printed.EarlyEnd.TheVariants.{Answered, NoMemory}
use Rattle.run_inputs.specs.declared.printed.Printed.{Printed}
use Rattle.run_inputs.specs.declared.status.Status.{Status}
use Rattle.run_inputs.specs.declared.status.Status.TheVariants.{WriteFault, NoMemory as no_memory}

-- this text with this status
abbrev pub PrintsText : List ℕ → Status → Printed → Type 0
PrintsText text status p = (string_bytes p.text ≡ text) × (p.status ≡ status)

-- what ends a command early is printed so, unless it is want of memory
abbrev pub IfAnswered : EarlyEnd → (Printed → Type 0) → Type 0
IfAnswered (Answered p) P = P p
IfAnswered NoMemory P = ⊤

-- a value that satisfies P, or an early end that prints what satisfies Q
abbrev pub OrAnswered : {X : Type 0} → Result X EarlyEnd → (X → Type 0) → (Printed → Type 0) → Type 0
OrAnswered (Ok x) P Q = P x
OrAnswered (Err e) P Q = IfAnswered e Q

-- what is printed, at the end of a command or before, is so
abbrev pub IfPrinted : Result Printed EarlyEnd → (Printed → Type 0) → Type 0
IfPrinted result P = OrAnswered result P P

-- what is printed, at the end or before, or want of memory
abbrev pub IsPrintedOf : Result Printed EarlyEnd → Result Printed AllocError → Type 0
IsPrintedOf (Ok p) result = result ≡ Ok p
IsPrintedOf (Err (Answered p)) result = result ≡ Ok p
IsPrintedOf (Err NoMemory) result = result ≡ Err alloc_error

-- the status of a text that was written whole; the others say that none was
abbrev pub IsOfText : Status → Type 0
IsOfText WriteFault = ⊥
IsOfText no_memory = ⊥
IsOfText _ = ⊤
