-- Cores that lose tests which they don't need.
use Rattle.std.specs.Prelude.{Option, Some, None, Result, Ok, Err}
use Rattle.slot_theory.specs.declared.question.Question.{Question}
use Rattle.slot_theory.specs.declared.steps.Kept.{Kept}
use Rattle.slot_theory.specs.Question.{IsConflictOf}

-- a core with a proof that no value answers it
abbrev pub IsKept : Question → Kept → Type 0
IsKept q k = IsConflictOf q k.core k.proof

-- what was found, or else what is had
abbrev pub found_or : {T E : Type 0} → Result (Option T) E → T → Result T E
found_or (Ok (Some x)) had = Ok x
found_or (Ok None) had = Ok had
found_or (Err e) had = Err e
