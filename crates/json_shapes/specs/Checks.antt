-- Checks of a file, each with the fault that it gives where it isn't passed, the first of a list that isn't passed, and what
-- readers answer by their checks. A check may be asked of a value of a wrong shape; its answer counts only where every check
-- before it is passed.
use Rattle.std.specs.Prelude.{◌≡◌, ⊤, List, [], ◌∷◌, Bool, Option, Some, None, Result, Ok, Err, if◌then◌else◌}
use Rattle.json_shapes.specs.declared.read_error.ReadError.{ReadError}
use Rattle.json_shapes.specs.declared.read_error.ReadError.TheVariants.{Refused, NoMemory}

-- what is asked, and the fault where it isn't so
pub record Check (F : Type 0) : Type 0 where
  pub passes : Bool
  pub fault : F

-- the fault of the first check that isn't passed, or none where all are
abbrev pub first_fault : {F : Type 0} → List (Check F) → Option F
first_fault [] = None
first_fault (c ∷ cs) = (if c.passes then first_fault cs else Some c.fault)

-- the answer is a refusal with this fault, or want of memory
abbrev pub IsRefusal : {F : Type 0} → F → ReadError F → Type 0
IsRefusal fault (Refused given) = given ≡ fault
IsRefusal fault NoMemory = ⊤

-- what a reader of a part answers: what the part stands for where all checks are passed, and otherwise the first fault, besides
-- want of memory
abbrev pub IsReadOf : {F X : Type 0} → List (Check F) → X → Result X (ReadError F) → Type 0
IsReadOf checks meaning (Ok x) = (first_fault checks ≡ None) × (x ≡ meaning)
IsReadOf checks meaning (Err (Refused fault)) = first_fault checks ≡ Some fault
IsReadOf checks meaning (Err NoMemory) = ⊤
