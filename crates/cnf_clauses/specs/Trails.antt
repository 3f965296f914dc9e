-- What calls leave of a trail, and what they add.
use Rattle.std.specs.Prelude.{◌≡◌, ℕ, List, [], ◌∷◌, ◌++◌, take, length, map, Bool, not, true, false, Option, Some, None, Result, IfOk, IfSome, IfNone}
use Rattle.formula_tree.specs.Answers.{Answers, answer_of}
use Rattle.cnf_clauses.specs.Literals.{Clause}
use Rattle.cnf_clauses.specs.Levels.{AreLevels, IsLevel}
use Rattle.cnf_clauses.specs.Propagates.{AreQuiet}
use Rattle.cnf_clauses.specs.Reasons.{Extends, HaveReasons}
use Rattle.cnf_clauses.specs.declared.trail.Trail.{Trail}

-- what was decided stands, with its reasons, and the marks are the same
pub record TrailExtends (old new : Trail) : Type 0 where
  pub decided : Extends old.decided new.decided
  pub reasons : Extends old.reasons.items new.reasons.items
  pub marks : new.marks.items ≡ old.marks.items

pub record IsSameTrail (old new : Trail) : Type 0 where
  pub decided : new.decided ≡ old.decided
  pub reasons : new.reasons.items ≡ old.reasons.items
  pub marks : new.marks.items ≡ old.marks.items

-- nothing is decided
pub record IsEmptyTrail (trail : Trail) : Type 0 where
  pub decided : trail.decided ≡ []
  pub reasons : trail.reasons.items ≡ []
  pub marks : trail.marks.items ≡ []

-- each decided variable has its reason at the path
abbrev pub HasReasons : List Clause → Answers → Trail → Type 0
HasReasons clauses path trail = HaveReasons clauses path [] trail.decided trail.reasons.items

abbrev pub KeepsReasons : List Clause → Trail → Trail → Type 0
KeepsReasons clauses old new = (path : Answers) → HasReasons clauses path old → HasReasons clauses path new

-- what is decided last is an answer of the path
abbrev pub HasNoReason : Trail → Trail → Type 0
HasNoReason old new = new.reasons.items ≡ old.reasons.items ++ None ∷ []

-- no clause says more
abbrev pub IsQuietTrail : List Clause → Trail → Type 0
IsQuietTrail clauses trail = AreQuiet clauses trail.decided trail.decided

-- the numbers of the hints are the next reasons; where a conflict was met, all but the last, which is the result
abbrev pub IsNoted : List ℕ → Bool → List (Option ℕ) → List (Option ℕ) → Option ℕ → Type 0
IsNoted hints true old new result = (front : List ℕ) (last : ℕ) → hints ≡ front ++ last ∷ [] →
    (result ≡ Some last) × (new ≡ old ++ map Some front)
IsNoted hints false old new result = (result ≡ None) × (new ≡ old ++ map Some hints)

-- what was decided since the last mark is taken back
pub record IsBack (old new : Trail) (rest : List ℕ) (mark : ℕ) : Type 0 where
  pub decided : new.decided ≡ take mark old.decided
  pub reasons : new.reasons.items ≡ take mark old.reasons.items
  pub marks : new.marks.items ≡ rest

abbrev pub IsCut : Trail → Trail → Type 0
IsCut old new = (rest : List ℕ) (mark : ℕ) → old.marks.items ≡ rest ++ mark ∷ [] → IsBack old new rest mark

-- the trail of a path, at each of its lengths
abbrev pub IsTrailOf : List Clause → Answers → Trail → Type 0
IsTrailOf clauses path trail = AreLevels clauses path trail.decided trail.reasons.items trail.marks.items

-- and at its whole length alone
abbrev pub IsTrailAt : List Clause → Answers → Trail → Type 0
IsTrailAt clauses path trail = IsLevel clauses path trail.decided trail.reasons.items

-- what a call says where it met no conflict
abbrev pub UnlessMet : {X E : Type 0} → Result (Option X) E → Type 0 → Type 0
UnlessMet result P = IfOk result (λ met. IfNone met P)

-- and of what it met
abbrev pub WhereMet : {X E : Type 0} → Result (Option X) E → (X → Type 0) → Type 0
WhereMet result P = IfOk result (λ met. IfSome met P)

-- all answers of the path but that to the test are decided
abbrev pub HasOthers : ℕ → Answers → Answers → Type 0
HasOthers test path decided = (n : ℕ) (b : Bool) → (n ≡ test → ⊥) → answer_of path n ≡ Some b → answer_of decided n ≡ Some b

-- the path answers the test, and the opposite is decided
abbrev pub IsOpposite : ℕ → Answers → Answers → Type 0
IsOpposite test path decided = (b : Bool) × (answer_of path test ≡ Some b) × (answer_of decided test ≡ Some (not b))

-- the trail at a path with one answer more, and the mark of where it began
pub record IsNextLevel (clauses : List Clause) (path : Answers) (old new : Trail) : Type 0 where
  pub level : IsTrailAt clauses path new
  pub decided : Extends old.decided new.decided
  pub reasons : Extends old.reasons.items new.reasons.items
  pub marks : new.marks.items ≡ old.marks.items ++ length old.decided ∷ []
