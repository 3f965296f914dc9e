-- Stored pairs: a list of answers and the value that closes under them.
use Rattle.std.specs.Prelude.{◌≡◌, ℕ, Bool, true, List, map, slice_get, Some}
use Rattle.std.specs.declared.rc.Rc.{Rc}
use Rattle.std.specs.Global.{Global}
use Rattle.formula_tree.specs.Answers.{Answers, Contained}
use Rattle.nogoods.specs.Hits.{IsFirstHit}

-- what closes under some answers closes under all answers that contain them
abbrev pub StillCloses : (Answers → Bool) → Type 0
StillCloses closes = (few many : Answers) → Contained few many → closes few ≡ true → closes many ≡ true

-- the lists of answers of the pairs, in order
abbrev pub stored_lists : {T : Type 0} → List (Answers × T) → List Answers
stored_lists store = map (λ pair. pair.0) store

-- the pair is the first whose answers the path contains
abbrev pub IsFirstOf : {T : Type 0} → List (Answers × T) → Answers → Answers × T → Type 0
IsFirstOf store path pair = (i : ℕ) × IsFirstHit (stored_lists store) path i × (slice_get store i ≡ Some pair)

-- each value closes under the answers that it is stored with
abbrev pub AllClose : {T : Type 0} → (T → Answers → Bool) → List (Answers × T) → Type 0
AllClose {T} closes store = (i : ℕ) (answers : Answers) (what : T) →
    slice_get store i ≡ Some (answers, what) → closes what answers ≡ true

-- the values that are shared
abbrev pub shared_values : {T : Type 0} → List (Rc T Global) → List T
shared_values items = map (λ item. item.value) items
