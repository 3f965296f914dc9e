-- How lists that are watched at an answer are watched anew, once the answer has joined the path.
use Rattle.std.specs.Prelude.{◌≡◌, ◌≢◌, ◌⊎◌, ◌<◌, ℕ, List, length, Bool, Contains}
use Rattle.formula_tree.specs.Answers.{Answers}
use Rattle.nogoods.specs.Tracking.{IsLacking, bucket_of, watchers_in}
use Rattle.nogoods.specs.Hits.{IsHit, answers_at}

-- what was in a bucket stays in it
abbrev pub KeepsWatchers : List (List ℕ) → List (List ℕ) → Type 0
KeepsWatchers old new = (bucket number : ℕ) → Contains (watchers_in old bucket) number → Contains (watchers_in new bucket) number

-- all buckets but one are as they were
abbrev pub KeepsOthers : ℕ → List (List ℕ) → List (List ℕ) → Type 0
KeepsOthers bucket old new = (other : ℕ) → other ≢ bucket → watchers_in new other ≡ watchers_in old other

-- the list of a number is watched at an answer that the path lacks
pub record IsTurned (lists : List Answers) (path : Answers) (watching : List (List ℕ)) (number : ℕ) : Type 0 where
  pub test : ℕ
  pub answer : Bool
  pub lacking : IsLacking (answers_at lists number) path (test, answer)
  pub there : Contains (watchers_in watching (bucket_of test answer)) number

-- or the path contains it, and it is among those that stay
abbrev pub TurnsOrStays : List Answers → Answers → List (List ℕ) → List ℕ → ℕ → Type 0
TurnsOrStays lists path watching stay number = number < length lists →
    (IsHit lists path number × Contains stay number) ⊎ IsTurned lists path watching number

-- those that stay are of lists that the path contains
abbrev pub StayAsHits : List Answers → Answers → List ℕ → Type 0
StayAsHits lists path stay = (number : ℕ) → Contains stay number → (number < length lists) × IsHit lists path number
