-- What becomes of watched lists when an answer joins the path, and of hits when a list is learned.
use Rattle.std.specs.Prelude.{◌≡◌, ◌⊎◌, ◌<◌, ◌≤◌, ℕ, ◌-◌, List, [], ◌∷◌, ◌++◌, length, take, Bool, Option, Some, None, Contains, slice_get, slice_index_or}
use Rattle.std.specs.Option.{option_or}
use Rattle.formula_tree.specs.Answers.{Answers, Contained, IsDistinct, answer_of}
use Rattle.nogoods.specs.Tracking.{AreWatched, IsHitOf, bucket_of, watchers_in}
use Rattle.nogoods.specs.Hits.{NoHit}
use Rattle.nogoods.specs.Turning.{KeepsOthers}

-- the path is another with one more answer, to a test that the other leaves open
pub record Joins (before path : Answers) (test : ℕ) (answer : Bool) : Type 0 where
  pub is : path ≡ before ++ (test, answer) ∷ []
  pub new : answer_of before test ≡ None

-- lists that were watched along the path before are watched along this one
abbrev pub WatchesOn : List Answers → Answers → Answers → List (List ℕ) → List (List ℕ) → Type 0
WatchesOn lists before after old new = AreWatched lists before old → AreWatched lists after new

-- where the path before contained none of the lists, this is a hit of the path
abbrev pub FindsHit : List Answers → Answers → Answers → List (List ℕ) → Option ℕ → Type 0
FindsHit lists before path old hit = AreWatched lists before old → NoHit lists before → IsHitOf lists path hit

-- the numbers stand in a bucket in place of those before, or all are as they were
pub record IsPut (bucket : ℕ) (numbers : List ℕ) (old new : List (List ℕ)) : Type 0 where
  pub others : KeepsOthers bucket old new
  pub here : (watchers_in new bucket ≡ numbers) ⊎ (watchers_in new bucket ≡ watchers_in old bucket)

-- the beginning of the path of this length is the shortest that contains the answers: its last answer is one of them
pub record IsShortest (answers path : Answers) (count : ℕ) : Type 0 where
  pub distinct : IsDistinct path
  pub within : count ≤ length path
  pub contains : Contained answers (take count path)
  pub newest : (test : ℕ) (answer : Bool) → 0 < count → slice_get path (count - 1) ≡ Some (test, answer) → answer_of answers test ≡ Some answer

-- the list of a number is watched at the last answer of the path's beginning of this length, if that has one
abbrev pub IsWatchedAt : Answers → ℕ → List (List ℕ) → ℕ → Type 0
IsWatchedAt path count watching number = (test : ℕ) (answer : Bool) → 0 < count → slice_get path (count - 1) ≡ Some (test, answer) →
    Contains (watchers_in watching (bucket_of test answer)) number

-- from an index on, the number stands where there was none
pub record AreMarked (old new : List (Option ℕ)) (from end number : ℕ) : Type 0 where
  pub count : length new ≡ length old
  pub marked : (k : ℕ) → from ≤ k → k < end → slice_index_or new k None ≡ option_or (slice_index_or old k None) (Some number)
  pub before : (k : ℕ) → k < from → slice_index_or new k None ≡ slice_index_or old k None
  pub behind : (k : ℕ) → end ≤ k → slice_index_or new k None ≡ slice_index_or old k None
