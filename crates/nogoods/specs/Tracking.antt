-- A store that follows a path: each list is watched at one of its answers, so that an answer that joins the path looks only at the
-- lists that are watched there.
use Rattle.std.specs.Prelude.{◌≡◌, ◌⊎◌, ◌<◌, ℕ, ◌+◌, ◌*◌, if◌then◌else◌, List, [], length, take, Bool, Option, Some, None, MatchOption, Contains, slice_index_or, All}
use Rattle.formula_tree.specs.Answers.{Answers, Contained, IsDistinct, answer_of}
use Rattle.nogoods.specs.Hits.{IsHit, NoHit, answers_at}

-- what is kept means this: lists of answers in the order in which they came, and a path
pub record Tracked : Type 0 where
  pub lists : List Answers
  pub path : Answers

-- the number of the bucket of an answered test
abbrev pub bucket_of : ℕ → Bool → ℕ
bucket_of test answer = 2 * test + (if answer then 1 else 0)

-- the answers have this one
abbrev pub HasAnswer : Answers → ℕ → Bool → Type 0
HasAnswer answers test answer = answer_of answers test ≡ Some answer

-- one of the answers, which the path lacks
pub record IsLacking (answers path : Answers) (answered : ℕ × Bool) : Type 0 where
  pub own : answer_of answers answered.0 ≡ Some answered.1
  pub lacks : ¬ (answer_of path answered.0 ≡ Some answered.1)

-- the numbers of the lists that are watched at an answer's bucket; none past the last bucket
abbrev pub watchers_in : List (List ℕ) → ℕ → List ℕ
watchers_in watching bucket = slice_index_or watching bucket []

-- one of the answers, and each beginning of the path that has it contains them all. So it stays where the path gets shorter
pub record IsWatch (answers path : Answers) (test : ℕ) (answer : Bool) : Type 0 where
  pub own : answer_of answers test ≡ Some answer
  pub shows : (k : ℕ) → answer_of (take k path) test ≡ Some answer → Contained answers (take k path)

-- the list of a number is watched at one of its answers
pub record IsWatched (watching : List (List ℕ)) (answers path : Answers) (number : ℕ) : Type 0 where
  pub test : ℕ
  pub answer : Bool
  pub is : IsWatch answers path test answer
  pub there : Contains (watchers_in watching (bucket_of test answer)) number

-- each list is watched, unless it has no answers
abbrev pub AreWatched : List Answers → Answers → List (List ℕ) → Type 0
AreWatched lists path watching = (i : ℕ) → i < length lists →
    (answers_at lists i ≡ []) ⊎ IsWatched watching (answers_at lists i) path i

-- a list that the path contains, or none where it contains none
abbrev pub IsHitOf : List Answers → Answers → Option ℕ → Type 0
IsHitOf lists path hit = MatchOption hit (NoHit lists path) (λ i. (i < length lists) × IsHit lists path i)

-- for each length of the path, from 0 to its own, a hit of the path's beginning
pub record AreHits (lists : List Answers) (path : Answers) (hits : List (Option ℕ)) : Type 0 where
  pub count : length hits ≡ length path + 1
  pub each : (k : ℕ) → k < length hits → IsHitOf lists (take k path) (slice_index_or hits k None)

-- what a store that follows a path keeps
pub record IsTracking (lists : List Answers) (path : Answers) (watching : List (List ℕ)) (hits : List (Option ℕ)) : Type 0 where
  pub distinct : All IsDistinct lists
  pub watched : AreWatched lists path watching
  pub found : AreHits lists path hits
