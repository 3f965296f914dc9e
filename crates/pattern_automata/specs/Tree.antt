-- The tree of a search over product states, as words of marks: each but the first was found from an earlier one, by a character.
use Rattle.std.specs.Prelude.{◌≡◌, ◌≢◌, ℕ, ◌+◌, ◌-◌, ◌<◌, ◌≤◌, List, [], ◌∷◌}
use Rattle.std.specs.Prelude.{◌++◌, length, take, slice_index, slice_index_or, Bool, true, false, All, Contains}
use Rattle.std.specs.Bool.{MatchBool}
use Rattle.wildcard_lang.specs.declared.piece.Piece.{Piece}
use Rattle.std.specs.Char.{IsScalar}
use Rattle.pattern_automata.specs.declared.wants.Literal.{Literal}
use Rattle.pattern_automata.specs.declared.tree.Parent.{Parent}
use Rattle.pattern_automata.specs.declared.tree.Step.{Step}
use Rattle.pattern_automata.specs.declared.tree.Step.TheVariants.{Left, Met, Full}
use Rattle.wildcard_lang.specs.Places.{contains_place}
use Rattle.pattern_automata.specs.Closed.{InRange, clause_holds, clauses_hold}
use Rattle.pattern_automata.specs.Marks.{mark_count}
use Rattle.pattern_automata.specs.Packed.{all_words, word_mark}

-- the character c leads from the words of a text to those of the text with c after it
abbrev pub LeadsTo : List (List Piece) → List ℕ → ℕ → List ℕ → Type 0
LeadsTo patterns from c to = (t : List ℕ) → from ≡ all_words patterns t → to ≡ all_words patterns (t ++ c ∷ [])

-- the state at i was found from that of the parent
pub record IsChild (patterns : List (List Piece)) (found : List (List ℕ)) (i : ℕ) (parent : Parent) : Type 0 where
  pub earlier : parent.state < i
  pub scalar : IsScalar parent.character
  pub leads : LeadsTo patterns (slice_index_or found parent.state []) parent.character (slice_index_or found i [])

pub record IsTree (patterns : List (List Piece)) (found : List (List ℕ)) (parents : List Parent) : Type 0 where
  pub count : length parents ≡ length found
  pub nonempty : 0 < length found
  pub first : slice_index_or found 0 [] ≡ all_words patterns []
  pub next : (i : ℕ) (d : Parent) → 0 < i → i < length parents → IsChild patterns found i (slice_index_or parents i d)

-- each parent comes earlier, by a scalar
abbrev pub IsRooted : List Parent → Type 0
IsRooted parents =
    (i : ℕ) (d : Parent) → 0 < i → i < length parents →
    ((slice_index_or parents i d).state < i) × IsScalar (slice_index_or parents i d).character

-- the text that leads to the state at i of the tree
pub data Spells : List Parent → ℕ → List ℕ → Type 0 where
  at_first : {parents : List Parent} → Spells parents 0 []
  at_next : {parents : List Parent} {i : ℕ} {p : Parent} {t : List ℕ} → 0 < i → i < length parents →
      slice_index_or parents i p ≡ p → Spells parents p.state t → Spells parents i (t ++ p.character ∷ [])

-- the last mark of each pattern
pub record IsEnds (patterns : List (List Piece)) (ends : List ℕ) : Type 0 where
  pub count : length ends ≡ length patterns
  pub each : (k : ℕ) → k < length patterns →
      slice_index ends k ≡ mark_count (take k patterns) + length (slice_index_or patterns k [])

-- the clauses hold where the last marks say which patterns match
abbrev pub words_meet : List ℕ → List (List Literal) → List ℕ → Bool
words_meet ends clauses words = clauses_hold (λ i. word_mark words (slice_index ends i)) clauses

abbrev pub words_meet_clause : List ℕ → List Literal → List ℕ → Bool
words_meet_clause ends clause words = clause_holds (λ i. word_mark words (slice_index ends i)) clause

-- some state that was found is the one to which c leads from the state at j
abbrev pub IsLed : List (List Piece) → List (List ℕ) → ℕ → ℕ → Type 0
IsLed patterns found j c = (m : List ℕ) × Contains found m × LeadsTo patterns (slice_index_or found j []) c m

-- no two of the states are one
abbrev pub AreDifferent : List (List ℕ) → Type 0
AreDifferent found = (j k : ℕ) → j < k → k < length found → slice_index_or found j [] ≢ slice_index_or found k []

-- a search that goes on: the states below i were left by each character, that at i by those of `here`
pub record IsSearch (patterns : List (List Piece)) (ends : List ℕ) (clauses : List (List Literal))
    (characters : List ℕ) (found : List (List ℕ)) (i : ℕ) (here : List ℕ) : Type 0 where
  pub none : (j : ℕ) → j < length found → words_meet ends clauses (slice_index_or found j []) ≡ false
  pub done : (j c : ℕ) → j < i → contains_place characters c ≡ true → IsLed patterns found j c
  pub now : (c : ℕ) → contains_place here c ≡ true → IsLed patterns found i c

-- what a turn of the search leaves, where it stepped the state at i by c: `new` says whether the marks were new
pub record IsTurn (patterns : List (List Piece)) (old found : List (List ℕ)) (parents : List Parent)
    (words : List ℕ) (i c : ℕ) (new : Bool) : Type 0 where
  pub tree : IsTree patterns found parents
  pub leads : LeadsTo patterns (slice_index_or old i []) c words
  pub there : Contains found words
  pub grows : MatchBool new ((found ≡ old ++ words ∷ []) × (Contains old words → ⊥)) (found ≡ old)

-- what each turn keeps
pub record IsBase (patterns : List (List Piece)) (ends : List ℕ) (clauses : List (List Literal))
    (found : List (List ℕ)) (parents : List Parent) (limit : ℕ) : Type 0 where
  pub tree : IsTree patterns found parents
  pub different : AreDifferent found
  pub count : length found ≤ limit
  pub range : InRange (length ends) clauses
  pub within : All (λ e. e < mark_count patterns) ends

-- the clauses hold of the last state
pub record IsMet (patterns : List (List Piece)) (ends : List ℕ) (clauses : List (List Literal))
    (found : List (List ℕ)) (parents : List Parent) : Type 0 where
  pub tree : IsTree patterns found parents
  pub meets : words_meet ends clauses (slice_index_or found (length found - 1) []) ≡ true

-- there is one state more than the limit
pub record IsFull (patterns : List (List Piece)) (found : List (List ℕ)) (parents : List Parent) (limit : ℕ) : Type 0 where
  pub tree : IsTree patterns found parents
  pub different : AreDifferent found
  pub count : length found ≡ limit + 1

-- the search went on by one more character at i
pub record IsVisited (patterns : List (List Piece)) (ends : List ℕ) (clauses : List (List Literal))
    (old found : List (List ℕ)) (parents : List Parent) (i c limit : ℕ) : Type 0 where
  pub base : IsBase patterns ends clauses found parents limit
  pub within : i < length found
  pub goes : (characters here : List ℕ) → IsSearch patterns ends clauses characters old i here →
      IsSearch patterns ends clauses characters found i (here ++ c ∷ [])

abbrev pub IsVisit :
    List (List Piece) → List ℕ → List (List Literal) →
    List (List ℕ) → List (List ℕ) → List Parent → ℕ → ℕ → ℕ → Step → Type 0
IsVisit patterns ends clauses old found parents i c limit Left = IsVisited patterns ends clauses old found parents i c limit
IsVisit patterns ends clauses old found parents i c limit Met = IsMet patterns ends clauses found parents
IsVisit patterns ends clauses old found parents i c limit Full = IsFull patterns found parents limit

-- the state at i was left by each character
pub record IsLeftOpen (patterns : List (List Piece)) (ends : List ℕ) (clauses : List (List Literal))
    (characters : List ℕ) (found : List (List ℕ)) (parents : List Parent) (i limit : ℕ) : Type 0 where
  pub base : IsBase patterns ends clauses found parents limit
  pub search : IsSearch patterns ends clauses characters found i []

abbrev pub IsExpansion :
    List (List Piece) → List ℕ → List (List Literal) →
    List ℕ → List (List ℕ) → List Parent → ℕ → ℕ → Step → Type 0
IsExpansion patterns ends clauses characters found parents i limit Left =
    IsLeftOpen patterns ends clauses characters found parents (i + 1) limit
IsExpansion patterns ends clauses characters found parents i limit Met = IsMet patterns ends clauses found parents
IsExpansion patterns ends clauses characters found parents i limit Full = IsFull patterns found parents limit

-- each state was left by each character
pub record IsOver (patterns : List (List Piece)) (ends : List ℕ) (clauses : List (List Literal))
    (characters : List ℕ) (found : List (List ℕ)) (parents : List Parent) (limit : ℕ) : Type 0 where
  pub last : ℕ
  pub all : length found ≤ last
  pub left : IsLeftOpen patterns ends clauses characters found parents last limit

abbrev pub IsOutcome :
    List (List Piece) → List ℕ → List (List Literal) →
    List ℕ → List (List ℕ) → List Parent → ℕ → Step → Type 0
IsOutcome patterns ends clauses characters found parents limit Left = IsOver patterns ends clauses characters found parents limit
IsOutcome patterns ends clauses characters found parents limit Met = IsMet patterns ends clauses found parents
IsOutcome patterns ends clauses characters found parents limit Full = IsFull patterns found parents limit
