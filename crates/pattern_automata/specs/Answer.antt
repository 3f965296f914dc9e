-- What a product answers.
use Rattle.std.specs.Prelude.{◌≡◌, ℕ, ◌+◌, ◌-◌, ◌<◌, ◌≤◌, ◌++◌, List, [], length, slice_index_or}
use Rattle.wildcard_lang.specs.declared.piece.Piece.{Piece}
use Rattle.wildcard_lang.specs.Text.{IsText}
use Rattle.pattern_automata.specs.declared.wants.Literal.{Literal}
use Rattle.pattern_automata.specs.declared.wants.Wants.{Wants}
use Rattle.pattern_automata.specs.declared.outcome.Product.{Product}
use Rattle.pattern_automata.specs.declared.outcome.Product.TheVariants.{Found, Empty, TooMany}
use Rattle.pattern_automata.specs.declared.tree.Parent.{Parent}
use Rattle.pattern_automata.specs.declared.tree.Step.{Step}
use Rattle.pattern_automata.specs.declared.tree.Step.TheVariants.{Left, Met, Full}
use Rattle.pattern_automata.specs.Packed.{all_words, word_mark, words_for}
use Rattle.pattern_automata.specs.Marks.{mark_count}
use Rattle.pattern_automata.specs.Tree.{Spells}
use Rattle.wildcard_lang.specs.Places.{lists_of, passing_numbers, ShowWider}
use Rattle.pattern_automata.specs.Closed.{Meets, IsClosed}

-- what a product may answer: a text that meets the clauses, a closed set of at most `limit` product states, or `limit + 1`
-- texts of which no two have the same one
abbrev pub IsProduct : List (List Piece) → List (List Literal) → ℕ → Product → Type 0
IsProduct patterns clauses limit (Found t) = Meets patterns clauses t × IsText t
IsProduct patterns clauses limit (Empty closed) = IsClosed patterns clauses closed × (length closed ≤ limit)
IsProduct patterns clauses limit (TooMany texts) = ShowWider patterns limit texts

-- the text meets the wants
abbrev pub IsTextFor : Wants → List ℕ → Type 0
IsTextFor wants t = Meets wants.patterns wants.clauses t × IsText t

-- each state has a word for each 64 marks
abbrev pub HaveWords : List (List Piece) → List (List ℕ) → Type 0
HaveWords patterns found = (k : ℕ) → k < length found → length (slice_index_or found k []) ≡ words_for (mark_count patterns)

-- the product state of the texts whose marks have these words
abbrev pub IsStateOf : List (List Piece) → List ℕ → List (List ℕ) → Type 0
IsStateOf patterns words state = (t : List ℕ) → words ≡ all_words patterns t → state ≡ lists_of patterns t

-- the list has got the places that are marked among so many from a place on
abbrev pub AddsPlaces : List ℕ → ℕ → ℕ → List ℕ → List ℕ → Type 0
AddsPlaces words at count old new = new ≡ old ++ passing_numbers (λ j. word_mark words (at + j)) 0 count

-- the lists have got those of the product state of the words
abbrev pub AddsLists : List (List Piece) → List ℕ → List (List ℕ) → List (List ℕ) → Type 0
AddsLists patterns words old new = (state : List (List ℕ)) × IsStateOf patterns words state × (new ≡ old ++ state)

abbrev pub AreStatesOf : List (List Piece) → List (List ℕ) → List (List (List ℕ)) → Type 0
AreStatesOf patterns found closed =
    (k : ℕ) (t : List ℕ) → k < length closed → slice_index_or found k [] ≡ all_words patterns t →
    slice_index_or closed k [] ≡ lists_of patterns t

-- each state of the closed set is that of the text of a state that was found
pub record AreLists (patterns : List (List Piece)) (found : List (List ℕ)) (closed : List (List (List ℕ))) : Type 0 where
  pub count : length closed ≡ length found
  pub each : AreStatesOf patterns found closed

abbrev pub SpellEach : List Parent → List (List ℕ) → Type 0
SpellEach parents texts = (k : ℕ) → k < length texts → Spells parents k (slice_index_or texts k [])

-- each text is the one that leads to a state
pub record AreTexts (parents : List Parent) (texts : List (List ℕ)) : Type 0 where
  pub count : length texts ≡ length parents
  pub each : SpellEach parents texts

abbrev pub IsReport : List (List Piece) → List (List ℕ) → List Parent → Step → Product → Type 0
IsReport patterns found parents Left (Empty closed) = AreLists patterns found closed
IsReport patterns found parents Left (Found t) = ⊥
IsReport patterns found parents Left (TooMany texts) = ⊥
IsReport patterns found parents Met (Found t) = Spells parents (length parents - 1) t
IsReport patterns found parents Met (Empty closed) = ⊥
IsReport patterns found parents Met (TooMany texts) = ⊥
IsReport patterns found parents Full (TooMany texts) = AreTexts parents texts
IsReport patterns found parents Full (Found t) = ⊥
IsReport patterns found parents Full (Empty closed) = ⊥
