-- What a search keeps, of the structs of its functions.
use Rattle.std.specs.Prelude.{◌≡◌, ℕ, ◌<◌, ◌≤◌, List, [], ◌∷◌, length, slice_index_or, Bool}
use Rattle.wildcard_lang.specs.declared.piece.Piece.{Piece}
use Rattle.pattern_automata.specs.declared.wants.Wants.{Wants}
use Rattle.pattern_automata.specs.declared.machine.Machine.{Machine}
use Rattle.pattern_automata.specs.declared.moves.Move.{Move}
use Rattle.pattern_automata.specs.declared.search.Search.{Search}
use Rattle.pattern_automata.specs.declared.search.Room.{Room}
use Rattle.pattern_automata.specs.declared.tree.Step.{Step}
use Rattle.pattern_automata.specs.Marks.{all_reached, mark_count}
use Rattle.pattern_automata.specs.Moves.{characters_of}
use Rattle.pattern_automata.specs.Packed.{all_words, pack}
use Rattle.pattern_automata.specs.Tree.{IsTree, IsTurn, IsBase, IsVisit, IsLeftOpen, IsExpansion, IsOutcome}

-- the search has found the product state of the empty text alone
pub record HasBegun (patterns : List (List Piece)) (s : Search) : Type 0 where
  pub found : s.found ≡ all_words patterns [] ∷ []
  pub parents : length s.parents.items ≡ 1
  pub words : s.room.words.items ≡ all_words patterns []

-- the words are those to which c leads from the state
abbrev pub LeadsByWords : List (List Piece) → List ℕ → ℕ → List ℕ → Type 0
LeadsByWords patterns state c words =
    (marks : List Bool) → length marks ≡ mark_count patterns → state ≡ pack marks → words ≡ pack (all_reached patterns marks c)

-- the move leads from the state where one before it does
abbrev pub StepsAsEarlier : Wants → Machine → ℕ → Move → List ℕ → Type 0
StepsAsEarlier w m k step state =
    (e : ℕ) × (e < k)
    × ((marks : List Bool) → length marks ≡ mark_count w.patterns → state ≡ pack marks →
    pack (all_reached w.patterns marks step.character)
    ≡ pack (all_reached w.patterns marks (slice_index_or (characters_of m.moves.items) e 0)))

abbrev pub LeadsInto : Wants → List ℕ → Move → Room → Type 0
LeadsInto w state step room = LeadsByWords w.patterns state step.character room.words.items

abbrev pub Turns : Wants → Search → Search → ℕ → Move → Bool → Type 0
Turns w old new i step = IsTurn w.patterns old.found new.found new.parents.items new.room.words.items i step.character

abbrev pub IsUnderWay : Wants → Machine → Search → ℕ → Type 0
IsUnderWay w m s limit = IsBase w.patterns m.ends.items w.clauses s.found s.parents.items limit

abbrev pub Visits : Wants → Machine → Search → Search → ℕ → Move → ℕ → Step → Type 0
Visits w m old new i step limit =
    IsVisit w.patterns m.ends.items w.clauses old.found new.found new.parents.items i step.character limit

abbrev pub IsLeftAt : Wants → Machine → Search → ℕ → ℕ → Type 0
IsLeftAt w m s i limit = IsLeftOpen w.patterns m.ends.items w.clauses (characters_of m.moves.items) s.found s.parents.items i limit

abbrev pub Expands : Wants → Machine → Search → ℕ → ℕ → Step → Type 0
Expands w m s i limit =
    IsExpansion w.patterns m.ends.items w.clauses (characters_of m.moves.items) s.found s.parents.items i limit

abbrev pub Ends : Wants → Machine → Search → ℕ → Step → Type 0
Ends w m s limit = IsOutcome w.patterns m.ends.items w.clauses (characters_of m.moves.items) s.found s.parents.items limit

-- the product states of the search are a tree
abbrev pub HasTree : Wants → Search → Type 0
HasTree w s = IsTree w.patterns s.found s.parents.items

-- they still are, and none was taken away
abbrev pub GrowsTree : Wants → Search → Search → Bool → Type 0
GrowsTree w old new met = HasTree w new × (length old.found ≤ length new.found)
