-- What the check of a closed set looks at: the words of each product state, and an index of those that could be reached.
use Rattle.std.specs.Prelude.{◌≡◌, ℕ, List, [], ◌∷◌, length, take, slice_index_or, Bool}
use Rattle.std.specs.Prelude.{true, false, ◌&&◌, nat_le, IsTrue, ◌↔◌, ◌⊎◌, Contains}
use Rattle.std.specs.Bool.{MatchBool}
use Rattle.std.specs.List.{list_all}
use Rattle.wildcard_lang.specs.declared.piece.Piece.{Piece}
use Rattle.std.specs.Char.{IsScalar}
use Rattle.pattern_automata.specs.declared.wants.Literal.{Literal}
use Rattle.pattern_automata.specs.declared.wants.Wants.{Wants}
use Rattle.pattern_automata.specs.declared.machine.Machine.{Machine}
use Rattle.pattern_automata.specs.declared.check.Members.{Members}
use Rattle.wildcard_lang.specs.Places.{contains_place}
use Rattle.pattern_automata.specs.Marks.{all_reached, marks_from, mark_count}
use Rattle.pattern_automata.specs.Moves.{characters_of}
use Rattle.pattern_automata.specs.Tree.{words_meet}
use Rattle.pattern_automata.specs.Packed.{pack}

-- whether each place is at most the number of pieces
abbrev pub places_fit : List (List Piece) → List (List ℕ) → Bool
places_fit [] lists = true
places_fit (p ∷ ps) [] = true
places_fit (p ∷ ps) (l ∷ ls) = list_all (λ j. nat_le j (length p)) l && places_fit ps ls

-- the words of the marks of a state
abbrev pub words_from : List (List Piece) → List (List ℕ) → List ℕ
words_from patterns lists = pack (marks_from patterns lists)

-- these are the words of one of the states
abbrev pub HasStateOf : List (List Piece) → List (List (List ℕ)) → List ℕ → Type 0
HasStateOf patterns closed w = (lists : List (List ℕ)) × Contains closed lists × (words_from patterns lists ≡ w)

-- and of one whose places fit
abbrev pub HasFittingOf : List (List Piece) → List (List (List ℕ)) → List ℕ → Type 0
HasFittingOf patterns closed w =
    (lists : List (List ℕ)) × Contains closed lists × (places_fit patterns lists ≡ true) × (words_from patterns lists ≡ w)

-- the words of the states: exactly those of the states whose places fit, and those of the others
pub record AreIndexed (patterns : List (List Piece)) (closed : List (List (List ℕ))) (fitting others : List (List ℕ)) : Type 0 where
  pub fit : (w : List ℕ) → Contains fitting w ↔ HasFittingOf patterns closed w
  pub other : (w : List ℕ) → Contains others w → HasStateOf patterns closed w
  pub each : (lists : List (List ℕ)) → Contains closed lists →
      Contains fitting (words_from patterns lists) ⊎ Contains others (words_from patterns lists)

abbrev pub AreMembers : List (List Piece) → List (List (List ℕ)) → Members → Type 0
AreMembers patterns closed m = AreIndexed patterns closed m.fitting m.others

-- the state at an index stands before it too
abbrev pub StandsBefore : List (List (List ℕ)) → ℕ → Type 0
StandsBefore closed i = Contains (take i closed) (slice_index_or closed i [])

-- the words and one more
abbrev pub HasAlso : List (List ℕ) → List ℕ → List (List ℕ) → Type 0
HasAlso old words new = (w : List ℕ) → Contains new w ↔ (Contains old w ⊎ (words ≡ w))

-- the words of one state more
abbrev pub TakesIn : List (List Piece) → List (List ℕ) → Members → Members → Type 0
TakesIn patterns lists old new =
    MatchBool (places_fit patterns lists)
    (HasAlso old.fitting (words_from patterns lists) new.fitting × (new.others ≡ old.others))
    (HasAlso old.others (words_from patterns lists) new.others × (new.fitting ≡ old.fitting))

-- the words are those of as many marks as the patterns have
abbrev pub IsOfMarks : List (List Piece) → List ℕ → Type 0
IsOfMarks patterns words = (marks : List Bool) × (length marks ≡ mark_count patterns) × (words ≡ pack marks)

-- the state passes: its marks meet no clauses, and each character leads to marks of the index
pub record Passes (patterns : List (List Piece)) (ends : List ℕ) (clauses : List (List Literal))
    (characters : List ℕ) (index : List (List ℕ)) (marks : List Bool) : Type 0 where
  pub none : words_meet ends clauses (pack marks) ≡ false
  pub steps : (c : ℕ) → IsScalar c → contains_place characters c ≡ true → Contains index (pack (all_reached patterns marks c))

abbrev pub PassesBy : Wants → Machine → List (List ℕ) → List Bool → Type 0
PassesBy w m index marks = Passes w.patterns m.ends.items w.clauses (characters_of m.moves.items) index marks

-- marks with one of these words pass
abbrev pub HavePassed : Wants → Machine → List (List ℕ) → List (List ℕ) → Type 0
HavePassed w m index passed =
    (marks : List Bool) → length marks ≡ mark_count w.patterns → Contains passed (pack marks) → PassesBy w m index marks

-- the answer is whether marks with these words pass
abbrev pub DecidesWhether : Wants → Machine → List (List ℕ) → List ℕ → Bool → Type 0
DecidesWhether w m index words answer =
    (marks : List Bool) → length marks ≡ mark_count w.patterns → words ≡ pack marks → IsTrue answer ↔ PassesBy w m index marks
