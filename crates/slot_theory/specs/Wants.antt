-- What tests of a slot want of a word or of the id of a principal, with `?*` and the slot's shape.
use Rattle.std.specs.Prelude.{◌≡◌, ℕ, ◌+◌, List, [], ◌∷◌, ◌++◌, flat_map, Bool, true, false, Option, Some, None, unwrap_or}
use Rattle.std.specs.Option.{option_to_list}
use Rattle.wildcard_lang.specs.declared.piece.Piece.{Piece}
use Rattle.formula_tree.specs.Answers.{Answers, answer_of}
use Rattle.pattern_automata.specs.declared.wants.Literal.{Literal}
use Rattle.pattern_automata.specs.declared.wants.Wants.{Wants}
use Rattle.pattern_automata.specs.Closed.{IsClosed}
use Rattle.policy_model.specs.declared.test.Test.{Test}
use Rattle.slot_theory.specs.Slots.{pattern_of, some_word, test_at}

-- the patterns of the tests of these numbers in their order
abbrev pub patterns_of : List Test → List ℕ → List (List Piece)
patterns_of tests numbers = flat_map (λ n. option_to_list (pattern_of (test_at tests n))) numbers

-- and then `?*`, and then the shape, where one is given
abbrev pub wanted_patterns : List Test → List ℕ → Option (List Piece) → List (List Piece)
wanted_patterns tests numbers shape = patterns_of tests numbers ++ some_word ∷ option_to_list shape

-- the clause that the pattern of this number matches or not
abbrev pub wanted_clause : ℕ → Bool → List Literal
wanted_clause i holds = record { pattern = i; holds = holds } ∷ []

-- the clause that the shape matches, where one is given
abbrev pub shape_clauses : Option (List Piece) → ℕ → List (List Literal)
shape_clauses None i = []
shape_clauses (Some shape) i = wanted_clause i true ∷ []

-- one clause for each of the tests, whose patterns are numbered from i on: it matches as the path answers it. Then `?*` matches,
-- and then the shape
abbrev pub wanted_clauses : Answers → List ℕ → Option (List Piece) → ℕ → List (List Literal)
wanted_clauses path [] shape i = wanted_clause i true ∷ shape_clauses shape (i + 1)
wanted_clauses path (n ∷ numbers) shape i =
    wanted_clause i (unwrap_or (answer_of path n) false) ∷ wanted_clauses path numbers shape (i + 1)

-- the wants of the tests of these numbers
pub record IsWants (tests : List Test) (path : Answers) (numbers : List ℕ) (shape : Option (List Piece)) (wants : Wants)
    : Type 0 where
  pub patterns : wants.patterns ≡ wanted_patterns tests numbers shape
  pub clauses : wants.clauses ≡ wanted_clauses path numbers shape 0

-- the set is closed for what the tests of these numbers want
abbrev pub IsClosedFor : List Test → Answers → List ℕ → Option (List Piece) → List (List (List ℕ)) → Type 0
IsClosedFor tests path numbers shape closed =
    IsClosed (wanted_patterns tests numbers shape) (wanted_clauses path numbers shape 0) closed
