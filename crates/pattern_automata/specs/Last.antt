-- When a closed set of some patterns is one of others too.
use Rattle.std.specs.Prelude.{◌≡◌, ℕ, List, map}
use Rattle.wildcard_lang.specs.declared.piece.Piece.{Piece}
use Rattle.pattern_automata.specs.declared.wants.Literal.{Literal}
use Rattle.pattern_automata.specs.declared.machine.Machine.{Machine}
use Rattle.pattern_automata.specs.declared.moves.Move.{Move}
use Rattle.pattern_automata.specs.declared.moves.Patch.{Patch}
use Rattle.pattern_automata.specs.Closed.{IsClosed}
use Rattle.pattern_automata.specs.Machine.{IsMachine}

abbrev pub patches_of : List Move → List (List Patch)
patches_of moves = map (λ m. m.patches.items) moves

-- the machines differ at most in the characters of their moves
pub record DifferInCharacters (m n : Machine) : Type 0 where
  pub ends : m.ends.items ≡ n.ends.items
  pub one : m.masks.one.items ≡ n.masks.one.items
  pub many : m.masks.many.items ≡ n.masks.many.items
  pub moves : patches_of m.moves.items ≡ patches_of n.moves.items

-- the set is closed for the clauses over patterns that have the machine
abbrev pub IsClosedBy : List (List Literal) → Machine → List (List (List ℕ)) → Type 0
IsClosedBy clauses m set = (patterns : List (List Piece)) × IsMachine patterns m × IsClosed patterns clauses set
