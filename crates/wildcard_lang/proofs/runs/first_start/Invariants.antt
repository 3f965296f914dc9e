use Rattle.std.proofs.Common.{◌≡◌, List, ◌∷◌, ◌++◌, length}
use Rattle.wildcard_lang.specs.declared.piece.Piece.{Piece}
use Rattle.wildcard_lang.specs.Accepts.{accepts_by}
use Rattle.wildcard_lang.specs.Runs.{AreAhead}
use Rattle.wildcard_lang.proofs.runs.first_start.Given as goal

abbrev pub invariant-starts : goal.invariant-starts
invariant-starts g l = record {
  same : (ps : List Piece) → accepts_by g.X.Taken.taken (l.first ∷ (l.run ++ ps)) (g.S.Source.left l.fn.text) ≡ accepts_by g.X.Taken.taken (l.first ∷ (l.run ++ ps)) (g.S.Source.left l.start);
  ahead : AreAhead g.S.Source.left (g.S.Source.left l.start) l.probes;
}

abbrev pub decreases-starts : goal.decreases-starts
decreases-starts g l = length (g.S.Source.left l.start)
