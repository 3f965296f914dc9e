use Rattle.std.proofs.Common.{◌≡◌, [], ◌∷◌, length}
use Rattle.wildcard_lang.specs.Accepts.{accepts_by}
use Rattle.wildcard_lang.proofs.matching.takes_rest.Given as goal

abbrev pub invariant-text : goal.invariant-text
invariant-text g l = accepts_by g.X.Taken.taken (l.piece ∷ []) (g.S.Source.left l.left) ≡ accepts_by g.X.Taken.taken (l.piece ∷ []) (g.S.Source.left l.fn.text)

abbrev pub decreases-text : goal.decreases-text
decreases-text g l = length (g.S.Source.left l.left)
