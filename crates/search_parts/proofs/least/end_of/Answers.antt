use Rattle.std.proofs.Common.{◌<◌, ℕ, Bool, false, List, All, subst, arith}
use Rattle.std.proofs.lemmas.List.{take_all}
use Rattle.std.proofs.lemmas.List.Elements.{All-more, All-weaker}
use Rattle.search_parts.proofs.least.end_of.Goals as goal

pub pairs-preserved : goal.pairs-preserved
pairs-preserved c = (
  All-more (λ (a : ℕ × Bool). a.0 < c.end_with-end.result) c.args.pairs.now c.pairs.pair-index (0, false) c.pairs-test.true
      (All-weaker (λ (a : ℕ × Bool). a.0 < c.pairs.end) (λ (a : ℕ × Bool). a.0 < c.end_with-end.result) (λ a h. omega (arith, h, c.end_with-end.ensures.kept)) _ c.pairs.invariant.0) c.end_with-end.ensures.above,
  c.end_with-end.ensures.few,
)

pub returns-clause-above : goal.returns-clause-above
returns-clause-above c =
    subst (λ (l : List (ℕ × Bool)). All (λ (a : ℕ × Bool). a.0 < c.pairs.end) l) (take_all c.pairs.pair-index c.args.pairs.now c.pairs-test.false) c.pairs.invariant.0
