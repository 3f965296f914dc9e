use Rattle.std.proofs.Common.{◌≡◌, false, sym, ◌∙◌}
use Rattle.std.proofs.lemmas.List.Elements.{All-more}
use Rattle.wildcard_lang.specs.Matching.{is_many}
use Rattle.wildcard_lang.proofs.runs.run_length.Goals as goal

pub pieces-preserved : goal.pieces-preserved
pieces-preserved c =
    All-more (λ p. is_many p ≡ false) c.args.pieces.now c.pieces.i _ c.pieces-test.true c.pieces.invariant (sym c.is_many.ensures ∙ c.if-is_many.false)
