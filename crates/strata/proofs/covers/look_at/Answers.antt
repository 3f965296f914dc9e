use Rattle.std.proofs.Common.{ℕ, ◌+◌, List, sym, subst}
use Rattle.strata.specs.Rows.{AreListed, IsMaximalByRows}
use Rattle.strata.proofs.Listing.{listed-push, listed-skip}
use Rattle.strata.proofs.covers.look_at.Goals as goal

pub returns-then-not-is_maximal_below : goal.returns-then-not-is_maximal_below
returns-then-not-is_maximal_below c =
    listed-skip (IsMaximalByRows c.args.rows.now c.args.i) c.args.j c.args.numbers.now c.requires.before
    (λ told. let on = c.is_maximal_below.ensures.1 told in absurd (cc))

pub returns : goal.returns
returns c =
    subst (λ (ns : List ℕ). AreListed (IsMaximalByRows c.args.rows.now c.args.i) (c.args.j + 1) ns) (sym c.in_ok-push.ensures.ok)
    (listed-push (IsMaximalByRows c.args.rows.now c.args.i) c.args.j c.args.numbers.now c.requires.before (c.is_maximal_below.ensures.0 c.if-not-is_maximal_below.false))
