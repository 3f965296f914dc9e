use Rattle.std.proofs.Common.{ℕ, List, sym, subst, arith}
use Rattle.strata.specs.Rows.{AreListed, IsMaximalByRows}
use Rattle.strata.proofs.Listing.{listed-end, listed-none}
use Rattle.strata.proofs.covers.covered.Goals as goal

pub loop-j-init : goal.loop-j-init
loop-j-init c = record {
  within = omega arith;
  listed = subst (λ (ns : List ℕ). AreListed (IsMaximalByRows c.args.rows.now c.args.i) 0 ns) (sym c.new-numbers.ensures) (listed-none (IsMaximalByRows c.args.rows.now c.args.i));
}

pub returns : goal.returns
returns c = listed-end (IsMaximalByRows c.args.rows.now c.args.i) c.loop-j.j c.args.rows.now c.loop-j.numbers c.loop-j.invariant.within c.loop-j-test.false c.loop-j.invariant.listed
