use Rattle.std.proofs.Common.{◌+◌, ℕ, List, sym, subst, arith}
use Rattle.strata.specs.Rows.{AreMaximalByRows}
use Rattle.strata.proofs.Listing.{told-end, told-none, told-push}
use Rattle.strata.proofs.covers.all_covered.Goals as goal

pub loop-i-init : goal.loop-i-init
loop-i-init c = record {
  within = omega arith;
  told = subst (λ (xs : List (List ℕ)). AreMaximalByRows c.args.rows.now 0 xs) (sym c.new-lists.ensures) (told-none c.args.rows.now);
}

pub loop-i-preserved : goal.loop-i-preserved
loop-i-preserved c = record {
  within = omega (arith, c.loop-i-test.true);
  told = subst (λ (xs : List (List ℕ)). AreMaximalByRows c.args.rows.now (c.loop-i.i + 1) xs) (sym c.in_ok-push.ensures.ok) (told-push c.args.rows.now c.loop-i.i c.loop-i.lists c.in_ok-numbers.numbers c.loop-i.invariant.told c.in_ok-numbers.ensures);
}

pub returns : goal.returns
returns c = told-end c.args.rows.now c.loop-i.i c.loop-i.lists c.loop-i.invariant.within c.loop-i-test.false c.loop-i.invariant.told
