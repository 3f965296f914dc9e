use Rattle.std.proofs.Common.{◌≡◌, Bool, IsTrue, ◌↔◌, sym, subst}
use Rattle.strata.proofs.Equal.{predicates-Decides}
use Rattle.strata.proofs.asking.is_equal.Goals as goal

pub returns : goal.returns
returns c = subst (λ (b : Bool). IsTrue b ↔ (c.args.one.now ≡ c.args.other.now)) (sym c.eq.ensures) (predicates-Decides c.args.one.now c.args.other.now)
