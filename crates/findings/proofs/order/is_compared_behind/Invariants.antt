use Rattle.std.proofs.Common.{◌≡◌, ℕ, List, Some}
use Rattle.std.specs.Prelude.{slice_get}
use Rattle.policy_model.specs.declared.request.Request.{Request}
use Rattle.findings.specs.Judging.{IsApartBetween, EachOrder}
use Rattle.findings.proofs.order.is_compared_behind.Given as goal

-- none of the pairs so far
abbrev pub invariant-behind : goal.invariant-behind
invariant-behind l = (p : List ℕ × Request) → slice_get l.pairs l.i ≡ Some p → EachOrder l.strata (λ schema. IsApartBetween schema l.strata.dimensions p.0 l.pairs l.i l.j)
