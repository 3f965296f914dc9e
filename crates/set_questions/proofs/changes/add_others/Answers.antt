use Rattle.std.proofs.Common.{◌≡◌, ◌++◌, ◌-◌, map, nat_eq}
use Rattle.std.proofs.lemmas.Bool.{eq-eqb, eqb-true}
use Rattle.formula_nodes.specs.Claims.{turned_claim}
use Rattle.set_questions.specs.Removal.{without_item}
use Rattle.set_questions.proofs.Removing.{mapped-next}
use Rattle.set_questions.proofs.changes.add_others.Goals as goal

pub loop-claim-preserved : goal.loop-claim-preserved
loop-claim-preserved c =
    let n = c.loop-claim.left in
    let one = nat_eq n 1 in
    let xs = c.args.claims.now in
    let i = c.loop-claim.claim-index in
    let f = turned_claim c.args.holds in
    let left : c.saturating_sub-left.result ≡ n - 1 = c.saturating_sub-left.ensures in
    rw (c.in_ok-add_other.ensures, left) (mapped-next f n i one c.loop-claim.others (c.args.others.now ++ map f (without_item c.args.number xs)) xs _ c.loop-claim-test.true (λ e. eqb-true n 1 e) (λ e. eq-eqb n 1 e) c.loop-claim.invariant)
