use Rattle.std.proofs.Common.{arith, length, ◌≡◌, ◌∙◌, ap, subst, replicate, map, ℕ}
use Rattle.std.proofs.lemmas.List.{length-append}
use Rattle.std.proofs.lemmas.Result.{err_from_is_err_and}
use Rattle.proof_text.specs.LineForms.{ExpectState}
use Rattle.proof_text.specs.Lines.{places_line}
use Rattle.proof_text.specs.Steps.{TakesLines}
use Rattle.proof_text.proofs.Taking.{states-more, states-stop}
use Rattle.proof_text.proofs.states.read_states.Goals as goal

pub returns-in_err-state-clause-states : goal.returns-in_err-state-clause-states
returns-in_err-state-clause-states c =
    let p = err_from_is_err_and c.from_residual.result c.from_residual.ensures.1 in
    rw (p.1, p.2) (states-stop c.args.limits c.loop-done.done c.args.count c.args.location c.loop-done.at c.loop-done.set _ c.loop-done.invariant.0 (omega arith) c.in_err-state.ensures)

pub loop-done-preserved : goal.loop-done-preserved
loop-done-preserved c = (
  states-more c.args.limits c.loop-done.done _ c.args.location c.loop-done.at c.in_ok-state.behind c.loop-done.set _ c.in_ok-state.state c.loop-done.invariant.0 c.in_ok-state.ensures (omega arith) c.in_ok-push.ensures.ok,
  ap length c.in_ok-push.ensures.ok ∙ length-append c.loop-done.set _ ∙ omega arith,
)

pub returns-clause-states : goal.returns-clause-states
returns-clause-states c =
    let all : c.loop-done.done ≡ c.args.count = omega arith in
    subst (λ (n : ℕ). TakesLines c.args.limits (replicate n ExpectState) c.args.location (map places_line c.loop-done.set) c.loop-done.at) all c.loop-done.invariant.0
