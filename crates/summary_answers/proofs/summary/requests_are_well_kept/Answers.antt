use Rattle.std.proofs.Common.{◌<◌, ℕ, List, length, arith, subst}
use Rattle.std.proofs.lemmas.List.Elements.{All-more}
use Rattle.policy_model.specs.declared.request.Request.{Request}
use Rattle.policy_model.specs.Requests.{IsWellKept}
use Rattle.summary_answers.proofs.summary.requests_are_well_kept.Goals as goal

pub loop-found-preserved : goal.loop-found-preserved
loop-found-preserved c =
    let kept : List ℕ × Request → Type 0 = λ (p : List ℕ × Request). IsWellKept p.1 in
    let within : c.loop-found.found-index < length c.args.summary.now = omega arith in
    All-more kept c.args.summary.now c.loop-found.found-index c.found-item.result within c.loop-found.invariant
    (subst kept c.found-item.is c.keys_are_well_kept.ensures)
