use Rattle.std.proofs.Common.{ℕ, List, subst, ◌∙◌}
use Rattle.refute_check.specs.Accepted.{AnswersFor}
use Rattle.refute_check.proofs.Accepting.{accepted-with}
use Rattle.refute_check.proofs.accepted.accepted_core.Goals as goal

pub returns : goal.returns
returns c =
    let path = c.args.path.now in
    let follow = subst (λ (tests : List ℕ). AnswersFor path tests c.in_ok-answers.answers) c.as_slice.ensures c.in_ok-answers.ensures in
    accepted-with path c.args.core.now c.args.proof.now.value (record { core = c.from_vec-core.result; answers = c.in_ok-answers.answers; proof = c.in_ok-proof.proof }) follow
    (c.from_vec-core.ensures ∙ c.in_ok-from_slice.ensures.items ∙ c.as_slice-2.ensures) c.in_ok-proof.ensures
