use Rattle.std.proofs.Common.{[], ◌∷◌}
use Rattle.std.proofs.lemmas.Result.{err_from_is_err_and}
use Rattle.proof_text.specs.LineForms.{ExpectKindProof}
use Rattle.proof_text.specs.Spelling.{kind_lines}
use Rattle.proof_text.proofs.Taking.{fails-behind, fails-longer, four-takes, fourth-fails, third-fails}
use Rattle.proof_text.proofs.slots.read_kinds.Goals as goal

pub returns-in_err-aws-clause-kinds : goal.returns-in_err-aws-clause-kinds
returns-in_err-aws-clause-kinds c =
    let p = err_from_is_err_and c.from_residual.result c.from_residual.ensures.1 in
    rw (p.1, p.2) (fails-longer c.args.limits (ExpectKindProof ∷ []) (ExpectKindProof ∷ ExpectKindProof ∷ ExpectKindProof ∷ []) c.args.location _ c.in_err-aws.ensures)

pub returns-in_err-service-clause-kinds : goal.returns-in_err-service-clause-kinds
returns-in_err-service-clause-kinds c =
    let p = err_from_is_err_and c.from_residual-in_err-service.result c.from_residual-in_err-service.ensures.1 in
    rw (p.1, p.2) (fails-behind c.args.limits (ExpectKindProof ∷ []) (ExpectKindProof ∷ ExpectKindProof ∷ ExpectKindProof ∷ []) c.args.location c.in_ok-aws.first (kind_lines c.in_ok-aws.aws) _ c.in_ok-aws.ensures
    (fails-longer c.args.limits (ExpectKindProof ∷ []) (ExpectKindProof ∷ ExpectKindProof ∷ []) c.in_ok-aws.first _ c.in_err-service.ensures))

pub returns-in_err-federated-clause-kinds : goal.returns-in_err-federated-clause-kinds
returns-in_err-federated-clause-kinds c =
    let p = err_from_is_err_and c.from_residual-in_err-federated.result c.from_residual-in_err-federated.ensures.1 in
    rw (p.1, p.2) (third-fails c.args.limits ExpectKindProof c.args.location c.in_ok-aws.first c.in_ok-service.second (kind_lines c.in_ok-aws.aws) (kind_lines c.in_ok-service.service) _ c.in_ok-aws.ensures c.in_ok-service.ensures c.in_err-federated.ensures)

pub returns-in_err-canonical_user-clause-kinds : goal.returns-in_err-canonical_user-clause-kinds
returns-in_err-canonical_user-clause-kinds c =
    let p = err_from_is_err_and c.from_residual-in_err-canonical_user.result c.from_residual-in_err-canonical_user.ensures.1 in
    rw (p.1, p.2) (fourth-fails c.args.limits ExpectKindProof c.args.location c.in_ok-aws.first c.in_ok-service.second c.in_ok-federated.third (kind_lines c.in_ok-aws.aws) (kind_lines c.in_ok-service.service) (kind_lines c.in_ok-federated.federated) _
    c.in_ok-aws.ensures c.in_ok-service.ensures c.in_ok-federated.ensures c.in_err-canonical_user.ensures)

pub returns-clause-kinds : goal.returns-clause-kinds
returns-clause-kinds c =
    four-takes c.args.limits ExpectKindProof c.args.location c.in_ok-aws.first c.in_ok-service.second c.in_ok-federated.third c.in_ok-canonical_user.end (kind_lines c.in_ok-aws.aws) (kind_lines c.in_ok-service.service) (kind_lines c.in_ok-federated.federated) (kind_lines c.in_ok-canonical_user.canonical_user)
    c.in_ok-aws.ensures c.in_ok-service.ensures c.in_ok-federated.ensures c.in_ok-canonical_user.ensures
