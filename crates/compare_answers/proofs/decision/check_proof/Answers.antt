use Rattle.std.proofs.Common.{rules, subst, sym}
use Rattle.std.proofs.lemmas.Result.{err_from_is_err_and}
use Rattle.proof_text.specs.declared.fault.ProofFault.{ProofFault}
use Rattle.proof_text.specs.Laws.{limits_of}
use Rattle.proof_text.specs.Reads.{IsReadFrom}
use Rattle.compare_answers.specs.declared.answer.CheckAnswer.TheVariants.{BadProof}
use Rattle.compare_answers.specs.Decided.{IsChecked}
use Rattle.compare_answers.proofs.Comparing.{bad-proof, checked_if_read, query_tests}
use Rattle.compare_answers.proofs.decision.check_proof.Goals as goal

pub verdict_answer-requires-clause-suit : goal.verdict_answer-requires-clause-suit
verdict_answer-requires-clause-suit c = query_tests c.args.pair.now c.in_ok-query.query c.requires.fitting c.in_ok-query.ensures

pub returns-in-Ok : goal.returns-in-Ok
returns-in-Ok c =
    let from : IsReadFrom (limits_of c.in_ok-query.query.tests c.args.pair.now.schema.version) c.args.proof.now c.in-Ok.read = search rules in
    checked_if_read c.closed_queries_are_no.ensures c.args.pair.now (c.sound_schemas_have_requests.ensures c.args.pair.now.schema c.requires.fitting.sound) c.in_ok-query.query c.args.proof.now c.in-Ok.read c.requires.fitting c.in_ok-query.ensures from c.in_ok-verdict_answer-in-Ok.field-0 c.in_ok-verdict_answer-in-Ok.ensures

pub returns-in-Err-Refused : goal.returns-in-Err-Refused
returns-in-Err-Refused c =
    subst (λ (f : ProofFault). IsChecked c.args.proof.now c.args.pair.now (BadProof f)) (sym c.in-Err-Refused.fault-is)
    (bad-proof c.args.pair.now c.in_ok-query.query c.args.proof.now _ c.in-Err-Refused.field-0 c.in-Err-Refused.fault c.in_ok-query.ensures c.in-Err-Refused.ensures.read c.in-Err-Refused.field-0-is (search rules))

pub returns-in_err-query : goal.returns-in_err-query
returns-in_err-query c = let p = err_from_is_err_and c.from_residual.result c.from_residual.ensures.1 in rw (p.1, p.2) c.in_err-query.ensures
