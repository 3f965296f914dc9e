use Rattle.std.proofs.Common.{rules, ◌≡◌, Bool, false, subst, sym}
use Rattle.std.proofs.lemmas.Result.{err_from_is_err_and}
use Rattle.compare_answers.specs.Decided.{IsComparison}
use Rattle.compare_answers.proofs.Comparing.{comparison_if_decided, query_below, query_tests}
use Rattle.compare_answers.proofs.decision.compare.Goals as goal

pub decide-requires-clause-suit : goal.decide-requires-clause-suit
decide-requires-clause-suit c = query_tests c.args.pair.now c.in_ok-query.query c.requires.fitting c.in_ok-query.ensures

pub decide-requires-clause-below : goal.decide-requires-clause-below
decide-requires-clause-below c = query_below c.args.pair.now c.in_ok-query.query c.in_ok-query.ensures

pub returns-then-not-certified : goal.returns-then-not-certified
returns-then-not-certified c =
    let plain : c.args.certified ≡ false = search rules in
    subst (λ (b : Bool). IsComparison b c.args.budgets c.args.pair.now c.in_ok-answer.answer) (sym plain) c.in_ok-answer.ensures

pub returns : goal.returns
returns c =
    comparison_if_decided c.closed_queries_are_no.ensures c.closing_proofs_are_small.ensures c.closing_proofs_have_no_fault.ensures c.written_requests_are_read_again.ensures c.args.pair.now (c.sound_schemas_have_requests.ensures c.args.pair.now.schema c.requires.fitting.sound) c.in_ok-query.query
    c.args.certified c.args.budgets c.in_ok-decided.decided c.requires.fitting c.in_ok-query.ensures c.in_ok-decided.ensures.decision c.in_ok-decision_answer.field-0 c.in_ok-decision_answer.ensures

pub returns-in_err-query : goal.returns-in_err-query
returns-in_err-query c = let p = err_from_is_err_and c.from_residual.result c.from_residual.ensures.1 in rw (p.1, p.2) c.in_err-query.ensures

pub returns-in_err-answer : goal.returns-in_err-answer
returns-in_err-answer c = let p = err_from_is_err_and c.from_residual-in_err-answer.result c.from_residual-in_err-answer.ensures.1 in rw (p.1, p.2) tt

pub returns-in_err-decided : goal.returns-in_err-decided
returns-in_err-decided c = let p = err_from_is_err_and c.from_residual-in_err-decided.result c.from_residual-in_err-decided.ensures.1 in rw (p.1, p.2) tt
