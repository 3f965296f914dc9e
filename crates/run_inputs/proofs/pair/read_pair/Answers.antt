use Rattle.std.proofs.Common.{option_map}
use Rattle.std.proofs.lemmas.Result.{err_from_is_err_and}
use Rattle.run_inputs.proofs.FileLaws.{if_answered_weaker, or_answered_weaker}
use Rattle.run_inputs.specs.Pairs.{Contents, contents}
use Rattle.run_inputs.proofs.Chains.{first_refuses, run_refuses, run_stands, schema_refuses, second_refuses}
use Rattle.run_inputs.proofs.Laws.{refused_weaker}
use Rattle.run_inputs.proofs.pair.read_pair.Goals as goal

pub returns-in_err-named-clause-read : goal.returns-in_err-named-clause-read
returns-in_err-named-clause-read c =
    let files : Contents = contents c.args.first.now c.args.second.now (option_map (λ f. f.now) c.args.schema) in
    let p = err_from_is_err_and c.from_residual.result c.from_residual.ensures.1 in
    rw (p.1, p.2) (if_answered_weaker _ _ _ (refused_weaker _ _ (schema_refuses files)) c.in_err-named.ensures.value)

pub returns-in_err-first-clause-read : goal.returns-in_err-first-clause-read
returns-in_err-first-clause-read c =
    let files : Contents = contents c.args.first.now c.args.second.now (option_map (λ f. f.now) c.args.schema) in
    let p = err_from_is_err_and c.from_residual-in_err-first.result c.from_residual-in_err-first.ensures.1 in
    rw (p.1, p.2) (if_answered_weaker _ _ _ (refused_weaker _ _ (first_refuses files c.in_ok-named.named c.in_ok-named.ensures.value)) c.in_err-first.ensures.value)

pub returns-in_err-second-clause-read : goal.returns-in_err-second-clause-read
returns-in_err-second-clause-read c =
    let files : Contents = contents c.args.first.now c.args.second.now (option_map (λ f. f.now) c.args.schema) in
    let p = err_from_is_err_and c.from_residual-in_err-second.result c.from_residual-in_err-second.ensures.1 in
    rw (p.1, p.2) (if_answered_weaker _ _ _ (refused_weaker _ _ (second_refuses files c.in_ok-named.named c.in_ok-named.ensures.value c.in_ok-first.first c.in_ok-first.ensures.value)) c.in_err-second.ensures.value)

pub returns-clause-read : goal.returns-clause-read
returns-clause-read c =
    let files : Contents = contents c.args.first.now c.args.second.now (option_map (λ f. f.now) c.args.schema) in
    or_answered_weaker c.run_pair.result _ _ _ _
    (run_stands files c.in_ok-named.named c.in_ok-named.ensures.value c.in_ok-first.first c.in_ok-first.ensures.value c.in_ok-second.second c.in_ok-second.ensures.value)
    (refused_weaker _ _ (run_refuses files c.in_ok-named.named c.in_ok-named.ensures.value c.in_ok-first.first c.in_ok-first.ensures.value c.in_ok-second.second c.in_ok-second.ensures.value))
    c.run_pair.ensures.run
