use Rattle.std.proofs.Common.{ℕ, List, Option, option_map}
use Rattle.std.proofs.lemmas.Result.{err_from_is_err_and}
use Rattle.run_inputs.proofs.FileLaws.{if_answered_weaker, or_answered_weaker}
use Rattle.run_inputs.proofs.Chains.{one_run_refuses, one_run_stands, one_schema_refuses, set_refuses}
use Rattle.run_inputs.proofs.Laws.{refused_weaker}
use Rattle.run_inputs.proofs.one_set.read_one.Goals as goal

pub returns-in_err-named-clause-read : goal.returns-in_err-named-clause-read
returns-in_err-named-clause-read c =
    let file : Option (List ℕ) = option_map (λ f. f.now) c.args.schema in
    let p = err_from_is_err_and c.from_residual.result c.from_residual.ensures.1 in
    rw (p.1, p.2) (if_answered_weaker _ _ _ (refused_weaker _ _ (one_schema_refuses c.args.set.now file)) c.in_err-named.ensures.value)

pub returns-in_err-set-clause-read : goal.returns-in_err-set-clause-read
returns-in_err-set-clause-read c =
    let file : Option (List ℕ) = option_map (λ f. f.now) c.args.schema in
    let p = err_from_is_err_and c.from_residual-in_err-set.result c.from_residual-in_err-set.ensures.1 in
    rw (p.1, p.2) (if_answered_weaker _ _ _ (refused_weaker _ _ (set_refuses c.args.set.now file c.in_ok-named.named c.in_ok-named.ensures.value)) c.in_err-set.ensures.value)

pub returns-clause-read : goal.returns-clause-read
returns-clause-read c =
    let file : Option (List ℕ) = option_map (λ f. f.now) c.args.schema in
    or_answered_weaker c.run_one.result _ _ _ _
    (one_run_stands c.args.set.now file c.in_ok-named.named c.in_ok-named.ensures.value c.in_ok-set.set c.in_ok-set.ensures.value)
    (refused_weaker _ _ (one_run_refuses c.args.set.now file c.in_ok-named.named c.in_ok-named.ensures.value c.in_ok-set.set c.in_ok-set.ensures.value))
    c.run_one.ensures.run
