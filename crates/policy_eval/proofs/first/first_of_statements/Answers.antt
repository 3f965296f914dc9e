use Rattle.std.proofs.Common.{◌≡◌, ◌+◌, get_or, Some, None, arith, sym, ap, subst}
use Rattle.policy_model.specs.StatementNames.{name_of}
use Rattle.policy_model.specs.Sets.{Decides}
use Rattle.policy_eval.proofs.Firsts.{statement-found, statement-passed, statements-left}
use Rattle.policy_eval.proofs.first.first_of_statements.Goals as goal

pub returns-then-decides : goal.returns-then-decides
returns-then-decides c =
    let e : c.loop-i.i + 1 ≡ 1 + c.loop-i.i = omega arith in
    c.loop-i.invariant (Some (name_of c.args.document (c.loop-i.i + 1)))
    (statement-found c.args.schema.now c.args.allow c.args.request.now c.args.document c.loop-i.i c.args.statements.now c.index-statements-i.result (name_of c.args.document (c.loop-i.i + 1)) c.loop-i-test.true
    (ap (λ k. name_of c.args.document k) e)
    (subst (Decides c.args.schema.now c.args.allow c.args.request.now) c.index-statements-i.is (c.decides.ensures.0 c.if-decides.true)))

pub loop-i-preserved : goal.loop-i-preserved
loop-i-preserved c =
    let not : ¬ Decides c.args.schema.now c.args.allow c.args.request.now (get_or c.args.statements.now c.loop-i.i c.index-statements-i.result) =
    λ yes. absurd (cc (c.decides.ensures.1 (subst (Decides c.args.schema.now c.args.allow c.args.request.now) (sym c.index-statements-i.is) yes))) in
    λ o first. c.loop-i.invariant o (statement-passed c.args.schema.now c.args.allow c.args.request.now c.args.document c.loop-i.i c.args.statements.now c.index-statements-i.result c.loop-i-test.true not o first)

pub returns : goal.returns
returns c = c.loop-i.invariant None (statements-left c.args.schema.now c.args.allow c.args.request.now c.args.document (1 + c.loop-i.i) c.loop-i.i c.args.statements.now c.loop-i-test.false)
