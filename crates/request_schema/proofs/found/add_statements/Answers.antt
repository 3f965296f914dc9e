use Rattle.std.proofs.Common.{◌++◌, List, map, ◌+◌, ap, ◌∙◌}
use Rattle.policy_model.specs.declared.operator.Condition.{Condition}
use Rattle.policy_model.specs.StatementNames.{name_of}
use Rattle.request_schema.specs.Uses.{use_of, uses_found}
use Rattle.request_schema.proofs.Finding.{all-found, no-statements, part-found, statements-left}
use Rattle.request_schema.proofs.found.add_statements.Goals as goal

pub loop-i-preserved : goal.loop-i-preserved
loop-i-preserved c =
    let x = c.index-statements-i.result in
    let left = statements-left c.args.second c.args.document (c.loop-i.i + 1) c.loop-i.i c.args.statements.now x c.loop-i-test.true c.index-statements-i.is in
    let taken = ap (λ (cs : List Condition). map (use_of c.args.second (name_of c.args.document (c.loop-i.i + 1))) cs) c.as_slice.ensures in
    let grown = c.in_ok-add_conditions.ensures ∙ ap (λ part. uses_found c.loop-i.uses.items ++ part) taken in
    part-found _ _ (map (use_of c.args.second (name_of c.args.document (c.loop-i.i + 1))) x.conditions) _ _ _ grown left c.loop-i.invariant

pub returns : goal.returns
returns c = all-found _ _ _ (no-statements c.args.second c.args.document (c.loop-i.i + 1) c.loop-i.i c.args.statements.now c.loop-i-test.false) c.loop-i.invariant
