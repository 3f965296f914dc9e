use Rattle.std.proofs.Common.{◌++◌, List, drop, ◌+◌, ap, sym, ◌∙◌}
use Rattle.std.specs.List.{flat_map}
use Rattle.json_shapes.specs.Checks.{first_fault}
use Rattle.json_shapes.proofs.Laws.{first_fault-rest, from_here}
use Rattle.policy_model.specs.declared.value.Kind.{Kind}
use Rattle.request_schema.specs.KeyUses.{checks_by}
use Rattle.request_schema.specs.RunSchemas.{use_checks}
use Rattle.request_schema.specs.Uses.{Use, use_found, uses_found}
use Rattle.request_schema.proofs.Passing.{use-refused}
use Rattle.request_schema.proofs.inference.check_uses.Goals as goal

pub returns-in_err-check_use : goal.returns-in_err-check_use
returns-in_err-check_use c =
    let checks = checks_by c.args.named.now c.args.table.now in
    let u = use_found c.found-item.result in
    let rest = flat_map checks (uses_found (drop (c.loop-found.found-index + 1) c.args.uses.now)) in
    let here = from_here use_found c.args.uses.now c.loop-found.found-index c.found-item.result c.loop-found-test.true c.found-item.is in
    let fixed = ap (λ (k : Kind). first_fault (use_checks c.args.named.now k u ++ rest)) c.kind_fixed-fixed.ensures in
    let same = c.loop-found.invariant ∙ ap (λ (us : List Use). first_fault (flat_map checks us)) here ∙ sym fixed in
    use-refused (flat_map checks (uses_found c.args.uses.now)) (use_checks c.args.named.now c.kind_fixed-fixed.result u) rest _ _ same c.in_err-check_use.ensures c.from_residual.ensures.1

pub loop-found-preserved : goal.loop-found-preserved
loop-found-preserved c =
    let checks = checks_by c.args.named.now c.args.table.now in
    let u = use_found c.found-item.result in
    let rest = flat_map checks (uses_found (drop (c.loop-found.found-index + 1) c.args.uses.now)) in
    let here = from_here use_found c.args.uses.now c.loop-found.found-index c.found-item.result c.loop-found-test.true c.found-item.is in
    let fixed = ap (λ (k : Kind). first_fault (use_checks c.args.named.now k u ++ rest)) c.kind_fixed-fixed.ensures in
    c.loop-found.invariant ∙ ap (λ (us : List Use). first_fault (flat_map checks us)) here ∙ sym fixed ∙ first_fault-rest (use_checks c.args.named.now c.kind_fixed-fixed.result u) rest c.in_ok-check_use.ensures
