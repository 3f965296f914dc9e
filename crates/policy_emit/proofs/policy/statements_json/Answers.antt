use Rattle.std.proofs.Common.{◌≤◌, ◌<◌, List, length, map, arith, subst, sym, ap, ◌∙◌}
use Rattle.std.proofs.lemmas.List.{take_all}
use Rattle.serde_json.specs.Data.{Data, array}
use Rattle.serde_json.specs.View.{items_of, view}
use Rattle.serde_json.proofs.Views.{view-Array}
use Rattle.findings.specs.Findings.{IsFinding}
use Rattle.findings.specs.Summaries.{findings_of}
use Rattle.policy_emit.specs.Emitted.{statement_data}
use Rattle.policy_emit.proofs.Keeping.{Found, statements-next, views-next}
use Rattle.policy_emit.proofs.policy.statements_json.Goals as goal

pub statement_json-requires : goal.statement_json-requires
statement_json-requires c =
    let within : c.loop-found.found-index < length c.args.summary.now = omega arith in
    subst (λ (p : Found). IsFinding c.args.strata.now.dimensions p.0) (sym c.found-item.is) (c.requires c.loop-found.found-index c.found-item.result within)

pub loop-found-preserved : goal.loop-found-preserved
loop-found-preserved c =
    let within : c.loop-found.found-index < length c.args.summary.now = omega arith in
    let schema = c.args.schema.now in
    let ds = c.args.strata.now.dimensions in
    let xs = c.args.summary.now in
    let i = c.loop-found.found-index in
    let x = c.found-item.result in
    let shown = views-next schema ds xs i x c.loop-found.statements.items c.in_ok-statement_json.field-0 within c.found-item.is c.in_ok-statement_json.ensures.data c.loop-found.invariant.0 in (
      ap (map view) c.in_ok-push.ensures.items ∙ shown,
      statements-next schema ds xs i x within c.found-item.is c.in_ok-statement_json.ensures.kept c.loop-found.invariant.1,
    )

pub returns-clause-data : goal.returns-clause-data
returns-clause-data c =
    let past : length c.args.summary.now ≤ c.loop-found.found-index = omega (arith, c.loop-found-test.false) in
    let all = ap findings_of (take_all c.loop-found.found-index c.args.summary.now past) in
    view-Array c.loop-found.statements ∙ ap (λ (xs : List Data). array (items_of xs)) (c.loop-found.invariant.0 ∙ ap (map (statement_data c.args.schema.now c.args.strata.now.dimensions)) all)
