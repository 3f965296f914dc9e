use Rattle.std.proofs.Common.{rules, string_bytes}
use Rattle.line_expansion.proofs.Expanding.{cut, step, finish}
use Rattle.line_expansion.specs.Expansion.{opening_bracket, closing_bracket}
use Rattle.line_expansion.proofs.expand.Goals as goal

pub loop-before-preserved : goal.loop-before-preserved
loop-before-preserved c =
    let opened_at = cut opening_bracket c.loop-before.rest.now c.in-Some.before.now c.in-Some.opened.now c.in-Some.ensures.cases in
    let closed_at = cut closing_bracket c.in-Some.opened.now c.in-Some-split_once.group.now c.in-Some-split_once.after.now c.in-Some-split_once.ensures.cases in
    let reading = step c.args.line.now c.loop-before.rest.now (string_bytes c.loop-before.file) c.in-Some.before.now c.in-Some.opened.now c.in-Some-split_once.group.now c.in-Some-split_once.after.now (string_bytes c.in_ok-repeated.field-0) c.loop-before.invariant.1 opened_at closed_at c.in_ok-repeated.ensures in
    search rules

pub returns : goal.returns
returns c = search (rules, finish)
