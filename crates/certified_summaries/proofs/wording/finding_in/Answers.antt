use Rattle.std.proofs.Common.{ap, arith, length}
use Rattle.certified_summaries.proofs.Wordings.{dimension-more, dimension-none, none-long, table-long}
use Rattle.certified_summaries.proofs.wording.finding_in.Goals as goal

pub returns-then-values-texts : goal.returns-then-values-texts
returns-then-values-texts c =
    none-long c.args.strata.now.dimensions c.args.values.now (λ same. c.if-values-texts.true (omega (arith, same, table-long c.args.strata.now.dimensions c.args.table.now c.requires, ap length c.as_slice-texts.ensures)))

pub returns-in_default : goal.returns-in_default
returns-in_default c =
    dimension-none c.args.strata.now.dimensions c.args.table.now c.as_slice-texts.result.now c.args.values.now c.dimensions.i c.index-texts-i.result c.as_slice.result.now c.index-values-i.result c.requires c.as_slice-texts.ensures (omega arith) c.index-texts-i.is c.as_slice.ensures (omega arith) c.index-values-i.is c.in_default.ensures

pub dimensions-preserved : goal.dimensions-preserved
dimensions-preserved c =
    dimension-more c.args.strata.now.dimensions c.args.table.now c.as_slice-texts.result.now c.args.values.now c.dimensions.i c.in-Some.number c.index-texts-i.result c.as_slice.result.now c.index-values-i.result c.dimensions.finding c.push.new.self c.requires c.as_slice-texts.ensures (omega arith) c.index-texts-i.is c.as_slice.ensures (omega arith) c.index-values-i.is c.in-Some.ensures c.dimensions.invariant c.in_ok-push.ensures.ok
