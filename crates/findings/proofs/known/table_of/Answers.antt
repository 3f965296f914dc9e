use Rattle.std.proofs.Common.{[], ◌∷◌, arith, ap, length}
use Rattle.std.proofs.lemmas.List.{length-append}
use Rattle.findings.proofs.Saying.{table-none, table-says}
use Rattle.findings.proofs.known.table_of.Goals as goal

pub dimensions-init : goal.dimensions-init
dimensions-init c = record { count = ap length c.new-table.ensures; each = table-none c.args.schema.now c.args.met c.args.strata.now.dimensions c.args.less.now.query.tests c.new-table.result c.new-table.ensures }

pub dimensions-preserved : goal.dimensions-preserved
dimensions-preserved c = record {
  count = (let grown = ap length c.in_ok-push.ensures.ok in let long = length-append c.dimensions.table (c.in_ok-paths.paths ∷ []) in omega (arith, grown, long, c.dimensions.invariant.count));
  each = table-says c.args.schema.now c.args.met c.args.strata.now.dimensions c.args.less.now.query.tests c.dimensions.table c.push.new.self c.in_ok-paths.paths c.dimensions.i c.dimension_at.result.now c.dimensions.invariant.count c.in_ok-push.ensures.ok c.dimensions.invariant.each c.dimension_at.ensures c.in_ok-paths.ensures;
}
