use Rattle.std.proofs.Common.{◌∙◌, get_or, List, ap, arith, length, subst, sym}
use Rattle.std.specs.Prelude.{String}
use Rattle.std.specs.declared.alloc.Global.{Global}
use Rattle.strata.specs.declared.stratum.Stratum.{Stratum}
use Rattle.certified_summaries.proofs.Wordings.{IsTableSoFar, table-all, table-more, table-none}
use Rattle.certified_summaries.proofs.wording.texts_of.Goals as goal

pub loop-stratum-init : goal.loop-stratum-init
loop-stratum-init c = subst (λ (t : List (List (String Global))). IsTableSoFar c.args.strata.now.dimensions 0 t) (sym c.new-table.ensures) (table-none c.args.strata.now.dimensions)

pub loop-stratum-preserved : goal.loop-stratum-preserved
loop-stratum-preserved c =
    table-more c.args.strata.now.dimensions c.loop-stratum.stratum-index c.stratum-item.result c.loop-stratum.table c.push.new.self c.in_ok-texts_of_dimension.field-0 (omega (arith, ap length c.as_slice-stratum-items.ensures)) (c.stratum-item.is ∙ ap (λ (xs : List Stratum). get_or xs c.loop-stratum.stratum-index c.stratum-item.result) c.as_slice-stratum-items.ensures) c.requires c.loop-stratum.invariant c.in_ok-texts_of_dimension.ensures.texts c.in_ok-texts_of_dimension.ensures.utf8 c.in_ok-push.ensures.ok

pub returns : goal.returns
returns c = table-all c.args.strata.now.dimensions c.loop-stratum.stratum-index c.loop-stratum.table (omega (arith, ap length c.as_slice-stratum-items.ensures)) c.loop-stratum.invariant
