use Rattle.certified_summaries.proofs.Wordings.{IsTableSoFar}
use Rattle.certified_summaries.proofs.wording.texts_of.Given as goal

abbrev pub invariant-loop-stratum : goal.invariant-loop-stratum
invariant-loop-stratum l = IsTableSoFar l.strata.dimensions l.stratum-index l.table
