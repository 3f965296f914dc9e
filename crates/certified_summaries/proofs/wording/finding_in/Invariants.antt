use Rattle.certified_summaries.proofs.Wordings.{IsFindingSoFar}
use Rattle.certified_summaries.proofs.wording.finding_in.Given as goal

abbrev pub invariant-dimensions : goal.invariant-dimensions
invariant-dimensions l = IsFindingSoFar l.strata.dimensions l.values l.i l.finding
