use Rattle.certified_summaries.specs.Reading.{AreTextsOf}
use Rattle.certified_summaries.proofs.Heading.{IsHeadSoFar}
use Rattle.certified_summaries.proofs.head.read_head.Given as goal

abbrev pub invariant-pairs : goal.invariant-pairs
invariant-pairs l =
    AreTextsOf l.strata.dimensions l.table-inside.items.items × IsHeadSoFar l.reader l.strata.dimensions l.fn.bytes l.count l.place l.pairs l.rest
