use Rattle.std.proofs.Common.{◌≡◌, take}
use Rattle.findings.specs.Summaries.{findings_of}
use Rattle.certified_summaries.proofs.cover.findings_of.Given as goal

abbrev pub invariant-loop-pair : goal.invariant-loop-pair
invariant-loop-pair l = l.findings ≡ findings_of (take l.pair-index l.summary)
