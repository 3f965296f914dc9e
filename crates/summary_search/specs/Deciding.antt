-- The verdict of the search, as an answer to the query of a finding.
use Rattle.staged_search.specs.declared.verdict.Verdict.{Verdict}
use Rattle.staged_search.specs.declared.verdict.Verdict.TheVariants as verdict
use Rattle.findings.specs.declared.decide.Asked.{Asked}
use Rattle.findings.specs.declared.decide.Asked.TheVariants.{Met, Nobody, OutOfSplits, OutOfStates}

abbrev pub answer_to : Verdict → Asked
answer_to verdict.Nobody = Nobody
answer_to (verdict.Met q) = Met q
answer_to verdict.OutOfSplits = OutOfSplits
answer_to (verdict.OutOfStates w) = OutOfStates (record { path = w.path; slot = w.slot; texts = w.texts })
