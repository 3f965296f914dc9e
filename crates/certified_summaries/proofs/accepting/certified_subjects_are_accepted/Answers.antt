use Rattle.certified_summaries.proofs.Acceptance.{subjects-accepted}
use Rattle.certified_summaries.proofs.accepting.certified_subjects_are_accepted.Goals as goal

pub returns : goal.returns
returns c = subjects-accepted (record {
  within = c.queries_are_within_limits.ensures;
  determined = c.strata_are_determined.ensures;
  apart = c.findings_are_written_apart.ensures;
  none = c.closing_proofs_have_no_fault_behind.ensures;
  sizes = c.closing_proofs_are_small.ensures;
  law = c.one_proof_for_each_text.ensures;
  stand = c.summaries_stand.ensures;
  equal = c.summary_verdicts_are_equal.ensures;
})
