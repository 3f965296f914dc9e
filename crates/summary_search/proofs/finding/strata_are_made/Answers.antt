use Rattle.summary_search.proofs.Coming.{made-for}
use Rattle.summary_search.proofs.finding.strata_are_made.Goals as goal

pub returns : goal.returns
returns c = λ most schema region query slots strata small askable of within. made-for most schema region query slots strata small (c.sound_schemas_have_requests.ensures schema askable.sound) askable of within
