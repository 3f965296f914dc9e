use Rattle.std.proofs.lemmas.Result.{err_from_is_err_and}
use Rattle.summary_answers.proofs.summary.outcome_of.Goals as goal

pub find_summary-requires-clause-region : goal.find_summary-requires-clause-region
find_summary-requires-clause-region c = (c.args.subject.now.region, record { fits = c.requires.fits.fits; is = c.in_ok-query.ensures })

pub returns : goal.returns
returns c = record {
  is = c.in_ok-query.ensures;
  comes = c.in_ok-outcome.ensures c.args.subject.now.region (record { fits = c.requires.fits.fits; is = c.in_ok-query.ensures });
}

pub returns-in_err-query : goal.returns-in_err-query
returns-in_err-query c = let p = err_from_is_err_and c.from_residual.result c.from_residual.ensures.1 in rw (p.1, p.2) c.in_err-query.ensures
