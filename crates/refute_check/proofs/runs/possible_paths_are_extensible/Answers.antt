use Rattle.refute_check.proofs.Extending.{goes_on, harder}
use Rattle.refute_check.proofs.runs.possible_paths_are_extensible.Goals as goal

pub returns : goal.returns
returns c = record {
  harder = harder c.args.schema.now c.args.tests.now;
  goes_on = goes_on c.args.schema.now c.args.tests.now;
}
