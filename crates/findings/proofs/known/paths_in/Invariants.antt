use Rattle.std.proofs.Common.{◌≡◌, length}
use Rattle.findings.specs.KnownAnswers.{AreGivenInDimension}
use Rattle.findings.proofs.known.paths_in.Given as goal

abbrev pub invariant-numbers : goal.invariant-numbers
invariant-numbers l = record {
  count : length l.paths ≡ l.number;
  each : AreGivenInDimension l.schema l.met l.stratum l.less.query.tests l.paths;
}
