use Rattle.std.proofs.Common.{◌≡◌, length}
use Rattle.findings.specs.KnownAnswers.{IsAnswerTable}
use Rattle.findings.proofs.known.table_of.Given as goal

abbrev pub invariant-dimensions : goal.invariant-dimensions
invariant-dimensions l = record {
  count : length l.table ≡ l.i;
  each : IsAnswerTable l.schema l.met l.strata.dimensions l.less.query.tests l.table;
}
