use Rattle.std.proofs.Common.{◌≡◌}
use Rattle.findings.proofs.inhabited.Samples.inhabited.Given as goal

abbrev pub invariant-questions : goal.invariant-questions
invariant-questions g l = record {
  schema : g.D.Decide.schema l.asks ≡ g.D.Decide.schema l.initial.asks;
  splits : g.D.Decide.splits l.asks ≡ g.D.Decide.splits l.initial.asks;
  states : g.D.Decide.states l.asks ≡ g.D.Decide.states l.initial.asks;
}
