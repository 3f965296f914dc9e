use Rattle.std.proofs.Common.{◌≡◌}
use Rattle.findings.specs.Walked.{HasLookedAt}
use Rattle.findings.proofs.summary.look_at_each.Given as goal

abbrev pub invariant-findings : goal.invariant-findings
invariant-findings g l = record {
  walked : HasLookedAt (g.D.Decide.schema l.initial.asks) l.base l.strata l.walk l.counter;
  schema : g.D.Decide.schema l.asks ≡ g.D.Decide.schema l.initial.asks;
  splits : g.D.Decide.splits l.asks ≡ g.D.Decide.splits l.initial.asks;
  states : g.D.Decide.states l.asks ≡ g.D.Decide.states l.initial.asks;
}
