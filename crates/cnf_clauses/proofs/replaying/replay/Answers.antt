use Rattle.std.proofs.Common.{◌↔◌, subst}
use Rattle.std.specs.Prelude.{IfOk, IsTrue}
use Rattle.formula_tree.specs.Answers.{Answers}
use Rattle.cnf_clauses.specs.Replays.{Replays}
use Rattle.cnf_clauses.proofs.replaying.replay.Goals as goal

pub returns : goal.returns
returns c = subst (λ (d : Answers). IfOk c.replay_from.result (λ accepted. IsTrue accepted ↔ Replays c.args.clauses.now d c.args.hints.now)) c.in_ok-decided.ensures c.replay_from.ensures
