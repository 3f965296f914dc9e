use Rattle.std.proofs.Common.{Any, List, subst}
use Rattle.pattern_automata.specs.declared.wants.Literal.{Literal}
use Rattle.pattern_automata.specs.Closed.{IsLiteralMet}
use Rattle.pattern_automata.proofs.Indexing.{all-more}
use Rattle.pattern_automata.proofs.Laws.{all-end}
use Rattle.pattern_automata.proofs.proposal.all_met.Goals as goal

pub loop-clause-preserved : goal.loop-clause-preserved
loop-clause-preserved c =
    all-more (Any (IsLiteralMet c.args.patterns.now c.args.text.now)) c.args.clauses.now c.loop-clause.clause-index _ c.loop-clause-test.true c.clause-item.is
    (subst (λ (x : List Literal). Any (IsLiteralMet c.args.patterns.now c.args.text.now) x) c.as_slice.ensures (c.clause_met.ensures c.if-not-clause_met.false)) c.loop-clause.invariant

pub returns : goal.returns
returns c = λ _. all-end (Any (IsLiteralMet c.args.patterns.now c.args.text.now)) c.args.clauses.now _ c.loop-clause-test.false c.loop-clause.invariant
