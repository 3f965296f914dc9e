use Rattle.std.proofs.Common.{List, subst}
use Rattle.wildcard_lang.specs.declared.piece.Piece.{Piece}
use Rattle.pattern_automata.specs.declared.wants.Literal.{Literal}
use Rattle.pattern_automata.specs.Closed.{Meets}
use Rattle.pattern_automata.proofs.proposal.verified.Goals as goal

pub returns-then-all_met : goal.returns-then-all_met
returns-then-all_met c = (
  subst (λ (ps : List (List Piece)). Meets ps c.args.wants.now.clauses c.args.text) c.as_slice-patterns.ensures
      (subst (λ (ks : List (List Literal)). Meets c.as_slice-patterns.result.now ks c.args.text) c.as_slice-clauses.ensures (c.all_met.ensures c.if-all_met.true)),
  c.is_empty.ensures.text,
)
