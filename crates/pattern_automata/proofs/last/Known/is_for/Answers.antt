use Rattle.std.proofs.Common.{◌∙◌, List, ℕ, subst, sym}
use Rattle.pattern_automata.specs.Closed.{IsClosedUnder}
use Rattle.pattern_automata.proofs.Lasting.{closed-by}
use Rattle.pattern_automata.proofs.last.Known.is_for.Goals as goal

pub returns : goal.returns
returns c = λ h.
    let known = c.self.inside in
    let w = c.args.wants.now in
    let same = sym c.as_slice.ensures ∙ (c.are_same_clauses.ensures c.if-not-are_same_clauses.false ∙ c.as_slice-2.ensures) in
    subst (λ (x : List (List (List ℕ))). IsClosedUnder w x) c.self.view_is
    (closed-by known.clauses w.clauses known.machine c.args.machine.now known.closed w.patterns c.self.invariant same (c.differ_in_characters.ensures h) c.requires)
