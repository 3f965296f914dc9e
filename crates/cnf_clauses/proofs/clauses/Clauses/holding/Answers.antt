use Rattle.std.proofs.Common.{◌≡◌, ℕ, Bool, List, Some, true, false, slice_get, subst}
use Rattle.std.proofs.lemmas.Option.{slice_get_within}
use Rattle.cnf_clauses.proofs.Indexing.{names-at}
use Rattle.cnf_clauses.proofs.clauses.Clauses.holding.Goals as goal

pub returns-then-literal : goal.returns-then-literal
returns-then-literal c = λ i clause found stands.
    let inside = c.self.inside in
    let there = rw (← c.self.view_is) at found in
    let w = c.self.invariant.held i clause c.args.literal (slice_get_within inside.clauses.items i clause there) there stands in
    (w.0, names-at inside.index.yes.items inside.index.no.items c.args.literal true w.0 _ c.if-literal.true c.numbers_at.ensures w.1, subst (λ (x : List (List (ℕ × Bool))). slice_get x w.0 ≡ Some clause) c.self.view_is w.2)

pub returns-else-literal : goal.returns-else-literal
returns-else-literal c = λ i clause found stands.
    let inside = c.self.inside in
    let there = rw (← c.self.view_is) at found in
    let w = c.self.invariant.held i clause c.args.literal (slice_get_within inside.clauses.items i clause there) there stands in
    (w.0, names-at inside.index.yes.items inside.index.no.items c.args.literal false w.0 _ c.if-literal.false c.numbers_at-else-literal.ensures w.1, subst (λ (x : List (List (ℕ × Bool))). slice_get x w.0 ≡ Some clause) c.self.view_is w.2)
