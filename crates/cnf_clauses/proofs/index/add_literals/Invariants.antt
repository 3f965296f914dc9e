use Rattle.std.proofs.Common.{◌≡◌, ℕ, Bool, take}
use Rattle.std.specs.List.{Contains}
use Rattle.cnf_clauses.specs.Indexes.{held_at}
use Rattle.cnf_clauses.proofs.index.add_literals.Given as goal

abbrev pub invariant-literals : goal.invariant-literals
invariant-literals l =
    ((m : ℕ × Bool) → Contains (take l.literal-index l.literals) m → Contains (held_at l.index m) l.number)
    × ((m : ℕ × Bool) (i : ℕ) → Contains (held_at l.initial.index m) i → Contains (held_at l.index m) i)
    × (l.index.short ≡ l.initial.index.short)
