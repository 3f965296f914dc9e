use Rattle.std.proofs.Common.{◌≡◌, ◌⊎◌, ◌≤◌, ◌+◌, ℕ, length, get_or, vec_len}
use Rattle.plain_lists.proofs.growing.fill_to.Given as goal

abbrev pub invariant-room : goal.invariant-room
invariant-room g l =
    ((n : ℕ) → get_or l.items.items n l.item ≡ get_or l.initial.items.items n l.item) ×
    ((length l.items.items ≡ length l.initial.items.items) ⊎ (length l.items.items ≤ l.index + 1)) × (l.counter ≡ vec_len l.items)
