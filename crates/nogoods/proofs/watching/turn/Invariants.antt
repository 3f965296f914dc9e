use Rattle.std.proofs.Common.{ℕ, ◌<◌, slice_index_or}
use Rattle.nogoods.specs.Turning.{KeepsWatchers, StayAsHits, TurnsOrStays}
use Rattle.nogoods.proofs.watching.turn.Given as goal

abbrev pub invariant-watchers : goal.invariant-watchers
invariant-watchers l =
    KeepsWatchers l.initial.watching.items l.watching.items ×
    StayAsHits l.lists l.path l.stay
    × ((k d : ℕ) → k < l.number-index → TurnsOrStays l.lists l.path l.watching.items l.stay (slice_index_or l.watchers k d))
