-- A run of pieces for one item each behind a piece for any number, and where it takes what a text has.
use Rattle.std.specs.Prelude.{◌≡◌, ℕ, ◌<◌, ◌≤◌, List, [], ◌∷◌, ◌++◌, length, drop, slice_index_or, Bool, true, false, not, All}
use Rattle.wildcard_lang.specs.declared.piece.Piece.{Piece}
use Rattle.wildcard_lang.specs.declared.piece.Piece.TheVariants.{Lit, One, Many, ManyNoColon}
use Rattle.wildcard_lang.specs.declared.runs.Found.{Found}
use Rattle.wildcard_lang.specs.declared.runs.Probe.{Probe}
use Rattle.wildcard_lang.specs.declared.runs.Probes.{Probes}
use Rattle.wildcard_lang.specs.Matching.{takes, is_many}
use Rattle.wildcard_lang.specs.Accepts.{accepts_by}

-- each of the pieces is for one item
abbrev pub IsRun : List Piece → Type 0
IsRun run = All (λ p. is_many p ≡ false) run

-- the last of the pieces, or another where there is none
abbrev pub last_or : Piece → List Piece → Piece
last_or d [] = d
last_or d (p ∷ ps) = last_or p ps

-- whether the piece takes no first item: it takes another, or there is none
abbrev pub refuses : {X : Type 0} → (Piece → X → Bool) → Piece → List X → Bool
refuses taken p [] = true
refuses taken p (x ∷ t) = not (taken p x)

-- the items behind the first
abbrev pub behind_first : {X : Type 0} → List X → List X
behind_first [] = []
behind_first (x ∷ t) = t

-- the piece takes no colon
abbrev pub is_narrow : Piece → Bool
is_narrow p = not (takes p 58)

-- what a piece takes that takes no colon, a narrow star takes, and it takes nothing that a plain colon takes
abbrev pub IsNarrowing : {X : Type 0} → (Piece → X → Bool) → Type 0
IsNarrowing {X} taken =
    ((p : Piece) (x : X) → is_narrow p ≡ true → taken p x ≡ true → taken ManyNoColon x ≡ true) ×
    ((x : X) → taken (Lit 58) x ≡ true → taken ManyNoColon x ≡ false)

-- pieces that begin with these don't match the items, whatever stands behind them
abbrev pub IsRefused : {X : Type 0} → (Piece → X → Bool) → List Piece → List X → Type 0
IsRefused taken run t = (ps : List Piece) → accepts_by taken (run ++ ps) t ≡ false

-- the run takes first items, and leaves these to what stands behind it
abbrev pub IsLeft : {X : Type 0} → (Piece → X → Bool) → List Piece → List X → List X → Type 0
IsLeft taken run t behind = (behind ≡ drop (length run) t) × ((ps : List Piece) → accepts_by taken (run ++ ps) t ≡ accepts_by taken ps behind)

-- the first pieces of the run, `place` of them, take first items, and the next piece, where there is one, doesn't take the next item
pub record IsReached {X : Type 0} (taken : Piece → X → Bool) (run : List Piece) (t : List X) (place : ℕ) (ahead : List X) : Type 0 where
  pub most : place ≤ length run
  pub at : ahead ≡ drop place t
  pub left : (ps : List Piece) → accepts_by taken (run ++ ps) t ≡ accepts_by taken (drop place run ++ ps) ahead
  pub fails : place < length run → refuses taken (slice_index_or run place One) ahead ≡ true

-- the run is refused wherever these items are those from its place on
abbrev pub Refutes : {X : Type 0} → (Piece → X → Bool) → List Piece → ℕ → List X → Type 0
Refutes {X} taken run place ahead = (t : List X) → ahead ≡ drop place t → IsRefused taken run t

-- the probe stands at its place as the run is tried at the start of the items
abbrev pub IsAhead : {S X : Type 0} → (S → List X) → List X → Probe S → Type 0
IsAhead left t p = left p.ahead ≡ drop p.place t

-- each of the probes does
abbrev pub AreAhead : {S X : Type 0} → (S → List X) → List X → Probes S → Type 0
AreAhead left t p = IsAhead left t p.last_place × IsAhead left t p.older_place × IsAhead left t p.last_item

-- matching goes on as well at the start that was found
abbrev pub IsFirst : {S X : Type 0} → (Piece → X → Bool) → (S → List X) → Piece → List Piece → List X → Found S → Type 0
IsFirst taken left first run t found = (ps : List Piece) → accepts_by taken (first ∷ (run ++ ps)) t ≡ accepts_by taken (first ∷ (run ++ ps)) (left found.start)
