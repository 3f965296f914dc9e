-- The moves of a machine, one by one.
use Rattle.std.proofs.Common.{◌≡◌, ℕ, ◌+◌, ◌<◌, List, [], ◌∷◌, ◌++◌, length, get_or, true, zero, suc, subst, Option, All, sym, ap, ◌∙◌, arith, take}
use Rattle.std.proofs.lemmas.List.{take_more, map_push}
use Rattle.std.proofs.lemmas.Bool.{or_left, or_right, eq-eqb}
use Rattle.wildcard_lang.specs.Places.{contains_place}
use Rattle.wildcard_lang.specs.declared.piece.Piece.{Piece}
use Rattle.pattern_automata.specs.declared.moves.Move.{Move}
use Rattle.pattern_automata.specs.Moves.{characters_of, IsMove}

pub characters-more : (moves : List Move) (i : ℕ) (m : Move) → i < length moves → m ≡ get_or moves i m → characters_of (take (i + 1) moves) ≡ characters_of (take i moves) ++ m.character ∷ []
characters-more moves i m h read =
    ap characters_of (take_more moves i m h) ∙ (map_push (λ (x : Move). x.character) (take i moves) (get_or moves i m) ∙ ap (λ (x : Move). characters_of (take i moves) ++ x.character ∷ []) (sym read))

pub character-at : (moves : List Move) (i : ℕ) (m : Move) → i < length moves → m ≡ get_or moves i m → m.character ≡ get_or (characters_of moves) i 0
character-at [] i m h e = absurd (omega (arith, h))
character-at (x ∷ xs) zero m h e = ap (λ (y : Move). y.character) e
character-at (x ∷ xs) (suc i) m h e = character-at xs i m (omega (arith, h)) e

pub has-character : (moves : List Move) (i : ℕ) (m : Move) → i < length moves → m ≡ get_or moves i m → contains_place (characters_of moves) m.character ≡ true
has-character [] i m h e = absurd (omega arith)
has-character (x ∷ xs) zero m h e = or_left _ _ (eq-eqb x.character m.character (ap (λ (y : Move). y.character) (sym e)))
has-character (x ∷ xs) (suc i) m h e = or_right _ _ (has-character xs i m (omega arith) e)

pub move-at : (F : List (Option Piece)) (moves : List Move) (i : ℕ) (m : Move) → All (IsMove F) moves → i < length moves → m ≡ get_or moves i m → IsMove F m
move-at F moves i m all h e = subst (IsMove F) (sym e) (all i m h)
