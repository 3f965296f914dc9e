-- Texts that grow by one part for each item of a list.
use Rattle.std.proofs.Common.{◌≡◌, ℕ, ◌+◌, ◌<◌, List, [], ◌∷◌, ◌++◌, length, flat_map, append-nil, get_or, take, sym, ap, ◌∙◌}
use Rattle.std.proofs.lemmas.List.{append_assoc, take_more}
use Rattle.std.proofs.lemmas.List.Concat.{flat_map-append}

pub printed-more : {X : Type 0} (f : X → List ℕ) (xs : List X) (i : ℕ) (x : X) (t u v : List ℕ) → i < length xs → x ≡ get_or xs i x → u ≡ t ++ flat_map f (take i xs) → v ≡ u ++ f x → v ≡ t ++ flat_map f (take (i + 1) xs)
printed-more f xs i x t u v within is so_far more =
    let parts : flat_map f (take (i + 1) xs) ≡ flat_map f (take i xs) ++ f x =
    ap (flat_map f) (take_more xs i x within ∙ ap (λ y. take i xs ++ y ∷ []) (sym is)) ∙ flat_map-append f (take i xs) (x ∷ []) ∙ ap (λ r. flat_map f (take i xs) ++ r) (append-nil (f x)) in
    more ∙ ap (λ y. y ++ f x) so_far ∙ append_assoc t (flat_map f (take i xs)) (f x) ∙ ap (λ y. t ++ y) (sym parts)
