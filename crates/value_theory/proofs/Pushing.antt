-- A loop that adds the points of one condition after another.
use Rattle.std.proofs.Common.{◌≡◌, ℕ, ◌+◌, ◌<◌, List, [], ◌∷◌, ◌++◌, length, get_or, take, All, sym, ap, ◌∙◌, subst}
use Rattle.std.specs.List.{flat_map}
use Rattle.std.proofs.lemmas.List.{take_more, flat_map_more}
use Rattle.std.proofs.lemmas.List.Elements.{All-append}

pub more_points : {X Y : Type 0} (f : X → List Y) (first points new : List Y) (xs : List X) (i : ℕ) (x : X) → i < length xs → x ≡ get_or xs i x → points ≡ first ++ flat_map f (take i xs) → new ≡ points ++ f x → new ≡ first ++ flat_map f (take (i + 1) xs)
more_points f first points new xs i x within at so_far pushed =
    pushed ∙ ap (λ ps. ps ++ f x) so_far ∙ flat_map_more f first (take i xs) x ∙ ap (λ y. first ++ flat_map f (take i xs ++ y ∷ [])) at ∙ ap (λ ys. first ++ flat_map f ys) (sym (take_more xs i x within))

pub more_kinds : {Y : Type 0} (P : Y → Type 0) (points more new : List Y) → All P points → All P more → new ≡ points ++ more → All P new
more_kinds P points more new h k e = subst (All P) (sym e) (All-append P points more h k)
