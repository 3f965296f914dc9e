-- The test whether pieces match a text, where a star stands alone, and as the answer of the relation.
use Rattle.std.proofs.Common.{◌≡◌, ℕ, Bool, true, List, [], ◌∷◌, refl, sym, ◌∙◌}
use Rattle.std.specs.Bool.{Decides}
use Rattle.std.proofs.lemmas.Bool.Decides.{Decides-at}
use Rattle.wildcard_lang.specs.declared.piece.Piece.{Piece}
use Rattle.wildcard_lang.specs.declared.piece.Piece.TheVariants.{Many}
use Rattle.wildcard_lang.specs.Matching.{takes, Matches}
use Rattle.wildcard_lang.proofs.Accept.{Decides-accepts, accepts-same}
use Rattle.wildcard_lang.specs.Accepts.{accepts, accepts_by}

-- a star alone takes all
pub star_alone : {X : Type 0} (taken : Piece → X → Bool) → ((x : X) → taken Many x ≡ true) → (t : List X) → accepts_by taken (Many ∷ []) t ≡ true
star_alone taken star [] = refl
star_alone taken star (x ∷ t) = rw (star x) (star_alone taken star t)

pub star_takes_rest : {X : Type 0} (taken : Piece → X → Bool) → ((x : X) → taken Many x ≡ true) → (p : Piece) (t : List X) → p ≡ Many → true ≡ accepts_by taken (p ∷ []) t
star_takes_rest taken star p t is = rw is (sym (star_alone taken star t))

-- the answer of the test is that of the relation
pub answer_matches : (b : Bool) (ps qs : List Piece) (t u : List ℕ) → qs ≡ ps → u ≡ t → b ≡ accepts_by takes qs u → Decides b (Matches ps t)
answer_matches b ps qs t u same own e =
    let same_text : accepts_by takes qs u ≡ accepts ps t = rw (same, own) (accepts-same ps t) in
    Decides-at _ _ (e ∙ same_text) (Decides-accepts ps t)
