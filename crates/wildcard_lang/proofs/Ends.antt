-- The last character of a text, and the last piece of a pattern that is for one character.
use Rattle.std.proofs.Common.{◌≡◌, ℕ, ◌+◌, ◌-◌, ◌≤◌, List, [], ◌∷◌, ◌++◌, length, take, drop, get_or, Bool, true, false, ◌&&◌, IsUtf8, refl, sym, ap, ◌∙◌, arith}
use Rattle.std.proofs.lemmas.List.{take_more, take_all, append-nil, nil_from_length}
use Rattle.std.proofs.lemmas.Str.{chars-nil, chars_from_encodes, encodes-append, encodes-chars}
use Rattle.std.specs.Str.{chars}
use Rattle.std.proofs.Math.Utf8.{encode, encodes}
use Rattle.wildcard_lang.specs.declared.piece.Piece.{Piece}
use Rattle.wildcard_lang.specs.Matching.{is_many}
use Rattle.wildcard_lang.specs.Accepts.{accepts_by}
use Rattle.wildcard_lang.proofs.Accept.{accepts-snoc, accepts-at_nil}

pub no_characters : (bytes : List ℕ) → length bytes ≡ 0 → chars bytes ≡ []
no_characters bytes none = ap chars (nil_from_length bytes none) ∙ chars-nil

pub last_character : (bytes front : List ℕ) (c : ℕ) → IsUtf8 bytes → IsUtf8 front → bytes ≡ front ++ encode c → chars bytes ≡ chars front ++ c ∷ []
last_character bytes front c whole part is =
    let spelt : encode c ++ [] ≡ encode c = append-nil (encode c) in
    let same : encodes (chars front ++ c ∷ []) ≡ bytes = encodes-append (chars front) (c ∷ []) ∙ (rw (encodes-chars front part, spelt) (sym is)) in
    sym (chars_from_encodes (chars front ++ c ∷ []) bytes whole same)

pub last_split : (ps : List Piece) (d : Piece) → 1 ≤ length ps → ps ≡ take (length ps - 1) ps ++ get_or ps (length ps - 1) d ∷ []
last_split ps d some =
    let m : length ps ≡ length ps - 1 + 1 = omega arith in
    sym (take_all (length ps) ps (omega arith)) ∙ ap (λ n. take n ps) m ∙ take_more ps (length ps - 1) d (omega arith)

-- the last piece takes the last item, or nothing
last_taken : {X : Type 0} (taken : Piece → X → Bool) (more : List Piece) (p : Piece) (x : X) (t : List X) → is_many p ≡ false →
    accepts_by taken (more ++ p ∷ []) (t ++ x ∷ []) ≡ (taken p x && accepts_by taken more t)
last_taken taken more p x t one = accepts-snoc taken more p x t ∙ (rw one refl)

pub last_left : {X : Type 0} (taken : Piece → X → Bool) (ps more : List Piece) (p : Piece) (x : X) (t rest : List X) (answer : Bool) → ps ≡ more ++ p ∷ [] →
    is_many p ≡ false → rest ≡ t ++ x ∷ [] → taken p x ≡ true → accepts_by taken ps rest ≡ answer → accepts_by taken more t ≡ answer
last_left taken ps more p x t rest answer parts one is h so_far =
    let step : accepts_by taken ps rest ≡ accepts_by taken more t = rw (parts, is) (last_taken taken more p x t one ∙ (rw h refl)) in
    sym step ∙ so_far

pub last_refused : {X : Type 0} (taken : Piece → X → Bool) (ps more : List Piece) (p : Piece) (x : X) (t rest : List X) (answer : Bool) → ps ≡ more ++ p ∷ [] →
    is_many p ≡ false → rest ≡ t ++ x ∷ [] → taken p x ≡ false → accepts_by taken ps rest ≡ answer → false ≡ answer
last_refused taken ps more p x t rest answer parts one is h so_far =
    let step : accepts_by taken ps rest ≡ false = rw (parts, is) (last_taken taken more p x t one ∙ (rw h refl)) in
    sym step ∙ so_far

pub last_untaken : {X : Type 0} (taken : Piece → X → Bool) (ps more : List Piece) (p : Piece) (rest : List X) (answer : Bool) → ps ≡ more ++ p ∷ [] →
    is_many p ≡ false → rest ≡ [] → accepts_by taken ps rest ≡ answer → false ≡ answer
last_untaken taken ps more p rest answer parts one is so_far =
    let step : accepts_by taken ps rest ≡ false = rw (parts, is) (accepts-at_nil taken more p ∙ (rw one refl)) in sym step ∙ so_far

-- ---- the first piece, where it is for one item

pub first_split : (ps : List Piece) (d : Piece) → 1 ≤ length ps → ps ≡ get_or ps 0 d ∷ take (length ps - 1) (drop 1 ps)
first_split [] d some = absurd (omega arith)
first_split (p ∷ ps) d some = ap (λ qs. p ∷ qs) (sym (take_all (length (p ∷ ps) - 1) ps (omega arith)))

pub first_left : {X : Type 0} (taken : Piece → X → Bool) (ps more : List Piece) (p : Piece) (x : X) (t rest : List X) (answer : Bool) → ps ≡ p ∷ more →
    is_many p ≡ false → rest ≡ x ∷ t → taken p x ≡ true → accepts_by taken ps rest ≡ answer → accepts_by taken more t ≡ answer
first_left taken ps more p x t rest answer parts one is h so_far =
    let step : accepts_by taken ps rest ≡ accepts_by taken more t = rw (parts, is) (rw (one, h) refl) in sym step ∙ so_far
