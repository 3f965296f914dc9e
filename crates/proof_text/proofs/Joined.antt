-- Parts of lines put one behind another.
use Rattle.std.proofs.Common.{◌≡◌, ℕ, ◌+◌, ◌<◌, List, [], ◌∷◌, ◌++◌, length, map, flat_map, append-nil, get_or, take, decimal, codes, refl, sym, ap, ◌∙◌}
use Rattle.std.proofs.lemmas.List.{append_assoc, take_more}
use Rattle.std.proofs.lemmas.List.Concat.{flat_map-append}
use Rattle.std.specs.List.{join_with_byte}
use Rattle.formula_tree.specs.Answers.{Answers}
use Rattle.proof_text.specs.Lines.{answer_part, label_line, line_text}

-- ---- a text that grew

pub grown-two : (t u v a b all : List ℕ) → u ≡ t ++ a → v ≡ u ++ b → a ++ b ≡ all → v ≡ t ++ all
grown-two t u v a b all one two is = two ∙ ap (λ r. r ++ b) one ∙ append_assoc t a b ∙ ap (λ r. t ++ r) is

pub grown-three : (t u v w a b c all : List ℕ) → u ≡ t ++ a → v ≡ u ++ b → w ≡ v ++ c → (a ++ b) ++ c ≡ all → w ≡ t ++ all
grown-three t u v w a b c all one two three is = grown-two t v w (a ++ b) c all (grown-two t u v a b (a ++ b) one two refl) three is

-- one more item of a list that is written item by item
pub grown-more : {X : Type 0} (f : X → List ℕ) (xs : List X) (i : ℕ) (x : X) (t u v : List ℕ) → i < length xs → x ≡ get_or xs i x → u ≡ t ++ flat_map f (take i xs) → v ≡ u ++ f x → v ≡ t ++ flat_map f (take (i + 1) xs)
grown-more f xs i x t u v within is so_far more =
    grown-two t u v (flat_map f (take i xs)) (f x) (flat_map f (take (i + 1) xs)) so_far more
    (sym (ap (flat_map f) (take_more xs i x within ∙ ap (λ y. take i xs ++ y ∷ []) (sym is)) ∙ flat_map-append f (take i xs) (x ∷ []) ∙ ap (λ r. flat_map f (take i xs) ++ r) (append-nil (f x))))

-- ---- joined parts

-- a joined list is its first part, and the others with the byte before each
pub joined : {X : Type 0} (c : ℕ) (f : X → List ℕ) (part : List ℕ) (xs : List X) → part ++ flat_map (λ x. c ∷ f x) xs ≡ join_with_byte c (part ∷ map f xs)
joined c f part [] = append-nil part
joined c f part (x ∷ xs) = ap (λ r. part ++ c ∷ r) (joined c f (f x) xs)

-- a line of a word and such parts
pub line-joined : {X : Type 0} (f : X → List ℕ) (word : List ℕ) (xs : List X) → (word ++ flat_map (λ x. 32 ∷ f x) xs) ++ 10 ∷ [] ≡ join_with_byte 32 (word ∷ map f xs) ++ 10 ∷ []
line-joined f word xs = ap (λ r. r ++ 10 ∷ []) (joined 32 f word xs)

pub label-joined : (n : ℕ) (given : Answers) → ((codes "label " ++ decimal n) ++ flat_map (λ p. 32 ∷ answer_part p) given) ++ 10 ∷ [] ≡ line_text (label_line n given)
label-joined n given =
    ap (λ r. r ++ 10 ∷ []) (append_assoc (codes "label ") (decimal n) (flat_map (λ p. 32 ∷ answer_part p) given)) ∙ ap (λ r. (codes "label " ++ r) ++ 10 ∷ []) (joined 32 answer_part (decimal n) given)
