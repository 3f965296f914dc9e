-- What a match says of its first piece, and of patterns one behind the other.
use Rattle.std.proofs.Common.{◌≡◌, ℕ, true, false, List, [], ◌∷◌, ◌++◌, refl, sym, ap, ◌∙◌, append_assoc, inl, inr}
use Rattle.std.proofs.lemmas.Bool.{cases_Bool, both_ways, and_parts, and_from}
use Rattle.std.specs.List.{list_all}
use Rattle.wildcard_lang.specs.declared.piece.Piece.{Piece}
use Rattle.wildcard_lang.specs.Matching.{takes, is_many, Matches, no_pieces, takes_one, is_done, takes_more}

pub empty_left : (t : List ℕ) → Matches [] t → t ≡ []
empty_left [] no_pieces = refl
empty_left (c ∷ t) m = elim m [ ]

-- the front of the text that the first piece took, where it is for one character
pub record OneTaken (p : Piece) (ps : List Piece) (t : List ℕ) : Type 0 where
  pub first : ℕ
  pub rest : List ℕ
  pub is : t ≡ first ∷ rest
  pub taken : takes p first ≡ true
  pub matches : Matches ps rest

pub one_left : (p : Piece) (ps : List Piece) (t : List ℕ) → is_many p ≡ false → Matches (p ∷ ps) t → OneTaken p ps t
one_left p ps (c ∷ t) e (takes_one one k m) = record { first = c; rest = t; is = refl; taken = k; matches = m }
one_left p ps t e (is_done many m) = absurd (both_ways (is_many p) e many)
one_left p ps (c ∷ t) e (takes_more many k m) = absurd (both_ways (is_many p) e many)

-- the same where it is for any number
pub record RunTaken (p : Piece) (ps : List Piece) (t : List ℕ) : Type 0 where
  pub run : List ℕ
  pub rest : List ℕ
  pub is : t ≡ run ++ rest
  pub taken : list_all (takes p) run ≡ true
  pub matches : Matches ps rest

run_more : (p : Piece) (ps : List Piece) (c : ℕ) (t : List ℕ) → takes p c ≡ true → RunTaken p ps t → RunTaken p ps (c ∷ t)
run_more p ps c t k r = record { run = c ∷ r.run; rest = r.rest; is = ap (λ (u : List ℕ). c ∷ u) r.is; taken = and_from _ _ k r.taken; matches = r.matches }

pub many_left : (p : Piece) (ps : List Piece) (t : List ℕ) → is_many p ≡ true → Matches (p ∷ ps) t → RunTaken p ps t
many_left p ps (c ∷ t) e (takes_one one k m) = absurd (both_ways (is_many p) one e)
many_left p ps t e (is_done many m) = record { run = []; rest = t; is = refl; taken = refl; matches = m }
many_left p ps (c ∷ t) e (takes_more many k m) = run_more p ps c t k (many_left p ps t e m)

pub many_right : (p : Piece) (ps : List Piece) (run rest : List ℕ) → is_many p ≡ true → list_all (takes p) run ≡ true → Matches ps rest → Matches (p ∷ ps) (run ++ rest)
many_right p ps [] rest e h m = is_done e m
many_right p ps (c ∷ run) rest e h m =
    let parts : (takes p c ≡ true) × (list_all (takes p) run ≡ true) = and_parts _ _ h in
    takes_more e parts.0 (many_right p ps run rest e parts.1 m)

-- where the text of the first pieces ends
pub record Apart (ps qs : List Piece) (t : List ℕ) : Type 0 where
  pub left : List ℕ
  pub right : List ℕ
  pub is : t ≡ left ++ right
  pub first : Matches ps left
  pub second : Matches qs right

apart_one : (p : Piece) (ps qs : List Piece) (t : List ℕ) → is_many p ≡ false → (o : OneTaken p (ps ++ qs) t) → Apart ps qs o.rest → Apart (p ∷ ps) qs t
apart_one p ps qs t e o a = record {
  left = o.first ∷ a.left;
  right = a.right;
  is = o.is ∙ ap (λ (u : List ℕ). o.first ∷ u) a.is;
  first = takes_one e o.taken a.first;
  second = a.second;
}

apart_many : (p : Piece) (ps qs : List Piece) (t : List ℕ) → is_many p ≡ true → (r : RunTaken p (ps ++ qs) t) → Apart ps qs r.rest → Apart (p ∷ ps) qs t
apart_many p ps qs t e r a = record {
  left = r.run ++ a.left;
  right = a.right;
  is = r.is ∙ ap (λ (u : List ℕ). r.run ++ u) a.is ∙ sym (append_assoc r.run a.left a.right);
  first = many_right p ps r.run a.left e r.taken a.first;
  second = a.second;
}

pub append_left : (ps qs : List Piece) (t : List ℕ) → Matches (ps ++ qs) t → Apart ps qs t
append_left [] qs t m = record { left = []; right = t; is = refl; first = no_pieces; second = m }
append_left (p ∷ ps) qs t m =
    elim (cases_Bool (is_many p)) [
      | inl e ↦ let r : RunTaken p (ps ++ qs) t = many_left p (ps ++ qs) t e m in apart_many p ps qs t e r (append_left ps qs r.rest r.matches)
      | inr e ↦ let o : OneTaken p (ps ++ qs) t = one_left p (ps ++ qs) t e m in apart_one p ps qs t e o (append_left ps qs o.rest o.matches)
    ]

pub append_right : (ps qs : List Piece) (t u : List ℕ) → Matches ps t → Matches qs u → Matches (ps ++ qs) (t ++ u)
append_right [] qs [] u no_pieces n = n
append_right [] qs (c ∷ t) u m n = elim m [ ]
append_right (p ∷ ps) qs (c ∷ t) u (takes_one one k m) n = takes_one one k (append_right ps qs t u m n)
append_right (p ∷ ps) qs t u (is_done many m) n = is_done many (append_right ps qs t u m n)
append_right (p ∷ ps) qs (c ∷ t) u (takes_more many k m) n = takes_more many k (append_right (p ∷ ps) qs t u m n)
