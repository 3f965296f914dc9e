-- Which texts patterns of ARNs match.
use Rattle.std.proofs.Common.{◌≡◌, ◌↔◌, ℕ, zero, suc, ◌<◌, ◌≤◌, true, false, not, List, [], ◌∷◌, ◌++◌, map, Option, Some, None, option_map, refl, sym, ap, ◌∙◌, subst, inl, inr, arith, ◌==◌, if◌then◌else◌}
use Rattle.std.proofs.lemmas.Bool.{cond_both, cond-true, cond-false, cases_Bool, and_parts, and_from, eqb-true, not_from_false, not-true}
use Rattle.std.proofs.lemmas.Bool.Decides.{nat_tests}
use Rattle.std.specs.List.{list_all}
use Rattle.wildcard_lang.specs.declared.piece.Piece.{Piece}
use Rattle.wildcard_lang.specs.declared.piece.Piece.TheVariants.{Lit, LitFold, One, Many, OneNoColon, ManyNoColon}
use Rattle.wildcard_lang.specs.declared.symbol.Symbol.{Symbol}
use Rattle.wildcard_lang.specs.declared.symbol.Symbol.TheVariants.{Written, Escaped}
use Rattle.wildcard_lang.specs.Matching.{takes, is_many, Matches, no_pieces, takes_one, is_done, takes_more}
use Rattle.wildcard_lang.specs.Symbols.{character, symbols}
use Rattle.wildcard_lang.specs.Reading.{wildcard, wildcard_of}
use Rattle.wildcard_lang.specs.Arns.{narrow_piece, is_colon, narrow_before, colons_left, narrowed_pieces, colons}
use Rattle.wildcard_lang.specs.Meanings.{has_no_colon, HasParts, last_part, first_part, ArnMatchesItsParts}
use Rattle.wildcard_lang.proofs.Narrow.{narrowed-none}
use Rattle.wildcard_lang.proofs.Inversions.{empty_left, OneTaken, one_left, RunTaken, many_left, many_right, Apart, append_left, append_right}
use Rattle.wildcard_lang.proofs.Forms.{form-matched, form-matches}

-- ---- colons among symbols

wildcard-colon : (c : ℕ) → is_colon (wildcard false c) ≡ (c == 58)
wildcard-colon c =
    cond_both (c == 42) Many (if c == 63 then One else Lit c) (λ p. is_colon p ≡ (c == 58)) (λ e. grind (arith, nat_tests))
    (λ e. cond_both (c == 63) One (Lit c) (λ p. is_colon p ≡ (c == 58)) (λ q. grind (arith, nat_tests)) (λ q. refl))

colon-piece : (s : Symbol) → is_colon (wildcard_of false s) ≡ (character s == 58)
colon-piece (Written c) = wildcard-colon c
colon-piece (Escaped c) = refl

piece-colon : (s : Symbol) → character s ≡ 58 → wildcard_of false s ≡ Lit 58
piece-colon (Written c) e = subst (λ d. wildcard false d ≡ Lit 58) (sym e) refl
piece-colon (Escaped c) e = ap Lit e

-- the first colon of symbols
record FirstColon (ss : List Symbol) : Type 0 where
  pub part : List Symbol
  pub colon : Symbol
  pub more : List Symbol
  pub is : ss ≡ part ++ colon ∷ more
  pub at : character colon ≡ 58
  pub free : has_no_colon (map character part) ≡ true
  pub left : colons (map (wildcard_of false) ss) ≡ suc (colons (map (wildcard_of false) more))

colon_here : (s : Symbol) (ss : List Symbol) → (character s == 58) ≡ true → FirstColon (s ∷ ss)
colon_here s ss e = record {
  part = [];
  colon = s;
  more = ss;
  is = refl;
  at = eqb-true (character s) 58 e;
  free = refl;
  left = cond-true (is_colon (wildcard_of false s)) _ _ (colon-piece s ∙ e);
}

colon_behind : (s : Symbol) (ss : List Symbol) → (character s == 58) ≡ false → FirstColon ss → FirstColon (s ∷ ss)
colon_behind s ss e r = record {
  part = s ∷ r.part;
  colon = r.colon;
  more = r.more;
  is = ap (λ (us : List Symbol). s ∷ us) r.is;
  at = r.at;
  free = and_from _ _ (not_from_false (character s == 58) e) r.free;
  left = cond-false (is_colon (wildcard_of false s)) _ _ (colon-piece s ∙ e) ∙ r.left;
}

first_colon : (ss : List Symbol) → 0 < colons (map (wildcard_of false) ss) → FirstColon ss
first_colon [] h = absurd (omega arith)
first_colon (s ∷ ss) h =
    elim (cases_Bool (character s == 58)) [
      | inl e ↦ colon_here s ss e
      | inr e ↦
          let fewer : colons (map (wildcard_of false) (s ∷ ss)) ≡ colons (map (wildcard_of false) ss) = cond-false (is_colon (wildcard_of false s)) _ _ (colon-piece s ∙ e) in
          colon_behind s ss e (first_colon ss (subst (λ n. 0 < n) fewer h))
    ]

-- ---- the pieces up to a colon

narrowed-part : (k : ℕ) (part : List Symbol) (colon : Symbol) (more : List Symbol) → has_no_colon (map character part) ≡ true → character colon ≡ 58 →
    narrowed_pieces (suc k) (map (wildcard_of false) (part ++ colon ∷ more)) ≡ map narrow_piece (map (wildcard_of false) part) ++ Lit 58 ∷ narrowed_pieces k (map (wildcard_of false) more)
narrowed-part k [] colon more free at = rw (piece-colon colon at) refl
narrowed-part k (s ∷ part) colon more free at =
    let parts : (not (character s == 58) ≡ true) × (has_no_colon (map character part) ≡ true) = and_parts _ _ free in
    let other : is_colon (wildcard_of false s) ≡ false = colon-piece s ∙ not-true (character s == 58) parts.0 in
    rw other (ap (λ (ps : List Piece). narrow_piece (wildcard_of false s) ∷ ps) (narrowed-part k part colon more parts.1 at))

many-narrow : (p : Piece) → is_many (narrow_piece p) ≡ is_many p
many-narrow (Lit c) = refl
many-narrow (LitFold c) = refl
many-narrow One = refl
many-narrow Many = refl
many-narrow OneNoColon = refl
many-narrow ManyNoColon = refl

takes-narrow : (p : Piece) (c : ℕ) → not (c == 58) ≡ true → takes p c ≡ true → takes (narrow_piece p) c ≡ true
takes-narrow (Lit d) c free k = k
takes-narrow (LitFold d) c free k = k
takes-narrow One c free k = free
takes-narrow Many c free k = free
takes-narrow OneNoColon c free k = k
takes-narrow ManyNoColon c free k = k

narrow-takes : (p : Piece) (c : ℕ) → takes (narrow_piece p) c ≡ true → takes p c ≡ true
narrow-takes (Lit d) c k = k
narrow-takes (LitFold d) c k = k
narrow-takes One c k = refl
narrow-takes Many c k = refl
narrow-takes OneNoColon c k = k
narrow-takes ManyNoColon c k = k

plain-free : (d c : ℕ) → (d == 58) ≡ false → (c == d) ≡ true → not (c == 58) ≡ true
plain-free d c other k = grind (arith, nat_tests)

narrow-free : (s : Symbol) (c : ℕ) → not (character s == 58) ≡ true → takes (narrow_piece (wildcard_of false s)) c ≡ true → not (c == 58) ≡ true
narrow-free (Written d) c other k =
    cond_both (d == 42) Many (if d == 63 then One else Lit d) (λ p. takes (narrow_piece p) c ≡ true → not (c == 58) ≡ true) (λ e h. h)
    (λ e. cond_both (d == 63) One (Lit d) (λ p. takes (narrow_piece p) c ≡ true → not (c == 58) ≡ true) (λ q h. h) (λ q h. plain-free d c (not-true (d == 58) other) h)) k
narrow-free (Escaped d) c other k = plain-free d c (not-true (d == 58) other) k

-- a text without colons is matched by the narrowed pieces too
pub narrow-matches : (ps : List Piece) (t : List ℕ) → has_no_colon t ≡ true → Matches ps t → Matches (map narrow_piece ps) t
narrow-matches [] [] free no_pieces = no_pieces
narrow-matches [] (c ∷ t) free m = elim m [ ]
narrow-matches (p ∷ ps) (c ∷ t) free (takes_one one k m) =
    let parts : (not (c == 58) ≡ true) × (has_no_colon t ≡ true) = and_parts _ _ free in
    takes_one (many-narrow p ∙ one) (takes-narrow p c parts.0 k) (narrow-matches ps t parts.1 m)
narrow-matches (p ∷ ps) t free (is_done many m) = is_done (many-narrow p ∙ many) (narrow-matches ps t free m)
narrow-matches (p ∷ ps) (c ∷ t) free (takes_more many k m) =
    let parts : (not (c == 58) ≡ true) × (has_no_colon t ≡ true) = and_parts _ _ free in
    takes_more (many-narrow p ∙ many) (takes-narrow p c parts.0 k) (narrow-matches (p ∷ ps) t parts.1 m)

-- what the narrowed pieces of a part match has no colon, and is matched by the part
record PartMatched (part : List Symbol) (t : List ℕ) : Type 0 where
  pub matches : Matches (map (wildcard_of false) part) t
  pub free : has_no_colon t ≡ true

has_no_colon-append : (t u : List ℕ) → has_no_colon t ≡ true → has_no_colon u ≡ true → has_no_colon (t ++ u) ≡ true
has_no_colon-append [] u h k = k
has_no_colon-append (c ∷ t) u h k =
    let parts : (not (c == 58) ≡ true) × (has_no_colon t ≡ true) = and_parts _ _ h in and_from _ _ parts.0 (has_no_colon-append t u parts.1 k)

run-free : (s : Symbol) (run : List ℕ) → not (character s == 58) ≡ true → list_all (takes (narrow_piece (wildcard_of false s))) run ≡ true →
    (list_all (takes (wildcard_of false s)) run ≡ true) × (has_no_colon run ≡ true)
run-free s [] other h = (refl, refl)
run-free s (c ∷ run) other h =
    let parts : (takes (narrow_piece (wildcard_of false s)) c ≡ true) × (list_all (takes (narrow_piece (wildcard_of false s))) run ≡ true) = and_parts _ _ h in
    let rest : (list_all (takes (wildcard_of false s)) run ≡ true) × (has_no_colon run ≡ true) = run-free s run other parts.1 in
    (and_from _ _ (narrow-takes (wildcard_of false s) c parts.0) rest.0, and_from _ _ (narrow-free s c other parts.0) rest.1)

part_many : (s : Symbol) (part : List Symbol) (t : List ℕ) → not (character s == 58) ≡ true → is_many (wildcard_of false s) ≡ true →
    (r : RunTaken (narrow_piece (wildcard_of false s)) (map narrow_piece (map (wildcard_of false) part)) t) → PartMatched part r.rest → PartMatched (s ∷ part) t
part_many s part t other many r q =
    let taken : (list_all (takes (wildcard_of false s)) r.run ≡ true) × (has_no_colon r.run ≡ true) = run-free s r.run other r.taken in
    record {
      matches = subst (Matches (map (wildcard_of false) (s ∷ part))) (sym r.is) (many_right (wildcard_of false s) (map (wildcard_of false) part) r.run r.rest many taken.0 q.matches);
      free = subst (λ u. has_no_colon u ≡ true) (sym r.is) (has_no_colon-append r.run r.rest taken.1 q.free);
    }

part_one : (s : Symbol) (part : List Symbol) (t : List ℕ) → not (character s == 58) ≡ true → is_many (wildcard_of false s) ≡ false →
    (o : OneTaken (narrow_piece (wildcard_of false s)) (map narrow_piece (map (wildcard_of false) part)) t) → PartMatched part o.rest → PartMatched (s ∷ part) t
part_one s part t other one o q = record {
  matches = subst (Matches (map (wildcard_of false) (s ∷ part))) (sym o.is) (takes_one one (narrow-takes (wildcard_of false s) o.first o.taken) q.matches);
  free = subst (λ u. has_no_colon u ≡ true) (sym o.is) (and_from _ _ (narrow-free s o.first other o.taken) q.free);
}

part_matched : (part : List Symbol) (t : List ℕ) → has_no_colon (map character part) ≡ true → Matches (map narrow_piece (map (wildcard_of false) part)) t → PartMatched part t
part_matched [] t free m = record { matches = m; free = rw (empty_left t m) refl }
part_matched (s ∷ part) t free m =
    let more : List Piece = map narrow_piece (map (wildcard_of false) part) in
    let p : Piece = wildcard_of false s in
    let parts : (not (character s == 58) ≡ true) × (has_no_colon (map character part) ≡ true) = and_parts _ _ free in
    elim (cases_Bool (is_many p)) [
      | inl e ↦
          let r : RunTaken (narrow_piece p) more t = many_left (narrow_piece p) more t (many-narrow p ∙ e) m in
          part_many s part t parts.0 e r (part_matched part r.rest parts.1 r.matches)
      | inr e ↦
          let o : OneTaken (narrow_piece p) more t = one_left (narrow_piece p) more t (many-narrow p ∙ e) m in
          part_one s part t parts.0 e o (part_matched part o.rest parts.1 o.matches)
    ]

-- ---- the whole

cut_symbols : (k : ℕ) (ss part : List Symbol) (colon : Symbol) (more : List Symbol) → ss ≡ part ++ colon ∷ more → has_no_colon (map character part) ≡ true → character colon ≡ 58 →
    narrowed_pieces (suc k) (map (wildcard_of false) ss) ≡ map narrow_piece (map (wildcard_of false) part) ++ Lit 58 ∷ narrowed_pieces k (map (wildcard_of false) more)
cut_symbols k ss part colon more is free at = rw is (narrowed-part k part colon more free at)

cut_text : (t left right rest : List ℕ) (c : ℕ) → t ≡ left ++ right → right ≡ c ∷ rest → c ≡ 58 → t ≡ left ++ 58 ∷ rest
cut_text t left right rest c is cut at = cc

pub parts-matched : (k : ℕ) (ss : List Symbol) (t : List ℕ) → k ≤ colons (map (wildcard_of false) ss) → Matches (narrowed_pieces k (map (wildcard_of false) ss)) t → HasParts k ss t
parts-matched zero ss t enough m = last_part (form-matched false ss t (subst (λ ps. Matches ps t) (narrowed-none (map (wildcard_of false) ss)) m))
parts-matched (suc k) ss t enough m =
    let f : FirstColon ss = first_colon ss (omega arith) in
    let front : List Piece = map narrow_piece (map (wildcard_of false) f.part) in
    let behind : List Piece = narrowed_pieces k (map (wildcard_of false) f.more) in
    let made : narrowed_pieces (suc k) (map (wildcard_of false) ss) ≡ front ++ Lit 58 ∷ behind = cut_symbols k ss f.part f.colon f.more f.is f.free f.at in
    let a : Apart front (Lit 58 ∷ behind) t = append_left front (Lit 58 ∷ behind) t (subst (λ ps. Matches ps t) made m) in
    let o : OneTaken (Lit 58) behind a.right = one_left (Lit 58) behind a.right refl a.second in
    let q : PartMatched f.part a.left = part_matched f.part a.left f.free a.first in
    let is : t ≡ a.left ++ 58 ∷ o.rest = cut_text t a.left a.right o.rest o.first a.is o.is (eqb-true o.first 58 o.taken) in
    let more : k ≤ colons (map (wildcard_of false) f.more) = omega (arith, f.left) in
    first_part f.part f.colon f.more a.left o.rest f.is f.at f.free is q.free (form-matched false f.part a.left q.matches) (parts-matched k f.more o.rest more o.matches)

pub parts-match : (k : ℕ) (ss : List Symbol) (t : List ℕ) → HasParts k ss t → Matches (narrowed_pieces k (map (wildcard_of false) ss)) t
parts-match zero ss t (last_part form) = subst (λ ps. Matches ps t) (sym (narrowed-none (map (wildcard_of false) ss))) (form-matches false ss t form)
parts-match (suc k) ss t (first_part part colon more text rest is at free tis tfree form parts) =
    let front : List Piece = map narrow_piece (map (wildcard_of false) part) in
    let behind : List Piece = narrowed_pieces k (map (wildcard_of false) more) in
    let made : narrowed_pieces (suc k) (map (wildcard_of false) ss) ≡ front ++ Lit 58 ∷ behind = cut_symbols k ss part colon more is free at in
    let first : Matches front text = narrow-matches (map (wildcard_of false) part) text tfree (form-matches false part text form) in
    let second : Matches (Lit 58 ∷ behind) (58 ∷ rest) = takes_one refl refl (parts-match k more rest parts) in
    let whole : Matches (front ++ Lit 58 ∷ behind) (text ++ 58 ∷ rest) = append_right front (Lit 58 ∷ behind) text (58 ∷ rest) first second in
    subst (λ ps. Matches ps t) (sym made) (subst (Matches (front ++ Lit 58 ∷ behind)) (sym tis) whole)

colon-before : (k : ℕ) (p : Piece) → is_colon (narrow_before k p) ≡ is_colon p
colon-before zero p = refl
colon-before (suc k) (Lit c) = refl
colon-before (suc k) (LitFold c) = refl
colon-before (suc k) One = refl
colon-before (suc k) Many = refl
colon-before (suc k) OneNoColon = refl
colon-before (suc k) ManyNoColon = refl

pub colons-narrowed : (k : ℕ) (ps : List Piece) → colons (narrowed_pieces k ps) ≡ colons ps
colons-narrowed k [] = refl
colons-narrowed k (p ∷ ps) = rw (colon-before k p, colons-narrowed (colons_left k p) ps) refl

read_parts : (read : Option (List Symbol)) (ss : List Symbol) (ps : List Piece) → read ≡ Some ss → option_map (narrowed_pieces 5) (option_map (map (wildcard_of false)) read) ≡ Some ps → narrowed_pieces 5 (map (wildcard_of false) ss) ≡ ps
read_parts None ss ps e f = absurd (cc)
read_parts (Some us) ss ps e f =
    let same : us ≡ ss = cc in
    let made : narrowed_pieces 5 (map (wildcard_of false) us) ≡ ps = cc in
    ap (λ vs. narrowed_pieces 5 (map (wildcard_of false) vs)) (sym same) ∙ made

pub arn_matches : ArnMatchesItsParts
arn_matches escapes cs ss ps t read made enough =
    let e : narrowed_pieces 5 (map (wildcard_of false) ss) ≡ ps = read_parts (symbols escapes cs) ss ps read made in
    let count : colons ps ≡ colons (map (wildcard_of false) ss) = ap colons (sym e) ∙ colons-narrowed 5 (map (wildcard_of false) ss) in
    subst (λ qs. Matches qs t ↔ HasParts 5 ss t) e (parts-matched 5 ss t (omega (arith, count)), parts-match 5 ss t)
