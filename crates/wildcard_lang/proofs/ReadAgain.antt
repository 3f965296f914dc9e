-- A pattern's written form is read as the pattern.
use Rattle.std.proofs.Common.{◌≡◌, ℕ, zero, suc, Bool, true, false, List, [], ◌∷◌, ◌++◌, map, Option, Some, None, option_map, refl, sym, ap, ◌∙◌, subst, arith, ◌==◌, ◌&&◌, if◌then◌else◌}
use Rattle.std.proofs.lemmas.Bool.{cond_both, cond-true, cond-false, and_parts, and_from}
use Rattle.std.proofs.lemmas.Bool.Decides.{nat_tests}
use Rattle.std.specs.Char.{to_ascii_lowercase, is_ascii_alphabetic, is_ascii_lowercase}
use Rattle.std.specs.List.{list_all}
use Rattle.wildcard_lang.specs.declared.piece.Piece.{Piece}
use Rattle.wildcard_lang.specs.declared.piece.Piece.TheVariants.{Lit, LitFold, One, Many, OneNoColon, ManyNoColon}
use Rattle.wildcard_lang.specs.declared.symbol.Symbol.{Symbol}
use Rattle.wildcard_lang.specs.declared.symbol.Symbol.TheVariants.{Written, Escaped}
use Rattle.wildcard_lang.specs.Patterns.{is_lower, is_not_narrow}
use Rattle.wildcard_lang.specs.Symbols.{is_mark, opens_brace, symbols}
use Rattle.wildcard_lang.specs.Escapes.{Reads, no_text, reads_escape, reads_character}
use Rattle.wildcard_lang.specs.Reading.{literal, wildcard, literal_of, wildcard_of, literal_pieces, glob_pieces}
use Rattle.wildcard_lang.specs.Arns.{narrow_before, colons_left, narrowed_pieces, arn_pieces}
use Rattle.wildcard_lang.specs.Writing.{piece_form, written_form, piece_character, action_form}
use Rattle.wildcard_lang.specs.WrittenAgain.{IsGlobOf, is_glob_piece, GlobsAreOfTheirPieces, LiteralsAreGlobs, WideArnsAreGlobs, GlobsAreReadAgain, LiteralsAreReadAgain, ArnsAreReadAgain, ActionsAreReadAgain, GlobsAreFoundWithEscapes, LiteralsAreFoundWithEscapes, ArnsAreFoundWithEscapes, GlobsAreWrittenApart, LiteralsAreWrittenApart, ArnsAreWrittenApart, ActionsAreWrittenApart}
use Rattle.wildcard_lang.proofs.Escapes.{symbols_are_read}
use Rattle.wildcard_lang.proofs.PatternRules.{Keeps, Keeps-literal, Keeps-wildcard, list_all-pieces, wildcards_of-written}
use Rattle.wildcard_lang.proofs.Texts.{lower_lower}

-- ---- the symbols of a written form

-- the symbol as which the form of a piece is read
abbrev piece_symbol : Piece → Symbol
piece_symbol (Lit c) = (if is_mark c then Escaped c else Written c)
piece_symbol (LitFold c) = Written c
piece_symbol One = Written 63
piece_symbol Many = Written 42
piece_symbol OneNoColon = Written 63
piece_symbol ManyNoColon = Written 42

no_dollar : (c : ℕ) (b : Bool) → is_mark c ≡ false → ((c == 36) && b) ≡ false
no_dollar c b e = grind (arith, nat_tests)

no_letter : (c : ℕ) (b : Bool) → is_ascii_lowercase c ≡ true → ((c == 36) && b) ≡ false
no_letter c b e = grind (arith, nat_tests)

reads_plain : (c : ℕ) (cs : List ℕ) (ss : List Symbol) (mark : Bool) → is_mark c ≡ mark → Reads cs ss →
    Reads ((if mark then 36 ∷ 123 ∷ c ∷ 125 ∷ [] else c ∷ []) ++ cs) ((if mark then Escaped c else Written c) ∷ ss)
reads_plain c cs ss true e r = reads_escape refl refl e refl r
reads_plain c cs ss false e r = reads_character (no_dollar c (opens_brace cs) e) r

reads_piece : (p : Piece) (cs : List ℕ) (ss : List Symbol) → is_lower p ≡ true → Reads cs ss → Reads (piece_form p ++ cs) (piece_symbol p ∷ ss)
reads_piece (Lit c) cs ss lower r = reads_plain c cs ss (is_mark c) refl r
reads_piece (LitFold c) cs ss lower r = reads_character (no_letter c (opens_brace cs) lower) r
reads_piece One cs ss lower r = reads_character refl r
reads_piece Many cs ss lower r = reads_character refl r
reads_piece OneNoColon cs ss lower r = reads_character refl r
reads_piece ManyNoColon cs ss lower r = reads_character refl r

reads_form : (ps : List Piece) → list_all is_lower ps ≡ true → Reads (written_form ps) (map piece_symbol ps)
reads_form [] h = no_text
reads_form (p ∷ ps) h =
    let parts : (is_lower p ≡ true) × (list_all is_lower ps ≡ true) = and_parts _ _ h in
    reads_piece p (written_form ps) (map piece_symbol ps) parts.0 (reads_form ps parts.1)

form-symbols : (ps : List Piece) → list_all is_lower ps ≡ true → symbols true (written_form ps) ≡ Some (map piece_symbol ps)
form-symbols ps h = (symbols_are_read (written_form ps) (map piece_symbol ps)).1 (reads_form ps h)

-- where each piece is made anew of its symbol, the pieces are made anew
pieces-again : (piece : Symbol → Piece) (test : Piece → Bool) → ((p : Piece) → test p ≡ true → piece (piece_symbol p) ≡ p) →
    (ps : List Piece) → list_all test ps ≡ true → map piece (map piece_symbol ps) ≡ ps
pieces-again piece test each [] h = refl
pieces-again piece test each (p ∷ ps) h =
    let parts : (test p ≡ true) × (list_all test ps ≡ true) = and_parts _ _ h in
    rw (each p parts.0, pieces-again piece test each ps parts.1) refl

form-read : (piece : Symbol → Piece) (ps : List Piece) → list_all is_lower ps ≡ true → map piece (map piece_symbol ps) ≡ ps →
    option_map (map piece) (symbols true (written_form ps)) ≡ Some ps
form-read piece ps lower made = ap (option_map (map piece)) (form-symbols ps lower) ∙ ap Some made

-- ---- pieces that a reader makes of symbols

record Made (piece : Symbol → Piece) (ps : List Piece) : Type 0 where
  pub of : List Symbol
  pub is : ps ≡ map piece of

made : (piece : Symbol → Piece) (read : Option (List Symbol)) (ps : List Piece) → option_map (map piece) read ≡ Some ps → Made piece ps
made piece None ps e = absurd (cc)
made piece (Some ss) ps e = let same : map piece ss ≡ ps = cc in record { of = ss; is = sym same }

symbols-again : (piece : Symbol → Piece) → ((s : Symbol) → piece (piece_symbol (piece s)) ≡ piece s) →
    (ss : List Symbol) → map piece (map piece_symbol (map piece ss)) ≡ map piece ss
symbols-again piece each [] = refl
symbols-again piece each (s ∷ ss) = rw (each s, symbols-again piece each ss) refl

made-again : (piece : Symbol → Piece) → Keeps piece → ((s : Symbol) → piece (piece_symbol (piece s)) ≡ piece s) → (ps : List Piece) → Made piece ps →
    option_map (map piece) (symbols true (written_form ps)) ≡ Some ps
made-again piece keeps each ps m =
    subst (λ qs. option_map (map piece) (symbols true (written_form qs)) ≡ Some qs) (sym m.is)
    (form-read piece (map piece m.of) (list_all-pieces piece is_lower keeps.lower m.of) (symbols-again piece each m.of))

-- ---- literals

lower-letter : (c : ℕ) → is_ascii_alphabetic c ≡ true → is_ascii_alphabetic (to_ascii_lowercase c) ≡ true
lower-letter c h = grind (arith, nat_tests)

-- the lower case of a folded letter is a folded letter again
lower-again : (fold : Bool) (c : ℕ) → (fold && is_ascii_alphabetic c) ≡ true → literal fold (to_ascii_lowercase c) ≡ LitFold (to_ascii_lowercase c)
lower-again fold c e =
    let parts : (fold ≡ true) × (is_ascii_alphabetic c ≡ true) = and_parts _ _ e in
    cond-true (fold && is_ascii_alphabetic (to_ascii_lowercase c)) _ _ (and_from _ _ parts.0 (lower-letter c parts.1)) ∙ ap LitFold (lower_lower c)

plain-again : (fold : Bool) (c : ℕ) → (fold && is_ascii_alphabetic c) ≡ false → literal fold c ≡ Lit c
plain-again fold c e = cond-false (fold && is_ascii_alphabetic c) _ _ e

literal-again : (fold : Bool) (c : ℕ) → literal_of fold (piece_symbol (literal fold c)) ≡ literal fold c
literal-again fold c =
    cond_both (fold && is_ascii_alphabetic c) (LitFold (to_ascii_lowercase c)) (Lit c) (λ p. literal_of fold (piece_symbol p) ≡ p)
    (λ e. lower-again fold c e)
    (λ e. cond_both (is_mark c) (Escaped c) (Written c) (λ s. literal_of fold s ≡ Lit c) (λ m. plain-again fold c e) (λ m. plain-again fold c e))

literal_of-again : (fold : Bool) (s : Symbol) → literal_of fold (piece_symbol (literal_of fold s)) ≡ literal_of fold s
literal_of-again fold (Written c) = literal-again fold c
literal_of-again fold (Escaped c) = literal-again fold c

pub literals-again : LiteralsAreReadAgain
literals-again fold escapes ps of =
    made-again (literal_of fold) (Keeps-literal fold) (literal_of-again fold) ps (made (literal_of fold) (symbols escapes of.0) ps of.1)

pub literals-with_escapes : LiteralsAreFoundWithEscapes
literals-with_escapes fold escapes ps of = (written_form ps, literals-again fold escapes ps of)

-- ---- patterns with wildcards

no_wildcard : (fold : Bool) (c : ℕ) → (c == 42) ≡ false → (c == 63) ≡ false → wildcard fold c ≡ literal fold c
no_wildcard fold c star one = cond-false (c == 42) _ _ star ∙ cond-false (c == 63) _ _ one

letter-star : (c : ℕ) → is_ascii_alphabetic c ≡ true → (to_ascii_lowercase c == 42) ≡ false
letter-star c h = grind (arith, nat_tests)

letter-one : (c : ℕ) → is_ascii_alphabetic c ≡ true → (to_ascii_lowercase c == 63) ≡ false
letter-one c h = grind (arith, nat_tests)

mark-star : (c : ℕ) → is_mark c ≡ false → (c == 42) ≡ false
mark-star c h = grind (arith, nat_tests)

mark-one : (c : ℕ) → is_mark c ≡ false → (c == 63) ≡ false
mark-one c h = grind (arith, nat_tests)

-- a folded letter is no wildcard
folded-again : (fold : Bool) (c : ℕ) → (fold && is_ascii_alphabetic c) ≡ true → wildcard fold (to_ascii_lowercase c) ≡ LitFold (to_ascii_lowercase c)
folded-again fold c e =
    let letter : is_ascii_alphabetic c ≡ true = (and_parts _ _ e).1 in
    no_wildcard fold (to_ascii_lowercase c) (letter-star c letter) (letter-one c letter) ∙ lower-again fold c e

-- nor is a plain character, which is escaped where it would be one
pub bare-again : (fold : Bool) (c : ℕ) → (fold && is_ascii_alphabetic c) ≡ false → wildcard_of fold (piece_symbol (Lit c)) ≡ Lit c
bare-again fold c e =
    cond_both (is_mark c) (Escaped c) (Written c) (λ s. wildcard_of fold s ≡ Lit c) (λ m. plain-again fold c e)
    (λ m. no_wildcard fold c (mark-star c m) (mark-one c m) ∙ plain-again fold c e)

plain_of-again : (fold : Bool) (c : ℕ) → wildcard_of fold (piece_symbol (literal fold c)) ≡ literal fold c
plain_of-again fold c =
    cond_both (fold && is_ascii_alphabetic c) (LitFold (to_ascii_lowercase c)) (Lit c) (λ p. wildcard_of fold (piece_symbol p) ≡ p)
    (λ e. folded-again fold c e) (λ e. bare-again fold c e)

wildcard-again : (fold : Bool) (c : ℕ) → wildcard_of fold (piece_symbol (wildcard fold c)) ≡ wildcard fold c
wildcard-again fold c =
    cond_both (c == 42) Many (if c == 63 then One else literal fold c) (λ p. wildcard_of fold (piece_symbol p) ≡ p) (λ e. refl)
    (λ e. cond_both (c == 63) One (literal fold c) (λ p. wildcard_of fold (piece_symbol p) ≡ p) (λ q. refl) (λ q. plain_of-again fold c))

wildcard_of-again : (fold : Bool) (s : Symbol) → wildcard_of fold (piece_symbol (wildcard_of fold s)) ≡ wildcard_of fold s
wildcard_of-again fold (Written c) = wildcard-again fold c
wildcard_of-again fold (Escaped c) = plain_of-again fold c

pub globs-again : GlobsAreReadAgain
globs-again fold escapes ps of =
    made-again (wildcard_of fold) (Keeps-wildcard fold) (wildcard_of-again fold) ps (made (wildcard_of fold) (symbols escapes of.0) ps of.1)

pub globs-with_escapes : GlobsAreFoundWithEscapes
globs-with_escapes fold escapes ps of = (written_form ps, globs-again fold escapes ps of)

-- ---- which pieces they have

glob-wildcard : (c : ℕ) → is_glob_piece (wildcard false c) ≡ true
glob-wildcard c =
    cond_both (c == 42) Many (if c == 63 then One else Lit c) (λ p. is_glob_piece p ≡ true) (λ e. refl)
    (λ e. cond_both (c == 63) One (Lit c) (λ p. is_glob_piece p ≡ true) (λ q. refl) (λ q. refl))

glob-wildcard_of : (s : Symbol) → is_glob_piece (wildcard_of false s) ≡ true
glob-wildcard_of (Written c) = glob-wildcard c
glob-wildcard_of (Escaped c) = refl

glob-literal_of : (s : Symbol) → is_glob_piece (literal_of false s) ≡ true
glob-literal_of (Written c) = refl
glob-literal_of (Escaped c) = refl

glob-lower : (ps : List Piece) → list_all is_glob_piece ps ≡ true → list_all is_lower ps ≡ true
glob-lower [] h = refl
glob-lower (Lit c ∷ ps) h = glob-lower ps h
glob-lower (LitFold c ∷ ps) h = absurd (cc)
glob-lower (One ∷ ps) h = glob-lower ps h
glob-lower (Many ∷ ps) h = glob-lower ps h
glob-lower (OneNoColon ∷ ps) h = absurd (cc)
glob-lower (ManyNoColon ∷ ps) h = absurd (cc)

glob-piece : (p : Piece) → is_glob_piece p ≡ true → wildcard_of false (piece_symbol p) ≡ p
glob-piece (Lit c) h = bare-again false c refl
glob-piece (LitFold c) h = absurd (cc)
glob-piece One h = refl
glob-piece Many h = refl
glob-piece OneNoColon h = absurd (cc)
glob-piece ManyNoColon h = absurd (cc)

pieces-glob : (ps : List Piece) → list_all is_glob_piece ps ≡ true → IsGlobOf false true ps
pieces-glob ps h = (
  written_form ps,
  form-read (wildcard_of false) ps (glob-lower ps h) (pieces-again (wildcard_of false) is_glob_piece glob-piece ps h),
)

made-all : (piece : Symbol → Piece) → ((s : Symbol) → is_glob_piece (piece s) ≡ true) → (ps : List Piece) → Made piece ps → list_all is_glob_piece ps ≡ true
made-all piece each ps m = subst (λ qs. list_all is_glob_piece qs ≡ true) (sym m.is) (list_all-pieces piece is_glob_piece each m.of)

glob-pieces : (escapes : Bool) (ps : List Piece) → IsGlobOf false escapes ps → list_all is_glob_piece ps ≡ true
glob-pieces escapes ps of = made-all (wildcard_of false) glob-wildcard_of ps (made (wildcard_of false) (symbols escapes of.0) ps of.1)

pub globs-pieces : GlobsAreOfTheirPieces
globs-pieces ps = (glob-pieces true ps, pieces-glob ps)

pub literals-globs : LiteralsAreGlobs
literals-globs escapes ps of = pieces-glob ps (made-all (literal_of false) glob-literal_of ps (made (literal_of false) (symbols escapes of.0) ps of.1))

-- ---- patterns of ARNs

record ArnMade (escapes : Bool) (cs : List ℕ) (ps : List Piece) : Type 0 where
  pub wide : List Piece
  pub read : glob_pieces false escapes cs ≡ Some wide
  pub is : ps ≡ narrowed_pieces 5 wide

arn_read : (read : Option (List Piece)) (ps : List Piece) → option_map (narrowed_pieces 5) read ≡ Some ps → (wide : List Piece) × (read ≡ Some wide) × (ps ≡ narrowed_pieces 5 wide)
arn_read None ps e = absurd (cc)
arn_read (Some wide) ps e = let same : narrowed_pieces 5 wide ≡ ps = cc in (wide, refl, sym same)

arn_made : (escapes : Bool) (cs : List ℕ) (ps : List Piece) → arn_pieces escapes cs ≡ Some ps → ArnMade escapes cs ps
arn_made escapes cs ps e =
    let r : (wide : List Piece) × (glob_pieces false escapes cs ≡ Some wide) × (ps ≡ narrowed_pieces 5 wide) = arn_read (glob_pieces false escapes cs) ps e in
    record { wide = r.0; read = r.1; is = r.2 }

form-before : (k : ℕ) (p : Piece) → piece_form (narrow_before k p) ≡ piece_form p
form-before zero p = refl
form-before (suc k) (Lit c) = refl
form-before (suc k) (LitFold c) = refl
form-before (suc k) One = refl
form-before (suc k) Many = refl
form-before (suc k) OneNoColon = refl
form-before (suc k) ManyNoColon = refl

form-narrowed : (k : ℕ) (ps : List Piece) → written_form (narrowed_pieces k ps) ≡ written_form ps
form-narrowed k [] = refl
form-narrowed k (p ∷ ps) = rw (form-before k p, form-narrowed (colons_left k p) ps) refl

pub arns-again : ArnsAreReadAgain
arns-again escapes ps of =
    let m : ArnMade escapes of.0 ps = arn_made escapes of.0 ps of.1 in
    let form : written_form ps ≡ written_form m.wide = ap written_form m.is ∙ form-narrowed 5 m.wide in
    let wide : glob_pieces false true (written_form m.wide) ≡ Some m.wide = globs-again false escapes m.wide (of.0, m.read) in
    ap (arn_pieces true) form ∙ ap (option_map (narrowed_pieces 5)) wide ∙ ap Some (sym m.is)

pub arns-with_escapes : ArnsAreFoundWithEscapes
arns-with_escapes escapes ps of = (written_form ps, arns-again escapes ps of, of.2)

wide-before : (k : ℕ) (p : Piece) → is_not_narrow (narrow_before k p) ≡ true → narrow_before k p ≡ p
wide-before zero p h = refl
wide-before (suc k) (Lit c) h = refl
wide-before (suc k) (LitFold c) h = refl
wide-before (suc k) One h = absurd (cc)
wide-before (suc k) Many h = absurd (cc)
wide-before (suc k) OneNoColon h = refl
wide-before (suc k) ManyNoColon h = refl

wide-narrowed : (k : ℕ) (ps : List Piece) → list_all is_not_narrow (narrowed_pieces k ps) ≡ true → narrowed_pieces k ps ≡ ps
wide-narrowed k [] h = refl
wide-narrowed k (p ∷ ps) h =
    let parts : (is_not_narrow (narrow_before k p) ≡ true) × (list_all is_not_narrow (narrowed_pieces (colons_left k p) ps) ≡ true) = and_parts _ _ h in
    rw (wide-before k p parts.0, wide-narrowed (colons_left k p) ps parts.1) refl

pub arns-globs : WideArnsAreGlobs
arns-globs escapes ps of h =
    let m : ArnMade escapes of.0 ps = arn_made escapes of.0 ps of.1 in
    let same : ps ≡ m.wide = m.is ∙ wide-narrowed 5 m.wide (subst (λ qs. list_all is_not_narrow qs ≡ true) m.is h) in
    subst (IsGlobOf false true) (sym same) (globs-with_escapes false escapes m.wide (of.0, m.read))

-- ---- actions

action-literal : (fold : Bool) (c : ℕ) → (c == 42) ≡ false → (c == 63) ≡ false → wildcard fold (piece_character (literal fold c)) ≡ literal fold c
action-literal fold c star one =
    cond_both (fold && is_ascii_alphabetic c) (LitFold (to_ascii_lowercase c)) (Lit c) (λ p. wildcard fold (piece_character p) ≡ p)
    (λ e. folded-again fold c e) (λ e. no_wildcard fold c star one ∙ plain-again fold c e)

action-wildcard : (fold : Bool) (c : ℕ) → wildcard fold (piece_character (wildcard fold c)) ≡ wildcard fold c
action-wildcard fold c =
    cond_both (c == 42) Many (if c == 63 then One else literal fold c) (λ p. wildcard fold (piece_character p) ≡ p) (λ e. refl)
    (λ e. cond_both (c == 63) One (literal fold c) (λ p. wildcard fold (piece_character p) ≡ p) (λ q. refl) (λ q. action-literal fold c e q))

action-pieces : (fold : Bool) (cs : List ℕ) → map (wildcard fold) (action_form (map (wildcard fold) cs)) ≡ map (wildcard fold) cs
action-pieces fold [] = refl
action-pieces fold (c ∷ cs) = rw (action-wildcard fold c, action-pieces fold cs) refl

pub actions-again : ActionsAreReadAgain
actions-again ps of =
    let wrote : map (wildcard_of true) (map Written of.0) ≡ ps = cc in
    let is : ps ≡ map (wildcard true) of.0 = sym wrote ∙ wildcards_of-written true of.0 in
    let same : map (wildcard true) (action_form ps) ≡ ps = subst (λ qs. map (wildcard true) (action_form qs) ≡ qs) (sym is) (action-pieces true of.0) in
    ap Some (wildcards_of-written true (action_form ps) ∙ same)

-- ---- patterns written apart

same_read : (read : List ℕ → Option (List Piece)) (cs ds : List ℕ) (ps qs : List Piece) → read cs ≡ Some ps → read ds ≡ Some qs → cs ≡ ds → ps ≡ qs
same_read read cs ds ps qs first second same = cc

pub globs-apart : GlobsAreWrittenApart
globs-apart fold escapes more ps qs of by same =
    same_read (glob_pieces fold true) _ _ ps qs (globs-again fold escapes ps of) (globs-again fold more qs by) same

pub literals-apart : LiteralsAreWrittenApart
literals-apart fold escapes more ps qs of by same =
    same_read (literal_pieces fold true) _ _ ps qs (literals-again fold escapes ps of) (literals-again fold more qs by) same

pub arns-apart : ArnsAreWrittenApart
arns-apart escapes more ps qs of by same = same_read (arn_pieces true) _ _ ps qs (arns-again escapes ps of) (arns-again more qs by) same

pub actions-apart : ActionsAreWrittenApart
actions-apart ps qs of by same = same_read (glob_pieces true false) _ _ ps qs (actions-again ps of) (actions-again qs by) same
