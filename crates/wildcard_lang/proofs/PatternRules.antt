-- What is read is a pattern.
use Rattle.std.proofs.Common.{◌≡◌, ℕ, zero, suc, ◌≤◌, Bool, true, false, ◌&&◌, ◌==◌, List, [], ◌∷◌, ◌++◌, map, length, Option, Some, None, if◌then◌else◌, refl, sym, ap, ◌∙◌, subst, arith, not, append_assoc}
use Rattle.std.proofs.Math.Utf8.{scalar}
use Rattle.std.proofs.lemmas.Bool.{cond_both, cond-false, and_parts, and_from, not-true}
use Rattle.std.proofs.lemmas.Bool.Decides.{nat_tests}
use Rattle.std.proofs.lemmas.Grind.{common_steps}
use Rattle.std.specs.Char.{to_ascii_lowercase, is_ascii_alphabetic, is_ascii_lowercase}
use Rattle.std.proofs.lemmas.List.{length-map}
use Rattle.std.specs.Bool.{OnFalse}
use Rattle.std.specs.List.{list_all, flat_map}
use Rattle.wildcard_lang.specs.declared.pattern.TheConstants.{MOST_PIECES}
use Rattle.wildcard_lang.specs.declared.piece.Piece.{Piece}
use Rattle.wildcard_lang.specs.declared.piece.Piece.TheVariants.{Lit, LitFold, One, Many}
use Rattle.wildcard_lang.specs.declared.symbol.Symbol.{Symbol}
use Rattle.wildcard_lang.specs.declared.symbol.Symbol.TheVariants.{Written, Escaped}
use Rattle.wildcard_lang.specs.Text.{IsText}
use Rattle.wildcard_lang.specs.Patterns.{own_character, is_lower, is_wide, is_not_narrow, narrow_first, IsPattern}
use Rattle.wildcard_lang.specs.Symbols.{character, escaped_character, is_mark, opens_brace, prepend, prepend_escaped, symbols_after, symbols}
use Rattle.wildcard_lang.specs.Reading.{literal, literals, wildcard, literal_of, wildcard_of}
use Rattle.wildcard_lang.proofs.Texts.{scalar-lowercase}

-- ---- the characters of symbols

abbrev pub characters : Option (List Symbol) → List ℕ
characters None = []
characters (Some ss) = map character ss

IsText-prepend : (s : Symbol) (read : Option (List Symbol)) → scalar (character s) ≡ true → IsText (characters read) → IsText (characters (prepend s read))
IsText-prepend s None h t = refl
IsText-prepend s (Some ss) h t = and_from _ _ h t

IsText-behind : (cs : List ℕ) (read : Option (List Symbol)) → IsText cs → IsText (characters read) → IsText (characters (prepend_escaped (escaped_character cs) read))
IsText-behind [] read h t = refl
IsText-behind (a ∷ []) read h t = refl
IsText-behind (a ∷ x ∷ []) read h t = refl
IsText-behind (a ∷ x ∷ b ∷ cs) read h t =
    let first : (scalar a ≡ true) × IsText (x ∷ b ∷ cs) = and_parts _ _ h in
    let second : (scalar x ≡ true) × IsText (b ∷ cs) = and_parts _ _ first.1 in
    cond_both ((a == 123) && ((b == 125) && is_mark x)) (Some x) None (λ o. IsText (characters (prepend_escaped o read)))
    (λ e. IsText-prepend (Escaped x) read second.0 t) (λ e. refl)

IsText-unescaped : (k : ℕ) (cs : List ℕ) → IsText cs → IsText (characters (symbols_after k cs))
IsText-unescaped k [] h = refl
IsText-unescaped (suc k) (c ∷ cs) h = IsText-unescaped k cs ((and_parts _ _ h).1)
IsText-unescaped zero (c ∷ cs) h =
    let parts : (scalar c ≡ true) × IsText cs = and_parts _ _ h in
    cond_both ((c == 36) && opens_brace cs) (prepend_escaped (escaped_character cs) (symbols_after 3 cs)) (prepend (Written c) (symbols_after zero cs)) (λ o. IsText (characters o))
    (λ e. IsText-behind cs (symbols_after 3 cs) parts.1 (IsText-unescaped 3 cs parts.1))
    (λ e. IsText-prepend (Written c) (symbols_after zero cs) parts.0 (IsText-unescaped zero cs parts.1))

character-written : (cs : List ℕ) → map character (map Written cs) ≡ cs
character-written [] = refl
character-written (c ∷ cs) = ap (λ (t : List ℕ). c ∷ t) (character-written cs)

pub IsText-symbols : (escapes : Bool) (cs : List ℕ) → IsText cs → IsText (characters (symbols escapes cs))
IsText-symbols false cs h = rw (character-written cs) h
IsText-symbols true cs h = IsText-unescaped zero cs h

-- ---- a piece for each symbol

-- each symbol's piece is as patterns ask, and no wildcard that takes no colon
pub record Keeps (piece : Symbol → Piece) : Type 0 where
  pub scalars : (s : Symbol) → scalar (character s) ≡ true → IsText (own_character (piece s))
  pub lower : (s : Symbol) → is_lower (piece s) ≡ true
  pub wide : (s : Symbol) → is_not_narrow (piece s) ≡ true

pub IsText-append : (t u : List ℕ) → IsText t → IsText u → IsText (t ++ u)
IsText-append [] u h k = k
IsText-append (c ∷ t) u h k =
    let parts : (scalar c ≡ true) × IsText t = and_parts _ _ h in and_from _ _ parts.0 (IsText-append t u parts.1 k)

pub IsText-pieces : (piece : Symbol → Piece) → Keeps piece → (ss : List Symbol) → IsText (map character ss) → IsText (flat_map own_character (map piece ss))
IsText-pieces piece keeps [] h = refl
IsText-pieces piece keeps (s ∷ ss) h =
    let parts : (scalar (character s) ≡ true) × IsText (map character ss) = and_parts _ _ h in
    IsText-append (own_character (piece s)) (flat_map own_character (map piece ss)) (keeps.scalars s parts.0) (IsText-pieces piece keeps ss parts.1)

pub list_all-pieces : (piece : Symbol → Piece) (test : Piece → Bool) → ((s : Symbol) → test (piece s) ≡ true) → (ss : List Symbol) → list_all test (map piece ss) ≡ true
list_all-pieces piece test each [] = refl
list_all-pieces piece test each (s ∷ ss) = and_from _ _ (each s) (list_all-pieces piece test each ss)

-- where no wildcard is narrow, narrow ones stand first
pub narrow_first-none : (ps : List Piece) → list_all is_not_narrow ps ≡ true → narrow_first ps ≡ true
narrow_first-none [] h = refl
narrow_first-none (p ∷ ps) h =
    let parts : (is_not_narrow p ≡ true) × (list_all is_not_narrow ps ≡ true) = and_parts _ _ h in
    cond_both (is_wide p) (list_all is_not_narrow ps) (narrow_first ps) (λ b. b ≡ true) (λ e. parts.1) (λ e. narrow_first-none ps parts.1)

pub IsPattern-pieces : (piece : Symbol → Piece) → Keeps piece → (ss : List Symbol) → IsText (map character ss) → length ss ≤ MOST_PIECES → IsPattern (map piece ss)
IsPattern-pieces piece keeps ss text fits = record {
  fits = grind (arith, common_steps);
  scalars = IsText-pieces piece keeps ss text;
  lower = list_all-pieces piece is_lower keeps.lower ss;
  narrow = narrow_first-none (map piece ss) (list_all-pieces piece is_not_narrow keeps.wide ss);
}

-- ---- literals and wildcards

scalars-literal : (fold : Bool) (c : ℕ) → scalar c ≡ true → IsText (own_character (literal fold c))
scalars-literal fold c h =
    cond_both (fold && is_ascii_alphabetic c) (LitFold (to_ascii_lowercase c)) (Lit c) (λ p. IsText (own_character p))
    (λ e. and_from _ _ (scalar-lowercase c h) refl) (λ e. and_from _ _ h refl)

lower_letter : (c : ℕ) → is_ascii_alphabetic c ≡ true → is_ascii_lowercase (to_ascii_lowercase c) ≡ true
lower_letter c h = grind (arith, nat_tests)

lower-literal : (fold : Bool) (c : ℕ) → is_lower (literal fold c) ≡ true
lower-literal fold c =
    cond_both (fold && is_ascii_alphabetic c) (LitFold (to_ascii_lowercase c)) (Lit c) (λ p. is_lower p ≡ true)
    (λ e. lower_letter c ((and_parts _ _ e).1)) (λ e. refl)

wide-literal : (fold : Bool) (c : ℕ) → is_not_narrow (literal fold c) ≡ true
wide-literal fold c =
    cond_both (fold && is_ascii_alphabetic c) (LitFold (to_ascii_lowercase c)) (Lit c) (λ p. is_not_narrow p ≡ true) (λ e. refl) (λ e. refl)

either_wildcard : (P : Piece → Type 0) (fold : Bool) (c : ℕ) → P Many → P One → P (literal fold c) → P (wildcard fold c)
either_wildcard P fold c many one plain =
    cond_both (c == 42) Many (if c == 63 then One else literal fold c) P (λ e. many)
    (λ e. cond_both (c == 63) One (literal fold c) P (λ e. one) (λ e. plain))

literal-scalars : (fold : Bool) (s : Symbol) → scalar (character s) ≡ true → IsText (own_character (literal_of fold s))
literal-scalars fold (Written c) h = scalars-literal fold c h
literal-scalars fold (Escaped c) h = scalars-literal fold c h

literal-lower : (fold : Bool) (s : Symbol) → is_lower (literal_of fold s) ≡ true
literal-lower fold (Written c) = lower-literal fold c
literal-lower fold (Escaped c) = lower-literal fold c

literal-wide : (fold : Bool) (s : Symbol) → is_not_narrow (literal_of fold s) ≡ true
literal-wide fold (Written c) = wide-literal fold c
literal-wide fold (Escaped c) = wide-literal fold c

pub Keeps-literal : (fold : Bool) → Keeps (literal_of fold)
Keeps-literal fold = record { scalars = literal-scalars fold; lower = literal-lower fold; wide = literal-wide fold }

wildcard-scalars : (fold : Bool) (s : Symbol) → scalar (character s) ≡ true → IsText (own_character (wildcard_of fold s))
wildcard-scalars fold (Written c) h = either_wildcard (λ p. IsText (own_character p)) fold c refl refl (scalars-literal fold c h)
wildcard-scalars fold (Escaped c) h = scalars-literal fold c h

wildcard-lower : (fold : Bool) (s : Symbol) → is_lower (wildcard_of fold s) ≡ true
wildcard-lower fold (Written c) = either_wildcard (λ p. is_lower p ≡ true) fold c refl refl (lower-literal fold c)
wildcard-lower fold (Escaped c) = lower-literal fold c

wildcard-wide : (fold : Bool) (s : Symbol) → is_not_narrow (wildcard_of fold s) ≡ true
wildcard-wide fold (Written c) = either_wildcard (λ p. is_not_narrow p ≡ true) fold c refl refl (wide-literal fold c)
wildcard-wide fold (Escaped c) = wide-literal fold c

pub Keeps-wildcard : (fold : Bool) → Keeps (wildcard_of fold)
Keeps-wildcard fold = record { scalars = wildcard-scalars fold; lower = wildcard-lower fold; wide = wildcard-wide fold }

-- ---- what the readers hand to a pattern

pub IsText-read : (escapes : Bool) (cs : List ℕ) (ss : List Symbol) → IsText cs → symbols escapes cs ≡ Some ss → IsText (map character ss)
IsText-read escapes cs ss text read = subst (λ o. IsText (characters o)) read (IsText-symbols escapes cs text)

pub IsPattern-read : (piece : Symbol → Piece) → Keeps piece → (escapes : Bool) (cs : List ℕ) (ss : List Symbol) (ps : List Piece) → IsText cs →
    symbols escapes cs ≡ Some ss → ps ≡ map piece ss → length ss ≤ MOST_PIECES → IsPattern ps
IsPattern-read piece keeps escapes cs ss ps text read made fits =
    rw made (IsPattern-pieces piece keeps ss (IsText-read escapes cs ss text read) fits)

-- ---- without escapes each character is a piece

pub literals_of-written : (fold : Bool) (cs : List ℕ) → map (literal_of fold) (map Written cs) ≡ map (literal fold) cs
literals_of-written fold [] = refl
literals_of-written fold (c ∷ cs) = ap (λ (ps : List Piece). literal fold c ∷ ps) (literals_of-written fold cs)

pub wildcards_of-written : (fold : Bool) (cs : List ℕ) → map (wildcard_of fold) (map Written cs) ≡ map (wildcard fold) cs
wildcards_of-written fold [] = refl
wildcards_of-written fold (c ∷ cs) = ap (λ (ps : List Piece). wildcard fold c ∷ ps) (wildcards_of-written fold cs)

pub IsPattern-literals : (fold : Bool) (cs : List ℕ) → IsText cs → length cs ≤ MOST_PIECES → IsPattern (literals fold cs)
IsPattern-literals fold cs text fits =
    let own : IsText (map character (map Written cs)) = rw (character-written cs) text in
    let long : length (map Written cs) ≡ length cs = length-map cs Written in
    rw (literals_of-written fold cs) at (IsPattern-pieces (literal_of fold) (Keeps-literal fold) (map Written cs) own (omega arith))

-- what is read without escapes, where one symbol is one character
pub plain_read : (piece : Symbol → Piece) (plain : ℕ → Piece) → ((cs : List ℕ) → map piece (map Written cs) ≡ map plain cs) → (escapes : Bool) (cs : List ℕ) (ss : List Symbol) (ps : List Piece) →
    symbols escapes cs ≡ Some ss → ps ≡ map piece ss → length ss ≤ MOST_PIECES → OnFalse escapes ((ps ≡ map plain cs) × (length cs ≤ MOST_PIECES))
plain_read piece plain same true cs ss ps read made fits = tt
plain_read piece plain same false cs ss ps read made fits =
    let own : ss ≡ map Written cs = cc in
    let long : length ss ≡ length cs = ap length own ∙ length-map cs Written in
    (made ∙ ap (map piece) own ∙ same cs, omega arith)

-- ---- patterns one behind the other

flat_map-append : (ps qs : List Piece) → flat_map own_character (ps ++ qs) ≡ flat_map own_character ps ++ flat_map own_character qs
flat_map-append [] qs = refl
flat_map-append (p ∷ ps) qs = ap (λ (t : List ℕ). own_character p ++ t) (flat_map-append ps qs) ∙ sym (append_assoc (own_character p) (flat_map own_character ps) (flat_map own_character qs))

list_all-append : (test : Piece → Bool) (ps qs : List Piece) → list_all test ps ≡ true → list_all test qs ≡ true → list_all test (ps ++ qs) ≡ true
list_all-append test [] qs h k = k
list_all-append test (p ∷ ps) qs h k = let parts = and_parts (test p) (list_all test ps) h in and_from _ _ parts.0 (list_all-append test ps qs parts.1 k)

narrow_first-append : (ps qs : List Piece) → list_all (λ p. not (is_wide p)) ps ≡ true → narrow_first qs ≡ true → narrow_first (ps ++ qs) ≡ true
narrow_first-append [] qs h k = k
narrow_first-append (p ∷ ps) qs h k =
    let parts = and_parts (not (is_wide p)) (list_all (λ q. not (is_wide q)) ps) h in
    cond-false (is_wide p) _ _ (not-true (is_wide p) parts.0) ∙ narrow_first-append ps qs parts.1 k

pub IsPattern-append : (ps qs : List Piece) → list_all (λ p. not (is_wide p)) ps ≡ true → IsPattern ps → IsPattern qs → length (ps ++ qs) ≤ MOST_PIECES → IsPattern (ps ++ qs)
IsPattern-append ps qs narrow front prepend_escaped fits = record {
  fits = fits;
  scalars = rw (flat_map-append ps qs) (IsText-append (flat_map own_character ps) (flat_map own_character qs) front.scalars prepend_escaped.scalars);
  lower = list_all-append is_lower ps qs front.lower prepend_escaped.lower;
  narrow = narrow_first-append ps qs narrow prepend_escaped.narrow;
}

pub narrow-literals : (cs : List ℕ) → list_all (λ p. not (is_wide p)) (literals false cs) ≡ true
narrow-literals [] = refl
narrow-literals (c ∷ cs) = narrow-literals cs
