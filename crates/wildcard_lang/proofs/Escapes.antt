-- The symbols of a text with escapes, by cases on its front.
use Rattle.std.proofs.Common.{◌≡◌, ℕ, zero, true, false, List, [], ◌∷◌, Option, Some, None, refl, sym, ap, ◌∙◌, subst, inl, inr, ◌==◌, ◌&&◌}
use Rattle.std.proofs.lemmas.Bool.{cond-true, cond-false, cases_Bool, and_parts, and_from, eqb-true, eq-eqb}
use Rattle.wildcard_lang.specs.declared.symbol.Symbol.{Symbol}
use Rattle.wildcard_lang.specs.declared.symbol.Symbol.TheVariants.{Written, Escaped}
use Rattle.wildcard_lang.specs.Symbols.{is_mark, opens_brace, escaped_character, prepend, prepend_escaped, symbols_after}
use Rattle.wildcard_lang.specs.Escapes.{Reads, no_text, reads_escape, reads_character, SymbolsAreRead}

record Prepended (s : Symbol) (read : Option (List Symbol)) (ss : List Symbol) : Type 0 where
  pub more : List Symbol
  pub read_is : read ≡ Some more
  pub is : ss ≡ s ∷ more

prepended : (s : Symbol) (read : Option (List Symbol)) (ss : List Symbol) → prepend s read ≡ Some ss → Prepended s read ss
prepended s None ss e = absurd (cc)
prepended s (Some us) ss e = let same : s ∷ us ≡ ss = cc in record { more = us; read_is = refl; is = sym same }

-- what a text has at its front, where a `${` stands there and is an escape
escape_is : (c a x b : ℕ) (cs : List ℕ) (ss : List Symbol) → ((c == 36) && (a == 123)) ≡ true → prepend_escaped (escaped_character (a ∷ x ∷ b ∷ cs)) (symbols_after zero cs) ≡ Some ss →
    ((us : List Symbol) → symbols_after zero cs ≡ Some us → Reads cs us) → Reads (c ∷ a ∷ x ∷ b ∷ cs) ss
escape_is c a x b cs ss front e rest =
    elim (cases_Bool ((a == 123) && ((b == 125) && is_mark x))) [
      | inl full ↦
          let p : Prepended (Escaped x) (symbols_after zero cs) ss =
          prepended (Escaped x) (symbols_after zero cs) ss (subst (λ o. prepend_escaped o (symbols_after zero cs) ≡ Some ss) (cond-true ((a == 123) && ((b == 125) && is_mark x)) (Some x) None full) e) in
          let first : ((c == 36) ≡ true) × ((a == 123) ≡ true) = and_parts _ _ front in
          let inner : ((a == 123) ≡ true) × (((b == 125) && is_mark x) ≡ true) = and_parts _ _ full in
          let last : ((b == 125) ≡ true) × (is_mark x ≡ true) = and_parts _ _ inner.1 in
          subst (Reads (c ∷ a ∷ x ∷ b ∷ cs)) (sym p.is)
          (reads_escape (eqb-true c 36 first.0) (eqb-true a 123 first.1) last.1 (eqb-true b 125 last.0) (rest p.more p.read_is))
      | inr broken ↦
          let none : None ≡ Some ss = subst (λ o. prepend_escaped o (symbols_after zero cs) ≡ Some ss) (cond-false ((a == 123) && ((b == 125) && is_mark x)) (Some x) None broken) e in
          absurd (cc)
    ]

plain_is : (c : ℕ) (cs : List ℕ) (ss : List Symbol) → ((c == 36) && opens_brace cs) ≡ false → symbols_after zero (c ∷ cs) ≡ Some ss →
    ((us : List Symbol) → symbols_after zero cs ≡ Some us → Reads cs us) → Reads (c ∷ cs) ss
plain_is c cs ss front e rest =
    let p : Prepended (Written c) (symbols_after zero cs) ss =
    prepended (Written c) (symbols_after zero cs) ss (sym (cond-false ((c == 36) && opens_brace cs) (prepend_escaped (escaped_character cs) (symbols_after 3 cs)) (prepend (Written c) (symbols_after zero cs)) front) ∙ e) in
    subst (Reads (c ∷ cs)) (sym p.is) (reads_character front (rest p.more p.read_is))

opened : (c : ℕ) (cs : List ℕ) (ss : List Symbol) → ((c == 36) && opens_brace cs) ≡ true → symbols_after zero (c ∷ cs) ≡ Some ss → prepend_escaped (escaped_character cs) (symbols_after 3 cs) ≡ Some ss
opened c cs ss front e = sym (cond-true ((c == 36) && opens_brace cs) (prepend_escaped (escaped_character cs) (symbols_after 3 cs)) (prepend (Written c) (symbols_after zero cs)) front) ∙ e

none_read : (cs : List ℕ) (ss : List Symbol) (read : Option (List Symbol)) → read ≡ None → read ≡ Some ss → Reads cs ss
none_read cs ss read none e = absurd (cc)

is_read : (cs : List ℕ) (ss : List Symbol) → symbols_after zero cs ≡ Some ss → Reads cs ss
is_read [] ss e = let none : [] ≡ ss = cc in subst (Reads []) none no_text
is_read (c ∷ []) ss e =
    elim (cases_Bool ((c == 36) && opens_brace [])) [ inl front ↦ none_read (c ∷ []) ss None refl (opened c [] ss front e) | inr front ↦ plain_is c [] ss front e (is_read []) ]
is_read (c ∷ a ∷ []) ss e =
    elim (cases_Bool ((c == 36) && opens_brace (a ∷ []))) [
      | inl front ↦ none_read (c ∷ a ∷ []) ss None refl (opened c (a ∷ []) ss front e)
      | inr front ↦ plain_is c (a ∷ []) ss front e (is_read (a ∷ []))
    ]
is_read (c ∷ a ∷ x ∷ []) ss e =
    elim (cases_Bool ((c == 36) && opens_brace (a ∷ x ∷ []))) [
      | inl front ↦ none_read (c ∷ a ∷ x ∷ []) ss None refl (opened c (a ∷ x ∷ []) ss front e)
      | inr front ↦ plain_is c (a ∷ x ∷ []) ss front e (is_read (a ∷ x ∷ []))
    ]
is_read (c ∷ a ∷ x ∷ b ∷ cs) ss e =
    elim (cases_Bool ((c == 36) && opens_brace (a ∷ x ∷ b ∷ cs))) [
      | inl front ↦ escape_is c a x b cs ss front (opened c (a ∷ x ∷ b ∷ cs) ss front e) (is_read cs)
      | inr front ↦ plain_is c (a ∷ x ∷ b ∷ cs) ss front e (is_read (a ∷ x ∷ b ∷ cs))
    ]

reads_as : (cs : List ℕ) (ss : List Symbol) → Reads cs ss → symbols_after zero cs ≡ Some ss
reads_as [] [] no_text = refl
reads_as [] (s ∷ ss) r = elim r [ ]
reads_as (a ∷ cs) [] r = elim r [ ]
reads_as (a ∷ b ∷ x ∷ d ∷ cs) (s ∷ ss) (reads_escape ea eb mark ed r) =
    let front : ((a == 36) && (b == 123)) ≡ true = and_from _ _ (eq-eqb a 36 ea) (eq-eqb b 123 eb) in
    let full : ((b == 123) && ((d == 125) && is_mark x)) ≡ true = and_from _ _ (eq-eqb b 123 eb) (and_from _ _ (eq-eqb d 125 ed) mark) in
    cond-true ((a == 36) && (b == 123)) (prepend_escaped (escaped_character (b ∷ x ∷ d ∷ cs)) (symbols_after zero cs)) (prepend (Written a) (symbols_after zero (b ∷ x ∷ d ∷ cs))) front ∙
    ap (λ o. prepend_escaped o (symbols_after zero cs)) (cond-true ((b == 123) && ((d == 125) && is_mark x)) (Some x) None full) ∙ ap (prepend (Escaped x)) (reads_as cs ss r)
reads_as (c ∷ cs) (s ∷ ss) (reads_character front r) =
    cond-false ((c == 36) && opens_brace cs) (prepend_escaped (escaped_character cs) (symbols_after 3 cs)) (prepend (Written c) (symbols_after zero cs)) front ∙ ap (prepend (Written c)) (reads_as cs ss r)

pub symbols_are_read : SymbolsAreRead
symbols_are_read cs ss = (is_read cs ss, reads_as cs ss)
