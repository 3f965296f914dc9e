-- The patterns that conditions give are of their classes.
use Rattle.std.proofs.Common.{◌≡◌, ◌≤◌, ℕ, ◌||◌, Bool, true, false, List, [], ◌∷◌, length, map, Option, Some, None, if◌then◌else◌, MatchBool, option_map, refl, sym, subst, arith}
use Rattle.std.specs.Char.{is_ascii_alphabetic, to_ascii_lowercase}
use Rattle.std.specs.List.{list_all, list_any}
use Rattle.std.proofs.lemmas.Option.{same_Some}
use Rattle.wildcard_lang.specs.declared.pattern.TheConstants.{MOST_PIECES}
use Rattle.wildcard_lang.specs.declared.piece.Piece.{Piece}
use Rattle.wildcard_lang.specs.declared.piece.Piece.TheVariants.{Lit, LitFold, One, Many, OneNoColon, ManyNoColon}
use Rattle.wildcard_lang.specs.declared.symbol.Symbol.{Symbol}
use Rattle.wildcard_lang.specs.declared.symbol.Symbol.TheVariants.{Written, Escaped}
use Rattle.wildcard_lang.specs.Patterns.{is_not_narrow}
use Rattle.wildcard_lang.specs.Reading.{literal_of, literals}
use Rattle.wildcard_lang.specs.Symbols.{symbols}
use Rattle.wildcard_lang.specs.WrittenAgain.{IsArnOf, IsGlobOf, IsLiteralOf, is_glob_piece}
use Rattle.wildcard_lang.proofs.Laws.{arns-globs, globs-pieces, literals-globs}
use Rattle.policy_model.specs.declared.operator.Base.{Base}
use Rattle.policy_model.specs.declared.operator.Base.TheVariants as base
use Rattle.policy_model.specs.Operators.{truth_word}
use Rattle.policy_json.specs.ReadForms.{IsPatternOf}
use Rattle.findings.specs.Texts.{is_narrow_wildcard, takes_either_case}
use Rattle.read_predicates.specs.WrittenForms.{IsClassed, IsWrittenPattern}

-- ---- patterns with wildcards

-- such a pattern has neither a wildcard that takes no colon nor a letter in either case
glob-wide : (p : List Piece) → list_all is_glob_piece p ≡ true → (list_any is_narrow_wildcard p ≡ false) × (list_any takes_either_case p ≡ false)
glob-wide [] e = (refl, refl)
glob-wide (Lit c ∷ p) e = glob-wide p e
glob-wide (LitFold c ∷ p) e = absurd (cc)
glob-wide (One ∷ p) e = glob-wide p e
glob-wide (Many ∷ p) e = glob-wide p e
glob-wide (OneNoColon ∷ p) e = absurd (cc)
glob-wide (ManyNoColon ∷ p) e = absurd (cc)

-- the class by the two tests
abbrev ClassedBy : Bool → Bool → List Piece → Type 0
ClassedBy narrow either p = MatchBool narrow (IsArnOf true p) (MatchBool either (IsLiteralOf true true p) (IsGlobOf false true p))

classed-by : (p : List Piece) (narrow either : Bool) → list_any is_narrow_wildcard p ≡ narrow → list_any takes_either_case p ≡ either → ClassedBy narrow either p → IsClassed p
classed-by p narrow either n e is =
    subst (λ (b : Bool). ClassedBy b (list_any takes_either_case p) p) (sym n) (subst (λ (b : Bool). ClassedBy narrow b p) (sym e) is)

glob-classed : (p : List Piece) → IsGlobOf false true p → IsClassed p
glob-classed p is = let wide = glob-wide p ((globs-pieces p).0 is) in classed-by p false false wide.0 wide.1 is

-- ---- literals without regard to case

literal-narrow : (b : Bool) (c : ℕ) → is_narrow_wildcard (if b then LitFold (to_ascii_lowercase c) else Lit c) ≡ false
literal-narrow true c = refl
literal-narrow false c = refl

literal-plain : (b : Bool) (c : ℕ) → takes_either_case (if b then LitFold (to_ascii_lowercase c) else Lit c) ≡ false → is_glob_piece (if b then LitFold (to_ascii_lowercase c) else Lit c) ≡ true
literal-plain true c e = absurd (cc)
literal-plain false c e = refl

symbol-narrow : (s : Symbol) → is_narrow_wildcard (literal_of true s) ≡ false
symbol-narrow (Written c) = literal-narrow (is_ascii_alphabetic c) c
symbol-narrow (Escaped c) = literal-narrow (is_ascii_alphabetic c) c

symbol-plain : (s : Symbol) → takes_either_case (literal_of true s) ≡ false → is_glob_piece (literal_of true s) ≡ true
symbol-plain (Written c) e = literal-plain (is_ascii_alphabetic c) c e
symbol-plain (Escaped c) e = literal-plain (is_ascii_alphabetic c) c e

neither : (a b : Bool) → (a || b) ≡ false → (a ≡ false) × (b ≡ false)
neither true b e = absurd (cc)
neither false b e = (refl, e)

literals-wide : (ss : List Symbol) → list_any is_narrow_wildcard (map (literal_of true) ss) ≡ false
literals-wide [] = refl
literals-wide (s ∷ ss) = rw (symbol-narrow s, literals-wide ss) refl

literals-plain : (ss : List Symbol) → list_any takes_either_case (map (literal_of true) ss) ≡ false → list_all is_glob_piece (map (literal_of true) ss) ≡ true
literals-plain [] e = refl
literals-plain (s ∷ ss) e =
    let parts = neither (takes_either_case (literal_of true s)) (list_any takes_either_case (map (literal_of true) ss)) e in
    rw (symbol-plain s parts.0, literals-plain ss parts.1) refl

-- the symbols of the text that stands for it
of-symbols : (o : Option (List Symbol)) (p : List Piece) → option_map (map (literal_of true)) o ≡ Some p → (ss : List Symbol) × (map (literal_of true) ss ≡ p)
of-symbols None p e = absurd (cc)
of-symbols (Some ss) p e = (ss, same_Some _ _ e)

literal-classed : (p : List Piece) → IsLiteralOf true true p → IsClassed p
literal-classed p is = by (list_any takes_either_case p) refl
  where
    found : (ss : List Symbol) × (map (literal_of true) ss ≡ p)
    found = of-symbols (symbols true is.0) p is.1

    wide : list_any is_narrow_wildcard p ≡ false
    wide = subst (λ (q : List Piece). list_any is_narrow_wildcard q ≡ false) found.1 (literals-wide found.0)

    plain : list_any takes_either_case p ≡ false → list_all is_glob_piece p ≡ true
    plain = subst (λ (q : List Piece). list_any takes_either_case q ≡ false → list_all is_glob_piece q ≡ true) found.1 (literals-plain found.0)

    by : (either : Bool) → list_any takes_either_case p ≡ either → IsClassed p
    by true e = classed-by p false true wide e is
    by false e = classed-by p false false wide e ((globs-pieces p).1 (plain e))

-- ---- patterns of ARNs

not-narrow : (p : List Piece) → list_any is_narrow_wildcard p ≡ false → list_all is_not_narrow p ≡ true
not-narrow [] e = refl
not-narrow (Lit c ∷ p) e = not-narrow p e
not-narrow (LitFold c ∷ p) e = not-narrow p e
not-narrow (One ∷ p) e = not-narrow p e
not-narrow (Many ∷ p) e = not-narrow p e
not-narrow (OneNoColon ∷ p) e = absurd (cc)
not-narrow (ManyNoColon ∷ p) e = absurd (cc)

arn-classed : (p : List Piece) → IsArnOf true p → IsClassed p
arn-classed p is = by (list_any is_narrow_wildcard p) refl
  where
    by : (narrow : Bool) → list_any is_narrow_wildcard p ≡ narrow → IsClassed p
    by true n = classed-by p true (list_any takes_either_case p) n refl is
    by false n = glob-classed p (arns-globs true p is (not-narrow p n))

-- ---- under an operator

under : (b : Base) (p : List Piece) → IsPatternOf b p → IsClassed p
under base.StringEquals p is = glob-classed p (literals-globs true p is)
under base.StringNotEquals p is = glob-classed p (literals-globs true p is)
under base.StringEqualsIgnoreCase p is = literal-classed p is
under base.StringNotEqualsIgnoreCase p is = literal-classed p is
under base.StringLike p is = glob-classed p is
under base.StringNotLike p is = glob-classed p is
under base.ArnEquals p is = arn-classed p is
under base.ArnNotEquals p is = arn-classed p is
under base.ArnLike p is = arn-classed p is
under base.ArnNotLike p is = arn-classed p is
under base.NumericEquals p is = absurd is
under base.NumericNotEquals p is = absurd is
under base.NumericLessThan p is = absurd is
under base.NumericLessThanEquals p is = absurd is
under base.NumericGreaterThan p is = absurd is
under base.NumericGreaterThanEquals p is = absurd is
under base.DateEquals p is = absurd is
under base.DateNotEquals p is = absurd is
under base.DateLessThan p is = absurd is
under base.DateLessThanEquals p is = absurd is
under base.DateGreaterThan p is = absurd is
under base.DateGreaterThanEquals p is = absurd is
under base.Bool p is = absurd is
under base.BinaryEquals p is = absurd is
under base.IpAddress p is = absurd is
under base.NotIpAddress p is = absurd is
under base.Null p is = absurd is

-- a pattern that an operator is given
pub pattern-written : (b : Base) (p : List Piece) → IsPatternOf b p → length p ≤ MOST_PIECES → IsWrittenPattern p
pattern-written b p is few = record { classed = under b p is; few = few }

-- the word of a truth value, in any case of its letters
pub word-written : (b : Bool) → IsWrittenPattern (literals true (truth_word b))
word-written true = record { classed = (truth_word true, refl); few = omega arith }
word-written false = record { classed = (truth_word false, refl); few = omega arith }
