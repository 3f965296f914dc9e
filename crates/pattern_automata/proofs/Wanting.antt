-- The test of clauses answers the relation.
use Rattle.std.proofs.Common.{◌≡◌, ℕ, zero, suc, ◌<◌, List, [], ◌∷◌, length, get_or, Bool, true, false, Any, refl, sym, inl, inr, arith}
use Rattle.std.specs.Bool.{beq, MatchBool}
use Rattle.std.proofs.lemmas.Bool.{and_parts, and_from, or_cases, or_left, or_right, both_ways, false_from_ne_true}
use Rattle.std.proofs.lemmas.List.Elements.{All-nil, All-cons, All-head, All-tail}
use Rattle.wildcard_lang.specs.declared.piece.Piece.{Piece}
use Rattle.wildcard_lang.specs.Matching.{Matches}
use Rattle.wildcard_lang.specs.Accepts.{accepts}
use Rattle.wildcard_lang.proofs.Laws.{Decides-accepts}
use Rattle.pattern_automata.specs.declared.wants.Literal.{Literal}
use Rattle.pattern_automata.specs.Closed.{IsLiteralMet, Meets, text_meets, clause_holds, MeetsIsTested}

module _ (patterns : List (List Piece)) (t : List ℕ) where
  abbrev answer : ℕ → Bool
  answer i = accepts (get_or patterns i []) t

  literal-to : (b : Bool) (ps : List Piece) → beq (accepts ps t) b ≡ true → MatchBool b (Matches ps t) (Matches ps t → ⊥)
  literal-to true ps h = (Decides-accepts ps t).0 (elim (accepts ps t) as (λ x. beq x true ≡ true → x ≡ true) [ true ↦ λ _. refl | false ↦ λ e. e ] h)
  literal-to false ps h = λ m. both_ways (accepts ps t) (elim (accepts ps t) as (λ x. beq x false ≡ true → x ≡ false) [ true ↦ λ e. sym e | false ↦ λ _. refl ] h) ((Decides-accepts ps t).1 m)

  literal-from : (b : Bool) (ps : List Piece) → MatchBool b (Matches ps t) (Matches ps t → ⊥) → beq (accepts ps t) b ≡ true
  literal-from true ps m = let e : accepts ps t ≡ true = (Decides-accepts ps t).1 m in rw e refl
  literal-from false ps m = let e : accepts ps t ≡ false = false_from_ne_true _ (λ h. m ((Decides-accepts ps t).0 h)) in rw e refl

  clause-to : (ls : List Literal) → clause_holds answer ls ≡ true → Any (IsLiteralMet patterns t) ls
  clause-to [] h = absurd (cc)
  clause-to (l ∷ ls) h =
      elim (or_cases (beq (answer l.pattern) l.holds) _ h) [
        | inl e ↦ (0, l, omega arith, refl, literal-to l.holds (get_or patterns l.pattern []) e)
        | inr r ↦ let w = clause-to ls r in (suc w.0, w.1, omega (arith, w.2), w.3, w.4)
      ]

  clause-from : (ls : List Literal) (k : ℕ) (x : Literal) → k < length ls → get_or ls k x ≡ x → IsLiteralMet patterns t x → clause_holds answer ls ≡ true
  clause-from [] k x h e m = absurd (omega arith)
  clause-from (l ∷ ls) zero x h e m = or_left _ _ (literal-from l.holds (get_or patterns l.pattern []) (rw e m))
  clause-from (l ∷ ls) (suc k) x h e m = or_right _ _ (clause-from ls k x (omega arith) e m)

  pub meets-to : (ks : List (List Literal)) → text_meets patterns ks t ≡ true → Meets patterns ks t
  meets-to [] h = All-nil (Any (IsLiteralMet patterns t))
  meets-to (k ∷ ks) h =
      let both : (clause_holds answer k ≡ true) × (text_meets patterns ks t ≡ true) = and_parts _ _ h in
      All-cons (Any (IsLiteralMet patterns t)) k ks (clause-to k both.0) (meets-to ks both.1)

  pub meets-from : (ks : List (List Literal)) → Meets patterns ks t → text_meets patterns ks t ≡ true
  meets-from [] h = refl
  meets-from (k ∷ ks) h =
      let w = All-head (Any (IsLiteralMet patterns t)) k ks h in
      and_from _ _ (clause-from k w.0 w.1 w.2 w.3 w.4) (meets-from ks (All-tail (Any (IsLiteralMet patterns t)) k ks h))

pub meets-tested : MeetsIsTested
meets-tested patterns clauses t = (meets-to patterns t clauses, meets-from patterns t clauses)
