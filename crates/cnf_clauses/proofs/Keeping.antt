-- Two literals that keep a clause open.
use Rattle.std.proofs.Common.{◌≡◌, ℕ, [], ◌∷◌, zero, suc, true, inl, inr, sym, subst, arith, length, get_or, nat_lt}
use Rattle.std.proofs.lemmas.Bool.Decides.{nat_tests}
use Rattle.std.specs.List.{Contains}
use Rattle.formula_tree.specs.Answers.{Answers}
use Rattle.cnf_clauses.specs.Literals.{Clause, Literal}
use Rattle.cnf_clauses.specs.Found.{IsOpen}

-- a literal that is read
pub stands_at : (c : Clause) (i : ℕ) (l : Literal) → true ≡ nat_lt i (length c) → l ≡ get_or c i l → Contains c l
stands_at c i l h e = (i, grind (arith, nat_tests), sym e)

both_stand : (c : Clause) (l m n : Literal) → Contains c l → Contains c m → Contains (l ∷ m ∷ []) n → Contains c n
both_stand c l m n first second (zero, h, e) = subst (λ (x : Literal). Contains c x) e first
both_stand c l m n first second (suc zero, h, e) = subst (λ (x : Literal). Contains c x) e second
both_stand c l m n first second (suc (suc k), h, e) = absurd (omega arith)

-- what holds of some of its literals
open_among : (d : Answers) (few c : Clause) → ((m : Literal) → Contains few m → Contains c m) → IsOpen d few → IsOpen d c
open_among d few c to (inl (m, h, t)) = inl (m, to m h, t)
open_among d few c to (inr (m, n, h, k, x, y, ne)) = inr (m, n, to m h, to n k, x, y, ne)

pub kept_open : (d : Answers) (c : Clause) (l m : Literal) → Contains c l → Contains c m → IsOpen d (l ∷ m ∷ []) → IsOpen d c
kept_open d c l m first second = open_among d (l ∷ m ∷ []) c (λ n. both_stand c l m n first second)
