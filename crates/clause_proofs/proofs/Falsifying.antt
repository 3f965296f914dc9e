-- The values that make each literal of a clause false.
use Rattle.std.proofs.Common.{◌≡◌, ◌≢◌, ◌<◌, ◌+◌, ◌==◌, ℕ, zero, suc, [], ◌∷◌, ◌++◌, length, map, take, get_or, Bool, true, false, Option, Some, None, refl, sym, ap, ◌∙◌, subst, arith, nat_eq}
use Rattle.std.proofs.lemmas.Bool.Decides.{nat_tests}
use Rattle.std.proofs.lemmas.Grind.{common_steps}
use Rattle.std.proofs.lemmas.List.{map-append, take_more}
use Rattle.std.specs.Option.{is_some}
use Rattle.formula_tree.specs.Answers.{Answers, IsDistinct, answer_of}
use Rattle.formula_tree.proofs.Laws.{answer_of-rest}
use Rattle.cnf_clauses.specs.Literals.{Clause, Literal, complement}

-- the complement of the complement is the literal
pub twice : (ps : Answers) → map complement (map complement ps) ≡ ps
twice [] = refl
twice ((n, true) ∷ ps) = ap (λ (x : Answers). (n, true) ∷ x) (twice ps)
twice ((n, false) ∷ ps) = ap (λ (x : Answers). (n, false) ∷ x) (twice ps)

-- a variable that stands in no complement stands in no literal
none-own : (ps : Answers) (n : ℕ) → answer_of (map complement ps) n ≡ None → answer_of ps n ≡ None
none-own [] n h = refl
none-own (p ∷ ps) n h = grind (arith, common_steps, none-own ps n)

-- and the other way
none-complement : (ps : Answers) (n : ℕ) → answer_of ps n ≡ None → answer_of (map complement ps) n ≡ None
none-complement [] n h = refl
none-complement (p ∷ ps) n h = grind (arith, common_steps, none-complement ps n)

-- one complement more
pub complements-more : (ps old new : Answers) (k : ℕ) (d : Literal) → k < length ps → old ≡ map complement (take k ps) → new ≡ old ++ complement (get_or ps k d) ∷ [] → new ≡ map complement (take (k + 1) ps)
complements-more ps old new k d small before added =
    added ∙ ap (λ (x : Answers). x ++ complement (get_or ps k d) ∷ []) before ∙ sym (map-append complement (take k ps) (get_or ps k d ∷ [])) ∙ ap (λ (x : Answers). map complement x) (sym (take_more ps k d small))

-- ---- where no variable stands twice

other : (p q : Literal) → (p.0 == q.0) ≡ false → (q.0 == p.0) ≡ false
other p q h = grind (arith, nat_tests)

distinct-more : (ps : Answers) (p : Literal) → IsDistinct ps → answer_of ps p.0 ≡ None → IsDistinct (ps ++ p ∷ [])
distinct-more [] p h new = (refl, tt)
distinct-more (q ∷ ps) p h new =
    let apart : (q.0 == p.0) ≡ false = grind (arith, common_steps) in
    let rest : answer_of ps p.0 ≡ None = grind (arith, common_steps) in
    let turned : (p.0 == q.0) ≡ false = other q p apart in
    (answer_of-rest ps (p ∷ []) q.0 h.0 ∙ grind (arith, common_steps), distinct-more ps p h.1 rest)

later-differs : (ps : Answers) (n k : ℕ) (d : Literal) → answer_of ps n ≡ None → k < length ps → nat_eq n (get_or ps k d).0 ≡ false
later-differs [] n k d new h = absurd (omega arith)
later-differs (p ∷ ps) n zero d new h = grind (arith, common_steps, nat_tests)
later-differs (p ∷ ps) n (suc k) d new h = later-differs ps n k d (grind (arith, common_steps, nat_tests)) (omega arith)

fresh : (ps : Answers) (k : ℕ) (d : Literal) → IsDistinct ps → k < length ps → answer_of (take k ps) (get_or ps k d).0 ≡ None
fresh [] k d h l = absurd (omega arith)
fresh (p ∷ ps) zero d h l = refl
fresh (p ∷ ps) (suc k) d h l =
    let apart = later-differs ps p.0 k d h.0 (omega arith) in
    let rest = fresh ps k d h.1 (omega arith) in
    grind (arith, common_steps)

-- the first so many literals have no variable twice, and the path makes each of them false
pub record IsFalsified (literals : Clause) (count : ℕ) (path : Answers) : Type 0 where
  pub distinct : IsDistinct (take count literals)
  pub is : path ≡ map complement (take count literals)

-- a variable that the path answers stands before
pub stands-before : (literals : Clause) (k : ℕ) (d : Literal) (path : Answers) → IsFalsified literals k path → k < length literals → answer_of path (get_or literals k d).0 ≢ None → IsDistinct literals → ⊥
stands-before literals k d path falsified small answered distinct =
    answered (subst (λ (x : Answers). answer_of x (get_or literals k d).0 ≡ None) (sym falsified.is) (none-complement (take k literals) (get_or literals k d).0 (fresh literals k d distinct small)))

-- one literal more
pub falsified-more : (literals : Clause) (k : ℕ) (d : Literal) (path new : Answers) → IsFalsified literals k path → k < length literals → answer_of path (get_or literals k d).0 ≡ None →
    new ≡ path ++ complement (get_or literals k d) ∷ [] → IsFalsified literals (k + 1) new
falsified-more literals k d path new falsified small absent more =
    let l = get_or literals k d in
    let own = none-own (take k literals) l.0 (subst (λ (x : Answers). answer_of x l.0 ≡ None) falsified.is absent) in
    record {
      distinct = subst IsDistinct (sym (take_more literals k d small)) (distinct-more (take k literals) l falsified.distinct own);
      is = complements-more literals path new k d small falsified.is more;
    }

-- whether there is an answer, as it is asked
pub answered : (given known : Option Bool) (asked : Bool) → given ≡ known → asked ≡ is_some given → asked ≡ true → known ≢ None
answered None known asked same says is = absurd (cc)
answered (Some b) known asked same says is = λ none. absurd (cc)

pub unanswered : (given known : Option Bool) (asked : Bool) → given ≡ known → asked ≡ is_some given → asked ≡ false → known ≡ None
unanswered None known asked same says none = sym same
unanswered (Some b) known asked same says none = absurd (cc)
