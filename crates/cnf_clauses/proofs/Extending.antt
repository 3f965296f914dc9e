-- Lists that begin with an old one.
use Rattle.std.proofs.Common.{◌≡◌, ℕ, ◌≤◌, List, ◌++◌, length, take, drop, Bool, Some, refl, sym, ap, subst, ◌∙◌, arith}
use Rattle.std.proofs.lemmas.List.{take_at, take-take, length-take, take-append-drop}
use Rattle.formula_tree.specs.Answers.{Answers, answer_of}
use Rattle.formula_tree.proofs.Laws.{answer_of-more}
use Rattle.cnf_clauses.specs.Literals.{Clause}
use Rattle.cnf_clauses.specs.Propagates.{GoesOn}
use Rattle.cnf_clauses.specs.Reasons.{Extends}

pub extends-by : {X : Type 0} → (a b more : List X) → b ≡ a ++ more → Extends a b
extends-by a b more e = rw e (take_at a more (length a) refl)

-- what comes behind
pub extends-whole : {X : Type 0} → (a b : List X) → Extends a b → b ≡ a ++ drop (length a) b
extends-whole a b e = sym (take-append-drop (length a) b) ∙ ap (λ x. x ++ drop (length a) b) e

pub extends-on : {X : Type 0} → (a b c : List X) → Extends a b → Extends b c → Extends a c
extends-on a b c e f =
    let short : length a ≤ length b = omega (arith, ap length e, length-take (length a) b) in
    sym (take-take (length a) (length b) c short) ∙ ap (λ x. take (length a) x) f ∙ e

pub goes-extends : (cs : List Clause) (h0 h : List ℕ) (d0 d new : Answers) → GoesOn cs h0 d0 h d → Extends d new → Extends d0 new
goes-extends cs h0 h d0 d new goes e = extends-on d0 d new (extends-by d0 d goes.added goes.grows) e

-- an answer stays
pub extends-answer : (d e : Answers) (n : ℕ) (b : Bool) → Extends d e → answer_of d n ≡ Some b → answer_of e n ≡ Some b
extends-answer d e n b same h = subst (λ (x : Answers). answer_of x n ≡ Some b) (sym (extends-whole d e same)) (answer_of-more d (drop (length d) e) n b h)

-- so does one of the first so many
pub take-answer : (d : Answers) (k n : ℕ) (b : Bool) → answer_of (take k d) n ≡ Some b → answer_of d n ≡ Some b
take-answer d k n b h = subst (λ (x : Answers). answer_of x n ≡ Some b) (take-append-drop k d) (answer_of-more (take k d) (drop k d) n b h)
