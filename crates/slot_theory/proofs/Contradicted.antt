-- The loop that looks for a fixed answer that the path contradicts.
use Rattle.std.proofs.Common.{◌≡◌, ◌≢◌, ◌<◌, ◌↔◌, IsTrue, ℕ, List, length, get_or, Bool, false, Option, Some, IsSomeAnd, All, Any, sym, subst}
use Rattle.formula_tree.specs.Answers.{Answers, answer_of}
use Rattle.policy_model.specs.declared.principal.PrincipalKind.{PrincipalKind}
use Rattle.policy_model.specs.declared.test.Test.{Test}
use Rattle.slot_theory.specs.Slots.{fixed_at}
use Rattle.slot_theory.specs.Cores.{IsContradicted}
use Rattle.slot_theory.proofs.Wording.{own-test}

pub any-none : (P : ℕ → Type 0) (xs : List ℕ) → All (λ x. P x → ⊥) xs → Any P xs → ⊥
any-none P xs none some = none some.0 some.1 some.2 (subst P (sym some.3) some.4)

-- what is said of the test at a place is said of its number
pub not-contradicted : (tests : List Test) (path : Answers) (k : PrincipalKind) (n : ℕ) (t : Test) (answer : Option Bool) → n < length tests → t ≡ get_or tests n t → answer ≡ answer_of path n →
    IsTrue false ↔ IsSomeAnd (fixed_at k t) (λ b. answer ≢ Some b) → IsContradicted tests path k n → ⊥
not-contradicted tests path k n t answer within read answered says h =
    let here : IsSomeAnd (fixed_at k t) (λ b. answer_of path n ≢ Some b) = subst (λ (x : Test). IsSomeAnd (fixed_at k x) (λ b. answer_of path n ≢ Some b)) (sym (own-test tests n t within read)) h in
    let said : IsTrue false = says.1 (subst (λ (o : Option Bool). IsSomeAnd (fixed_at k t) (λ b. o ≢ Some b)) (sym answered) here) in
    absurd (cc)
