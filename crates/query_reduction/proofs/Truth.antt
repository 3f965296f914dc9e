-- What is true for a valid request.
use Rattle.std.proofs.Common.{◌≡◌, ℕ, Bool, true, false, List, get_or, refl, sym, ap, ◌∙◌}
use Rattle.std.specs.Prelude.{not as opposite}
use Rattle.formula_tree.specs.Trees.{Tree, yes}
use Rattle.formula_tree.specs.Values.{holds}
use Rattle.formula_nodes.specs.Claims.{Grows, as_claimed, claim_holds}
use Rattle.formula_nodes.specs.declared.claim.Claim.{Claim}
use Rattle.formula_nodes.proofs.Laws.{grows-none, grows-then}
use Rattle.policy_compile.specs.Meaning.{AnswersAs}
use Rattle.policy_model.specs.Requests.{IsValid}
use Rattle.policy_model.specs.declared.request.Request.{Request}
use Rattle.test_relations.specs.Relations.{SchemaTests}
use Rattle.query_reduction.specs.Claims.{AreTrueFor, ClaimImplies}

-- what is true over trees that have grown is true over those before
pub for-earlier : (of : SchemaTests) (old new : List Tree) (true_of : Claim → Bool) → Grows old new → AreTrueFor of new true_of → AreTrueFor of old true_of
for-earlier of old new true_of grows for =
    record { answers = for.answers; request = for.request; valid = for.valid; say = for.say; later = for.later; grows = grows-then old new for.later grows for.grows; is = for.is }

-- what the claims come to by themselves
pub true-here : (of : SchemaTests) (trees : List Tree) (r : Request) (answers : ℕ → Bool) → IsValid of.schema r → AnswersAs answers r of.tests → AreTrueFor of trees (λ c. claim_holds answers trees c)
true-here of trees r answers valid say =
    record { answers = answers; request = r; valid = valid; say = say; later = trees; grows = grows-none trees; is = λ c. refl }

-- ---- opposites

claimed-opposite : (b v : Bool) → as_claimed (opposite b) v ≡ opposite (as_claimed b v)
claimed-opposite true true = refl
claimed-opposite true false = refl
claimed-opposite false true = refl
claimed-opposite false false = refl

pub true-opposite : (of : SchemaTests) (trees : List Tree) (true_of : Claim → Bool) → AreTrueFor of trees true_of → (c d : Claim) → d.node ≡ c.node → d.holds ≡ opposite c.holds → true_of d ≡ opposite (true_of c)
true-opposite of trees true_of for c d same turned =
    for.is d ∙ ap (λ (n : ℕ). as_claimed d.holds (holds for.answers (get_or for.later n yes))) same ∙
    ap (λ (b : Bool). as_claimed b (holds for.answers (get_or for.later c.node yes))) turned ∙
    claimed-opposite c.holds (holds for.answers (get_or for.later c.node yes)) ∙ ap opposite (sym (for.is c))

contrary : (a b not_a not_b : Bool) → not_a ≡ opposite a → not_b ≡ opposite b → (not_b ≡ true → not_a ≡ true) → a ≡ true → b ≡ true
contrary a true not_a not_b is_a is_b leads e = refl
contrary a false not_a not_b is_a is_b leads e = let f = leads is_b in absurd (cc)

-- one claim implies another where the opposite of that implies the opposite of the one
pub turned-implies : (of : SchemaTests) (trees : List Tree) (one other not_one not_other : Claim) → not_one.node ≡ one.node → not_one.holds ≡ opposite one.holds → not_other.node ≡ other.node → not_other.holds ≡ opposite other.holds →
    ClaimImplies of trees not_other not_one → ClaimImplies of trees one other
turned-implies of trees one other not_one not_other n h m i implies true_of for =
    contrary (true_of one) (true_of other) (true_of not_one) (true_of not_other) (true-opposite of trees true_of for one not_one n h) (true-opposite of trees true_of for other not_other m i) (implies true_of for)
