-- What claims say of one another wherever the tests are answered as a valid request answers them.
use Rattle.std.specs.Prelude.{◌≡◌, ◌≢◌, ◌<◌, ◌↔◌, ℕ, Bool, List, length, slice_index_or, All, IsTrue}
use Rattle.formula_tree.specs.Trees.{Tree}
use Rattle.formula_nodes.specs.Claims.{Grows, IsClaimOf, as_claimed, claim_holds}
use Rattle.formula_nodes.specs.declared.claim.Claim.{Claim}
use Rattle.policy_compile.specs.Meaning.{AnswersAs}
use Rattle.policy_model.specs.Requests.{IsValid}
use Rattle.policy_model.specs.declared.request.Request.{Request}
use Rattle.test_relations.specs.Relations.{SchemaTests}

-- the claims that are true for a valid request, over these trees and whatever comes behind them
pub record AreTrueFor (of : SchemaTests) (trees : List Tree) (true_of : Claim → Bool) : Type 0 where
  pub answers : ℕ → Bool
  pub request : Request
  pub valid : IsValid of.schema request
  pub say : AnswersAs answers request of.tests
  pub later : List Tree
  pub grows : Grows trees later
  pub is : (c : Claim) → true_of c ≡ claim_holds answers later c

-- the one claim is true only where the other is
abbrev pub ClaimImplies : SchemaTests → List Tree → Claim → Claim → Type 0
ClaimImplies of trees one other =
    (true_of : Claim → Bool) → AreTrueFor of trees true_of → IsTrue (true_of one) → IsTrue (true_of other)

-- both are true, or neither
abbrev pub IsSameClaim : SchemaTests → List Tree → Claim → Claim → Type 0
IsSameClaim of trees one other =
    (true_of : Claim → Bool) → AreTrueFor of trees true_of → true_of one ≡ true_of other

-- the claim is true for a valid request exactly where each of these is
abbrev pub IsConjunctionFor : SchemaTests → List Tree → Claim → List Claim → Type 0
IsConjunctionFor of trees claim parts =
    (true_of : Claim → Bool) → AreTrueFor of trees true_of → (IsTrue (true_of claim) ↔ All (λ part. IsTrue (true_of part)) parts)

-- and so under each schema and over all tests
abbrev pub IsConjunctionOf : List Tree → Claim → List Claim → Type 0
IsConjunctionOf trees claim parts = (of : SchemaTests) → IsConjunctionFor of trees claim parts

-- the claim is that the test is answered so
abbrev pub IsAnswerTo : SchemaTests → List Tree → Claim → ℕ → Type 0
IsAnswerTo of trees claim test =
    (test < length of.tests) × ((true_of : Claim → Bool) (for : AreTrueFor of trees true_of) → true_of claim ≡ as_claimed claim.holds (for.answers test))

-- the conjuncts are true, but perhaps not that at the index; an index past the end leaves none aside
abbrev pub OthersAreTrue : (Claim → Bool) → List Claim → ℕ → Type 0
OthersAreTrue true_of conjuncts index =
    (k : ℕ) (d : Claim) → k < length conjuncts → k ≢ index → IsTrue (true_of (slice_index_or conjuncts k d))

-- the claim is true where the other conjuncts are
abbrev pub OthersImply : SchemaTests → List Tree → List Claim → ℕ → Claim → Type 0
OthersImply of trees conjuncts index claim =
    (true_of : Claim → Bool) → AreTrueFor of trees true_of → OthersAreTrue true_of conjuncts index → IsTrue (true_of claim)

-- where the other conjuncts are true, all the one claims are exactly where all the other are
abbrev pub SayAsMuch : SchemaTests → List Tree → List Claim → ℕ → List Claim → List Claim → Type 0
SayAsMuch of trees conjuncts index ones others =
    (true_of : Claim → Bool) → AreTrueFor of trees true_of → OthersAreTrue true_of conjuncts index →
    (All (λ c. IsTrue (true_of c)) ones ↔ All (λ c. IsTrue (true_of c)) others)

-- the claim may stand in place of the conjunct at the index
pub record MayReplace (of : SchemaTests) (trees : List Tree) (conjuncts : List Claim) (index : ℕ) (claim : Claim) : Type 0 where
  pub there : IsClaimOf trees claim
  pub same : (true_of : Claim → Bool) → AreTrueFor of trees true_of → OthersAreTrue true_of conjuncts index →
      (d : Claim) → true_of (slice_index_or conjuncts index d) ≡ true_of claim

-- where a valid request answers the one test so, it answers the other so
abbrev pub AnswerImplies : SchemaTests → ℕ → Bool → ℕ → Bool → Type 0
AnswerImplies of one said other also_said =
    (r : Request) (answers : ℕ → Bool) → IsValid of.schema r → AnswersAs answers r of.tests → one < length of.tests → other < length of.tests →
    IsTrue (as_claimed said (answers one)) → IsTrue (as_claimed also_said (answers other))
