-- What tests and parts say of claims.
use Rattle.std.proofs.Common.{◌≡◌, ◌<◌, ℕ, Bool, true, false, List, length, get_or, All, Contains, IsTrue, Some, slice_get, refl, sym, subst, ◌∙◌, inl, inr, arith}
use Rattle.std.specs.Prelude.{not as opposite}
use Rattle.std.proofs.lemmas.Option.{slice_get_cases}
use Rattle.formula_tree.specs.Trees.{Tree}
use Rattle.formula_nodes.specs.Claims.{as_claimed}
use Rattle.formula_nodes.specs.declared.claim.Claim.{Claim}
use Rattle.policy_model.specs.declared.test.Test.{Test}
use Rattle.test_relations.specs.Relations.{AlwaysAt, ExcludesAt, LeadsAt, SchemaTests}
use Rattle.query_reduction.specs.Claims.{AnswerImplies, AreTrueFor, ClaimImplies, IsAnswerTo, IsConjunctionOf}
use Rattle.query_reduction.proofs.Truth.{true-opposite}

-- ---- tests

test-at : (ts : List Test) (n : ℕ) → n < length ts → (t : Test) × (slice_get ts n ≡ Some t)
test-at ts n lt = elim (slice_get_cases ts n).1 [
  | inl there ↦ (there.0, there.2)
  | inr past ↦ absurd (omega (arith, past.0))
]

module _ (of : SchemaTests) (one other : ℕ) where
  pub leads_yes : LeadsAt of one other → AnswerImplies of one true other true
  leads_yes leads r answers valid say in_one in_other h =
      let a = test-at of.tests one in_one in
      let b = test-at of.tests other in_other in
      (say other b.0 b.1).1 (leads a.0 b.0 a.1 b.1 r valid ((say one a.0 a.1).0 h))

  unless : (x y : Bool) → (y ≡ true → x ≡ true) → opposite x ≡ true → opposite y ≡ true
  unless x true leads e = let f = leads refl in absurd (cc)
  unless x false leads e = refl

  pub leads_no : LeadsAt of other one → AnswerImplies of one false other false
  leads_no leads r answers valid say in_one in_other h =
      let a = test-at of.tests one in_one in
      let b = test-at of.tests other in_other in
      unless (answers one) (answers other)
      (λ e. (say one a.0 a.1).1 (leads b.0 a.0 b.1 a.1 r valid ((say other b.0 b.1).0 e))) h

  never-both : (y : Bool) → (y ≡ true → ⊥) → opposite y ≡ true
  never-both true clash = absurd (clash refl)
  never-both false clash = refl

  pub excludes_yes : ExcludesAt of one other → AnswerImplies of one true other false
  excludes_yes excludes r answers valid say in_one in_other h =
      let a = test-at of.tests one in_one in
      let b = test-at of.tests other in_other in
      never-both (answers other)
      (λ e. excludes a.0 b.0 a.1 b.1 r valid ((say one a.0 a.1).0 h) ((say other b.0 b.1).0 e))

  pub always_after : (said also_said : Bool) → also_said ≡ true → AlwaysAt of other → AnswerImplies of one said other also_said
  always_after said also_said holds always r answers valid say in_one in_other h =
      let t = test-at of.tests other in_other in
      subst (λ (b : Bool). as_claimed b (answers other) ≡ true) (sym holds) ((say other t.0 t.1).1 (always t.0 t.1 r valid))

  clash : (said v : Bool) → opposite said ≡ true → as_claimed said v ≡ true → v ≡ true → ⊥
  clash true v e h i = absurd (cc)
  clash false true e h i = absurd (cc)
  clash false false e h i = absurd (cc)

  pub always_before : (said also_said : Bool) → opposite said ≡ true → AlwaysAt of one → AnswerImplies of one said other also_said
  always_before said also_said denied always r answers valid say in_one in_other h =
      let t = test-at of.tests one in_one in
      absurd (clash said (answers one) denied h ((say one t.0 t.1).1 (always t.0 t.1 r valid)))

pub said-so : (of : SchemaTests) (one other : ℕ) (said also_said first second : Bool) → said ≡ first → also_said ≡ second → AnswerImplies of one first other second → AnswerImplies of one said other also_said
said-so of one other said also_said first second is also implies =
    subst (λ (b : Bool). AnswerImplies of one b other also_said) (sym is) (subst (λ (b : Bool). AnswerImplies of one first other b) (sym also) implies)

module _ (of : SchemaTests) (trees : List Tree) where
  -- a test that always holds
  pub always-implied : (claim : Claim) (n : ℕ) → claim.holds ≡ true → IsAnswerTo of trees claim n → AlwaysAt of n → (other : Claim) → ClaimImplies of trees other claim
  always-implied claim n holds is always other true_of for h =
      let t = test-at of.tests n is.0 in
      is.1 true_of for ∙ subst (λ (b : Bool). as_claimed b (for.answers n) ≡ true) (sym holds) ((for.say n t.0 t.1).1 (always t.0 t.1 for.request for.valid))

  -- what contradicts a claim that always holds implies each
  pub never-implies : (one not_one other : Claim) → not_one.node ≡ one.node → not_one.holds ≡ opposite one.holds → ((o : Claim) → ClaimImplies of trees o not_one) → ClaimImplies of trees one other
  never-implies one not_one other same turned always true_of for h =
      let opposed = true-opposite of trees true_of for one not_one same turned in
      let held = always one true_of for h in
      absurd (cc)

  -- two answers to tests
  pub answer-implies : (one other : Claim) (m n : ℕ) → IsAnswerTo of trees one m → IsAnswerTo of trees other n → AnswerImplies of m one.holds n other.holds → ClaimImplies of trees one other
  answer-implies one other m n a b implies true_of for h =
      b.1 true_of for ∙ implies for.request for.answers for.valid for.say a.0 b.0 (sym (a.1 true_of for) ∙ h)

  -- ---- parts

  pub each-implied : (one other : Claim) (parts : List Claim) → IsConjunctionOf trees other parts → All (ClaimImplies of trees one) parts → ClaimImplies of trees one other
  each-implied one other parts is all true_of for h = (is of true_of for).1 (λ k d lt. all k d lt true_of for h)

  pub some-implies : (one other : Claim) (parts : List Claim) (k : ℕ) (d : Claim) → IsConjunctionOf trees one parts → k < length parts → ClaimImplies of trees (get_or parts k d) other → ClaimImplies of trees one other
  some-implies one other parts k d is lt implies true_of for h = implies true_of for ((is of true_of for).0 h k d lt)

  pub part-implied : (one part : Claim) (parts : List Claim) → IsConjunctionOf trees one parts → Contains parts part → ClaimImplies of trees one part
  part-implied one part parts is among true_of for h =
      subst (λ (x : Claim). IsTrue (true_of x)) among.2 ((is of true_of for).0 h among.0 part among.1)

  settle : (b : Bool) → (opposite b ≡ true → b ≡ true) → b ≡ true
  settle true f = refl
  settle false f = f refl

  pub always-true : (claim : Claim) → ((o : Claim) → ClaimImplies of trees o claim) → (true_of : Claim → Bool) → AreTrueFor of trees true_of → IsTrue (true_of claim)
  always-true claim always true_of for =
      let other : Claim = record { node = claim.node; holds = opposite claim.holds } in
      settle (true_of claim) (λ e. always other true_of for (true-opposite of trees true_of for claim other refl refl ∙ e))
