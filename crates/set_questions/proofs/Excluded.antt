-- What is known where the tests that a claim denies fail.
use Rattle.std.proofs.Common.{◌≡◌, ◌+◌, ◌-◌, ◌<◌, ◌≤◌, ◌++◌, ◌∷◌, [], ℕ, zero, suc, Bool, true, false, All, List, length, get_or, slice_get, take, IsTrue, Some, inl, inr, refl, ap, sym, ◌∙◌, subst, arith}
use Rattle.std.specs.Prelude.{not as opposite}
use Rattle.std.proofs.lemmas.Bool.{cases_lt}
use Rattle.std.proofs.lemmas.Grind.{take_at_read}
use Rattle.std.proofs.lemmas.List.{length-append, take_all}
use Rattle.std.proofs.lemmas.List.Elements.{All-push}
use Rattle.std.proofs.lemmas.Option.{same_Some}
use Rattle.policy_model.proofs.Laws.{Any-here, Any-later}
use Rattle.formula_tree.specs.Trees.{Tree}
use Rattle.formula_nodes.specs.Claims.{SomeClaimFails, as_claimed, claim_holds}
use Rattle.formula_nodes.specs.declared.claim.Claim.{Claim}
use Rattle.policy_compile.specs.Meaning.{AnswersAs}
use Rattle.policy_model.specs.Requests.{IsValid}
use Rattle.policy_model.specs.declared.request.Request.{Request}
use Rattle.query_reduction.specs.Reducers.{IsImplied}
use Rattle.test_relations.specs.Relations.{SchemaTests}
use Rattle.set_questions.specs.Cutting.{node_claim}
use Rattle.set_questions.specs.Excluding.{AreDenied, AreTrueThere, DeniedFail, HasFalseClaim, IsDeniedClaim, IsDeniedNode, IsTrueThere}
use Rattle.set_questions.proofs.Counting.{slice_get-behind, slice_get-front}

-- ---- one node more
pub denied-next : (of now : SchemaTests) (trees : List Tree) (one : Claim) (denied longer : List Bool) (i : ℕ) (b : Bool) → now ≡ of → length denied ≡ i → AreDenied of trees one denied → IsDeniedNode now trees one i b → longer ≡ denied ++ b ∷ [] → AreDenied of trees one longer
denied-next of now trees one denied longer i b same count are is longer_is n at =
    let there : slice_get (denied ++ b ∷ []) n ≡ Some true = subst (λ (bs : List Bool). slice_get bs n ≡ Some true) longer_is at in
    elim (cases_lt n (length denied)) [
      | inl front ↦ are n (sym (slice_get-front denied (b ∷ []) n front) ∙ there)
      | inr behind ↦ last (n - length denied) (omega (arith, behind)) (sym (slice_get-behind denied (b ∷ []) n behind) ∙ there)
    ]
  where
    last : (k : ℕ) → n ≡ length denied + k → slice_get (b ∷ []) k ≡ Some true → IsImplied of trees one (record { node = n; holds = false })
    last zero e is_b =
        let here : i ≡ n = omega (arith, e, count) in
        subst (λ m. IsImplied of trees one (record { node = m; holds = false })) here (subst (λ (x : SchemaTests). IsImplied x trees one (record { node = i; holds = false })) same (is (same_Some b true is_b)))
    last (suc k) e is_b = absurd (cc)

-- ---- the denied nodes fail

pub denied-fail : (of : SchemaTests) (trees : List Tree) (one : Claim) (denied : List Bool) → AreDenied of trees one denied → (r : Request) (answers : ℕ → Bool) → IsValid of.schema r → AnswersAs answers r of.tests → IsTrue (claim_holds answers trees one) → DeniedFail answers trees denied
denied-fail of trees one denied are r answers valid say h n at = are n at r answers valid say h

pub denied-known : (trees : List Tree) (denied : List Bool) (c : Claim) → IsDeniedClaim denied c → IsTrueThere trees denied c
denied-known trees denied c known answers fail = subst (λ (b : Bool). IsTrue (as_claimed b (claim_holds answers trees (node_claim c.node)))) (sym known.fails) (fail c.node known.there)

-- ---- what is known of several

pub known-more : (trees : List Tree) (denied : List Bool) (claims : List Claim) (i : ℕ) (d : Claim) → i < length claims → AreTrueThere trees denied (take i claims) → IsTrueThere trees denied (get_or claims i d) → AreTrueThere trees denied (take (i + 1) claims)
known-more trees denied claims i d within all known answers fail =
    let P = λ (x : Claim). IsTrue (claim_holds answers trees x) in
    subst (All P) (sym (take_at_read claims i d within).1) (All-push P (take i claims) (get_or claims i d) (all answers fail) (known answers fail))

pub known-all : (trees : List Tree) (denied : List Bool) (claims : List Claim) (i : ℕ) → length claims ≤ i → AreTrueThere trees denied (take i claims) → AreTrueThere trees denied claims
known-all trees denied claims i past all = subst (AreTrueThere trees denied) (take_all i claims past) all

opposed : (b v : Bool) → as_claimed (opposite b) v ≡ true → as_claimed b v ≡ false
opposed true true e = absurd (cc)
opposed true false e = refl
opposed false true e = refl
opposed false false e = absurd (cc)

fails-at : (answers : ℕ → Bool) (trees : List Tree) (cs : List Claim) (i : ℕ) (d : Claim) → i < length cs → claim_holds answers trees (get_or cs i d) ≡ false → SomeClaimFails answers trees cs
fails-at answers trees [] i d within e = absurd (omega (arith, within))
fails-at answers trees (c ∷ cs) zero d within e = Any-here (λ (x : Claim). claim_holds answers trees x ≡ false) c cs e
fails-at answers trees (c ∷ cs) (suc i) d within e = Any-later (λ (x : Claim). claim_holds answers trees x ≡ false) c cs (fails-at answers trees cs i d (omega (arith, within)) e)

pub one-fails : (trees : List Tree) (denied : List Bool) (cs : List Claim) (i : ℕ) (d turned : Claim) → i < length cs → turned.node ≡ (get_or cs i d).node → turned.holds ≡ opposite (get_or cs i d).holds → IsTrueThere trees denied turned → HasFalseClaim trees denied cs
one-fails trees denied cs i d turned within n h known answers fail =
    let c = get_or cs i d in
    let value = λ (m : ℕ). claim_holds answers trees (node_claim m) in
    fails-at answers trees cs i d within
    (opposed c.holds (value c.node)
    (subst (λ (b : Bool). as_claimed b (value c.node) ≡ true) h
    (subst (λ (m : ℕ). as_claimed turned.holds (value m) ≡ true) n (known answers fail))))

pub longer-count : (denied longer : List Bool) (b : Bool) (i : ℕ) → longer ≡ denied ++ b ∷ [] → length denied ≡ i → length longer ≡ i + 1
longer-count denied longer b i is count = omega (arith, ap (λ (bs : List Bool). length bs) is, length-append denied (b ∷ []), count)
