-- Conjuncts that others stand in place of.
use Rattle.std.proofs.Common.{◌≡◌, ◌≢◌, ◌<◌, ◌≤◌, ◌+◌, ◌++◌, ◌∷◌, [], ℕ, Bool, true, false, List, length, get_or, take, set, All, IfOk, IsTrue, Ok, Err, Result, refl, sym, ap, subst, ◌∙◌, inl, inr, arith}
use Rattle.std.specs.Prelude.{not as opposite}
use Rattle.std.proofs.Math.Seq.{get_or-append_seam}
use Rattle.std.proofs.lemmas.Bool.{cases_eq}
use Rattle.std.proofs.lemmas.Grind.{take_at_read}
use Rattle.std.proofs.lemmas.List.{get_or-set_other, get_or-set_same, get_or_append_left, length-append, length-set, take_all}
use Rattle.std.proofs.lemmas.List.Elements.{All-nil, All-push, All-set}
use Rattle.std.proofs.lemmas.Option.{slice_get-get_or}
use Rattle.formula_tree.specs.Trees.{Tree}
use Rattle.formula_tree.specs.Values.{AreBelow}
use Rattle.formula_nodes.specs.Claims.{AddsNoTest, AddsTestsOf, AreClaimsOf, Grows, IsClaimFor, IsClaimOf, IsTreeFor, claim_holds}
use Rattle.formula_nodes.specs.declared.claim.Claim.{Claim}
use Rattle.formula_nodes.proofs.Laws.{keeps-value, stay-claims}
use Rattle.policy_compile.specs.Meaning.{AnswersAs}
use Rattle.policy_model.specs.Requests.{IsValid}
use Rattle.policy_model.specs.declared.schema.Schema.{Schema}
use Rattle.policy_model.specs.declared.test.Test.{Test}
use Rattle.test_relations.specs.Relations.{SchemaTests}
use Rattle.query_reduction.specs.Claims.{AreTrueFor, ClaimImplies, IsConjunctionFor, IsConjunctionOf, IsSameClaim, MayReplace, OthersImply, SayAsMuch}
use Rattle.query_reduction.specs.Reducers.{ClaimsAgree, IsImplied}
use Rattle.query_reduction.specs.Values.{HasSameValue}
use Rattle.query_reduction.proofs.Truth.{for-earlier, true-here, true-opposite}

-- ---- lists

module _ (P : Claim → Type 0) (xs : List Claim) (y : Claim) (all : All P (xs ++ y ∷ [])) where
  all-front : All P xs
  all-front = λ k d lt. subst P (get_or_append_left xs (y ∷ []) d k lt) (all k d (omega (arith, length-append xs (y ∷ []))))

  all-last : P y
  all-last = subst P (get_or-append_seam xs y [] y) (all (length xs) y (omega (arith, length-append xs (y ∷ []))))

same-read : (xs : List Claim) (i : ℕ) (d e : Claim) → i < length xs → get_or xs i d ≡ get_or xs i e
same-read xs i d e lt = let one = slice_get-get_or xs i d lt in let other = slice_get-get_or xs i e lt in cc

same-truth : (a b : Bool) → (a ≡ true → b ≡ true) → (b ≡ true → a ≡ true) → a ≡ b
same-truth true b to from = sym (to refl)
same-truth false true to from = from refl
same-truth false false to from = refl

twice-opposite : (b : Bool) → opposite (opposite b) ≡ b
twice-opposite true = refl
twice-opposite false = refl

-- ---- claims that others imply

module _ (of : SchemaTests) (trees : List Tree) (parts : List Claim) (i : ℕ) (claims : List Claim) (j : ℕ) (d : Claim) (left : List Claim) (within : j < length claims) (said : SayAsMuch of trees parts i (take j claims) left) where
  step : take (j + 1) claims ≡ take j claims ++ get_or claims j d ∷ []
  step = (take_at_read claims j d within).1

  say-kept : SayAsMuch of trees parts i (take (j + 1) claims) (left ++ get_or claims j d ∷ [])
  say-kept true_of for others =
      let P = λ (x : Claim). IsTrue (true_of x) in
      let c = get_or claims j d in
      let both = said true_of for others in (
        λ all. All-push P left c (both.0 (all-front P (take j claims) c (subst (All P) step all))) (all-last P (take j claims) c (subst (All P) step all)),
        λ all. subst (All P) (sym step) (All-push P (take j claims) c (both.1 (all-front P left c all)) (all-last P left c all)),
      )

  pub kept-step : (next : List Claim) → next ≡ left ++ get_or claims j d ∷ [] → AreClaimsOf trees claims → AreClaimsOf trees left → AreClaimsOf trees next × SayAsMuch of trees parts i (take (j + 1) claims) next
  kept-step next is all there = (
    subst (AreClaimsOf trees) (sym is) (All-push (IsClaimOf trees) left (get_or claims j d) there (all j d within)),
    subst (SayAsMuch of trees parts i (take (j + 1) claims)) (sym is) say-kept,
  )

  pub say-without : OthersImply of trees parts i (get_or claims j d) → SayAsMuch of trees parts i (take (j + 1) claims) left
  say-without implied true_of for others =
      let P = λ (x : Claim). IsTrue (true_of x) in
      let c = get_or claims j d in
      let both = said true_of for others in (
        λ all. both.0 (all-front P (take j claims) c (subst (All P) step all)),
        λ all. subst (All P) (sym step) (All-push P (take j claims) c (both.1 all) (implied true_of for others)),
      )

pub said-of-all : (of new : SchemaTests) (trees : List Tree) (parts : List Claim) (i : ℕ) (claims left : List Claim) (j : ℕ) → length claims ≤ j → of ≡ new → SayAsMuch of trees parts i (take j claims) left → SayAsMuch new trees parts i claims left
said-of-all of new trees parts i claims left j end same said =
    subst (λ (x : SchemaTests). SayAsMuch x trees parts i claims left) same (subst (λ (xs : List Claim). SayAsMuch of trees parts i xs left) (take_all j claims end) said)

-- ---- one conjunct replaced

module _ (of : SchemaTests) (old new : List Tree) (parts : List Claim) (i : ℕ) (e : Claim) (within : i < length parts) where
  own : (d : Claim) → get_or parts i d ≡ get_or parts i e
  own d = same-read parts i d e within

  replaced-implied : Grows old new → (c : Claim) → IsClaimOf new c → OthersImply of old parts i (get_or parts i e) → IsConjunctionOf new c [] → MayReplace of new parts i c
  replaced-implied grows c there implied is = record {
    there = there;
    same = λ true_of for others d.
        ap true_of (own d) ∙ implied true_of (for-earlier of old new true_of grows for) others ∙ sym ((is of true_of for).1 (All-nil (λ (x : Claim). IsTrue (true_of x))));
  }

  pub implied-replaced : {E : Type 0} → Grows old new → (r : Result Claim E) (xs : List Claim) → xs ≡ [] → IfOk r (λ c. IsClaimOf new c) → OthersImply of old parts i (get_or parts i e) → IfOk r (λ c. IsConjunctionOf new c xs) → IfOk r (MayReplace of new parts i)
  implied-replaced grows (Ok c) xs none there implied is = replaced-implied grows c there implied (subst (IsConjunctionOf new c) none is)
  implied-replaced grows (Err f) xs none there implied is = tt

  pub replaced-narrower : Grows old new → (not_claim both result : Claim) (all left : List Claim) → not_claim.node ≡ (get_or parts i e).node → not_claim.holds ≡ opposite (get_or parts i e).holds → result.node ≡ both.node → result.holds ≡ opposite both.holds →
      IsConjunctionOf old not_claim all → SayAsMuch of old parts i all left → IsClaimOf new both → IsConjunctionOf new both left → MayReplace of new parts i result
  replaced-narrower grows not_claim both result all left n h m k whole said there is = record {
    there = subst (λ (x : ℕ). x < length new) (sym m) there;
    same = λ true_of for others d.
        let before = for-earlier of old new true_of grows for in
        let each = said true_of before others in
        let claim = get_or parts i e in
        let same : true_of not_claim ≡ true_of both = same-truth (true_of not_claim) (true_of both) (λ t. (is of true_of for).1 (each.0 ((whole of true_of before).0 t))) (λ t. (whole of true_of before).1 (each.1 ((is of true_of for).0 t))) in
        let opposed : true_of not_claim ≡ opposite (true_of claim) = true-opposite of new true_of for claim not_claim n h in
        let turned : true_of result ≡ opposite (true_of both) = true-opposite of new true_of for both result m k in
        ap true_of (own d) ∙ sym (twice-opposite (true_of claim)) ∙ ap opposite (sym opposed ∙ same) ∙ sym turned;
  }

-- ---- all conjuncts

module _ (of : SchemaTests) (old new : List Tree) (whole : Claim) (parts : List Claim) (i : ℕ) (c : Claim) (within : i < length parts) (grows : Grows old new) (is : IsConjunctionFor of old whole parts) (may : MayReplace of new parts i c) where
  module _ (true_of : Claim → Bool) (for : AreTrueFor of new true_of) where
    back : All (λ (x : Claim). IsTrue (true_of x)) (set parts i c) → All (λ (x : Claim). IsTrue (true_of x)) parts
    back all k d lt =
        let others = λ (n : ℕ) (e : Claim) (l : n < length parts) (ne : n ≢ i). subst (λ (x : Claim). IsTrue (true_of x)) (get_or-set_other parts i n c e ne) (all n e (omega (arith, length-set parts i c))) in
        let own : IsTrue (true_of c) = subst (λ (x : Claim). IsTrue (true_of x)) (get_or-set_same parts i c d within) (all i d (omega (arith, length-set parts i c))) in
        elim (cases_eq k i) [
          | inl e ↦ subst (λ (n : ℕ). IsTrue (true_of (get_or parts n d))) (sym e) (may.same true_of for others d ∙ own)
          | inr ne ↦ others k d lt ne
        ]

    forth : All (λ (x : Claim). IsTrue (true_of x)) parts → All (λ (x : Claim). IsTrue (true_of x)) (set parts i c)
    forth all = All-set (λ (x : Claim). IsTrue (true_of x)) parts i c (sym (may.same true_of for (λ n e l ne. all n e l) c) ∙ all i c within) all

  whole-replaced : IsConjunctionFor of new whole (set parts i c)
  whole-replaced true_of for =
      let before = is true_of (for-earlier of old new true_of grows for) in
      (λ h. forth true_of for (before.0 h), λ all. before.1 (back true_of for all))

  pub replaced-step : (next : List Claim) → next ≡ set parts i c → AreClaimsOf old parts → (length next ≡ length parts) × AreClaimsOf new next × IsConjunctionFor of new whole next
  replaced-step next put there = (
    ap length put ∙ length-set parts i c,
    subst (AreClaimsOf new) (sym put) (All-set (IsClaimOf new) parts i c may.there (stay-claims old new parts grows there)),
    subst (IsConjunctionFor of new whole) (sym put) whole-replaced,
  )

pub whole-last : {E : Type 0} (of earlier : SchemaTests) (old new : List Tree) (whole : Claim) (r : Result Claim E) (parts xs : List Claim) → of ≡ earlier → xs ≡ parts → Grows old new → IsConjunctionFor of old whole parts → IfOk r (λ c. IsConjunctionOf new c xs) → IfOk r (IsSameClaim earlier new whole)
whole-last of earlier old new whole (Ok c) parts xs same listed grows is made =
    subst (λ (x : SchemaTests). IsSameClaim x new whole c) same (λ true_of for.
    let before = is true_of (for-earlier of old new true_of grows for) in
    let also = subst (IsConjunctionOf new c) listed made of true_of for in
    same-truth (true_of whole) (true_of c) (λ h. also.1 (before.0 h)) (λ h. before.1 (also.0 h)))
whole-last of earlier old new whole (Err f) parts xs same listed grows is made = tt

pub same-then : (of : SchemaTests) (old new : List Tree) (a b c : Claim) → Grows old new → IsSameClaim of old a b → IsSameClaim of new b c → IsSameClaim of new a c
same-then of old new a b c grows one two true_of for = one true_of (for-earlier of old new true_of grows for) ∙ two true_of for

-- ---- the whole query

pub reduced-below : (t : ℕ) (none first second : List Tree) (tree less : Tree) (claim : Claim) → Grows none first → none ≡ [] → AddsTestsOf tree none first → AddsNoTest first second → IsTreeFor claim second less → AreBelow t tree → AreBelow t less
reduced-below t none first second tree less claim grows empty asks asks_too is below =
    is.1 t (asks_too t (asks t (subst (All (AreBelow t)) (sym empty) (All-nil (AreBelow t))) below))

pub claims-agree : (of : SchemaTests) (trees : List Tree) (whole claim : Claim) → IsSameClaim of trees whole claim → ClaimsAgree of.schema of.tests trees whole claim
claims-agree of trees whole claim same r answers valid say = same (λ c. claim_holds answers trees c) (true-here of trees r answers valid say)

pub reduced-same : (schema : Schema) (tests : List Test) (of : SchemaTests) (first second : List Tree) (tree less : Tree) (whole claim : Claim) → of.schema ≡ schema → of.tests ≡ tests → Grows first second → IsClaimFor tree first whole → ClaimsAgree of.schema of.tests second whole claim → IsTreeFor claim second less → HasSameValue schema tests tree less
reduced-same schema tests of first second tree less whole claim under over grows is same made r answers valid say =
    sym (is.1 answers) ∙ sym (keeps-value first second whole answers grows is.0) ∙
    same r answers (subst (λ (x : Schema). IsValid x r) (sym under) valid) (subst (λ (ts : List Test). AnswersAs answers r ts) (sym over) say) ∙
    sym (made.0 answers)

-- the same of what a call gives
pub if-claims-agree : {E : Type 0} (of now : SchemaTests) (trees : List Tree) (whole : Claim) (r : Result Claim E) → now ≡ of → IfOk r (IsSameClaim now trees whole) → IfOk r (ClaimsAgree of.schema of.tests trees whole)
if-claims-agree of now trees whole (Ok c) same is = claims-agree of trees whole c (subst (λ (x : SchemaTests). IsSameClaim x trees whole c) same is)
if-claims-agree of now trees whole (Err f) same is = tt

pub implied-here : (of now : SchemaTests) (trees : List Tree) (one other : Claim) → now ≡ of → ClaimImplies now trees one other → IsImplied of trees one other
implied-here of now trees one other same implies r answers valid say =
    subst (λ (x : SchemaTests). ClaimImplies x trees one other) same implies (λ c. claim_holds answers trees c) (true-here of trees r answers valid say)
