-- Claims that say together what others do.
use Rattle.std.proofs.Common.{◌≡◌, ◌<◌, ◌+◌, ◌++◌, ◌∷◌, ℕ, List, [], zero, suc, length, take, get_or, All, Result, Ok, Err, refl, sym, ap, ◌∙◌, subst, arith}
use Rattle.std.specs.Prelude.{Contains, IfOk, IsTrue}
use Rattle.std.specs.List.Retain.{IsFiltered, DiffersFromLast}
use Rattle.std.specs.List.Sorted.{IsPermutation}
use Rattle.std.specs.Borrow.{Bor}
use Rattle.std.proofs.lemmas.List.{get_or_append_left, get_or_at, length-append, take_more}
use Rattle.std.proofs.lemmas.List.Elements.{All-append, All-contains, All-contains_itself, All-nil, All-push, Contains-append_right}
use Rattle.std.proofs.lemmas.List.Filters.{dedup_is}
use Rattle.std.proofs.lemmas.List.Kept.{Contains-dedup, Contains-from_dedup}
use Rattle.std.proofs.lemmas.List.Sorted.{Contains-permutation, IsPermutation-sym}
use Rattle.formula_tree.specs.Trees.{Tree}
use Rattle.formula_nodes.specs.Claims.{AreClaimsOf, Grows, IsClaimOf, IsClaimOfEach, claim_holds}
use Rattle.formula_nodes.specs.Parts.{IsPartOfClaim}
use Rattle.formula_nodes.specs.Standing.{node_trees}
use Rattle.formula_nodes.specs.declared.nodes.Node.{Node}
use Rattle.formula_nodes.specs.Steps.{HasSameClaims, SaysAlso, AreEquivalentClaims}
use Rattle.formula_nodes.specs.declared.claim.Claim.{Claim}
use Rattle.formula_nodes.specs.contracts.claim.ClaimPartialEq.TheImpl as claims
use Rattle.formula_nodes.specs.declared.part.Part.TheVariants as part
use Rattle.formula_nodes.proofs.Laws.{had-values, keep-values}
use Rattle.formula_nodes.proofs.Same.{claims-Decides, claims-equivalence}

-- ---- in another order, each once

pub same-claims : (old sorted new : List Claim) → IsPermutation old sorted → IsFiltered (DiffersFromLast claims.eq-value.it) [] sorted new → HasSameClaims old new
same-claims old sorted new moved kept c =
    let is = dedup_is claims.eq-value.it sorted new kept in (
      λ at. subst (λ (cs : List Claim). Contains cs c) (sym is) (Contains-dedup claims-equivalence (λ x y. (claims-Decides x y).0) sorted c (Contains-permutation old sorted c moved at)),
      λ at. Contains-permutation sorted old c (IsPermutation-sym old sorted moved) (Contains-from_dedup claims.eq-value.it sorted c (subst (λ (cs : List Claim). Contains cs c) is at)),
    )

-- what each of some claims has, each of others has that are among them
all-among : (P : Claim → Type 0) (xs ys : List Claim) → ((c : Claim) → Contains ys c → Contains xs c) → All P xs → All P ys
all-among P xs ys among each k d lt = All-contains P xs (get_or ys k d) each (among (get_or ys k d) (All-contains_itself ys k d lt))

pub says-reordered : (trees : List Tree) (cs flat sorted : List Claim) → AreEquivalentClaims trees cs flat → HasSameClaims flat sorted → AreEquivalentClaims trees cs sorted
says-reordered trees cs flat sorted says same = (
  all-among (IsClaimOf trees) flat sorted (λ c. (same c).1) says.0,
  λ answers. (
    λ each. (says.1 answers).0 (all-among (λ (c : Claim). IsTrue (claim_holds answers trees c)) sorted flat (λ c. (same c).0) each),
    λ each. all-among (λ (c : Claim). IsTrue (claim_holds answers trees c)) flat sorted (λ c. (same c).1) ((says.1 answers).1 each),
  ),
)

-- ---- one claim more

all-front : (P : Claim → Type 0) (xs ys : List Claim) → All P (xs ++ ys) → All P xs
all-front P xs ys each k d lt = subst P (get_or_append_left xs ys d k lt) (each k d (omega (arith, length-append xs ys, lt)))

all-last : (P : Claim → Type 0) (xs : List Claim) (y : Claim) → All P (xs ++ y ∷ []) → P y
all-last P xs y each = subst P (get_or_at xs y [] y (length xs) refl) (each (length xs) y (omega (arith, length-append xs (y ∷ []))))

all-back : (P : Claim → Type 0) (xs ys : List Claim) → All P (xs ++ ys) → All P ys
all-back P xs ys each = all-among P (xs ++ ys) ys (Contains-append_right xs ys) each

pub also-one : (trees : List Tree) (c : Claim) (old new : List Claim) → IsClaimOf trees c → new ≡ old ++ c ∷ [] → SaysAlso trees c old new
also-one trees c old new there is = (
  λ before. subst (AreClaimsOf trees) (sym is) (All-push (IsClaimOf trees) old c before there),
  λ answers.
      let P = λ (d : Claim). IsTrue (claim_holds answers trees d) in (
        λ each. let whole = subst (All P) is each in (all-front P old (c ∷ []) whole, all-last P old c whole),
        λ both. subst (All P) (sym is) (All-push P old c both.0 both.1),
      ),
)

pub also-each : (trees : List Tree) (c : Claim) (inner : Bor (List Claim)) (old new : List Claim) → IsPartOfClaim trees c (part.All inner) → new ≡ old ++ inner.now → SaysAlso trees c old new
also-each trees c inner old new is longer = (
  λ before. subst (AreClaimsOf trees) (sym longer) (All-append (IsClaimOf trees) old inner.now before is.0.0),
  λ answers.
      let P = λ (d : Claim). IsTrue (claim_holds answers trees d) in (
        λ each. let whole = subst (All P) longer each in (all-front P old inner.now whole, (is.1 answers).1 (all-back P old inner.now whole)),
        λ both. subst (All P) (sym longer) (All-append P old inner.now both.0 ((is.1 answers).0 both.1)),
      ),
)

pub says-none : (trees : List Tree) → AreEquivalentClaims trees [] []
says-none trees = (All-nil (IsClaimOf trees), λ answers. (λ each. each, λ each. each))

pub says-more : (trees : List Tree) (cs : List Claim) (i : ℕ) (c : Claim) (old new : List Claim) → i < length cs → c ≡ get_or cs i c → AreEquivalentClaims trees (take i cs) old → SaysAlso trees c old new → AreEquivalentClaims trees (take (i + 1) cs) new
says-more trees cs i c old new lt at says also =
    let is : take (i + 1) cs ≡ take i cs ++ c ∷ [] = take_more cs i c lt ∙ ap (λ (x : Claim). take i cs ++ x ∷ []) (sym at) in (
      also.0 says.0,
      λ answers.
          let P = λ (d : Claim). IsTrue (claim_holds answers trees d) in (
            λ each. let both = (also.1 answers).0 each in subst (All P) (sym is) (All-push P (take i cs) c ((says.1 answers).0 both.0) both.1),
            λ each. let whole = subst (All P) is each in (also.1 answers).1 ((says.1 answers).1 (all-front P (take i cs) (c ∷ []) whole), all-last P (take i cs) c whole),
          ),
    )

-- ---- the claim that they hold

-- the only claim of a list stands wherever one looks
only : (own : List Claim) (d : Claim) → length own ≡ 1 → (k : ℕ) (e : Claim) → k < length own → get_or own k e ≡ get_or own 0 d
only [] d one k e lt = absurd (omega arith)
only (x ∷ []) d one zero e lt = refl
only (x ∷ []) d one (suc k) e lt = absurd (omega arith)
only (x ∷ y ∷ own) d one k e lt = absurd (omega arith)

pub one-says : (trees : List Tree) (cs own : List Claim) (d : Claim) → AreEquivalentClaims trees cs own → length own ≡ 1 → IsClaimOfEach cs trees (get_or own 0 d)
one-says trees cs own d says one = (
  says.0 0 d (omega (arith, one)),
  λ answers. (
    λ h. (says.1 answers).0 (λ k e lt. subst (λ (x : Claim). IsTrue (claim_holds answers trees x)) (sym (only own d one k e lt)) h),
    λ each. (says.1 answers).1 each 0 d (omega (arith, one)),
  ),
)

pub all-says : {E : Type 0} (r : Result Claim E) (old new : List Tree) (cs own : List Claim) → Grows old new → AreClaimsOf old cs → AreEquivalentClaims old cs own → IfOk r (IsClaimOfEach own new) → IfOk r (IsClaimOfEach cs new)
all-says (Err e) old new cs own grows there says is = tt
all-says (Ok c) old new cs own grows there says is = (
  is.0,
  λ answers. (
    λ h. keep-values old new cs answers grows there ((says.1 answers).0 (had-values old new own answers grows says.0 ((is.1 answers).0 h))),
    λ each. (is.1 answers).1 (keep-values old new own answers grows says.0 ((says.1 answers).1 (had-values old new cs answers grows there each))),
  ),
)

-- the claims taken apart and put in order
pub told : (seen inside nodes : List Node) (own cs flat sorted : List Claim) → seen ≡ inside → inside ≡ nodes → own ≡ cs → AreEquivalentClaims (node_trees seen) own flat → HasSameClaims flat sorted → AreEquivalentClaims (node_trees nodes) cs sorted
told seen inside nodes own cs flat sorted first second same says reordered =
    let moved = subst (λ (ns : List Node). AreEquivalentClaims (node_trees ns) cs flat) (first ∙ second) (subst (λ (xs : List Claim). AreEquivalentClaims (node_trees seen) xs flat) same says) in
    says-reordered (node_trees nodes) cs flat sorted moved reordered
