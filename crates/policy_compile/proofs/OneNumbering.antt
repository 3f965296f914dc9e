-- A plan has one list of tests and one tree, and is past its limit or not.
use Rattle.std.proofs.Common.{◌≡◌, ◌≤◌, ◌⊎◌, ◌∷◌, ◌++◌, ◌∙◌, ℕ, zero, suc, List, [], length, Some, Contains, slice_get, ap, arith, inl, inr, refl, subst, sym}
use Rattle.std.proofs.lemmas.List.{length-append}
use Rattle.std.proofs.lemmas.Option.{get_or_from_slice_get, slice_get_within}
use Rattle.formula_tree.specs.Trees as tree
use Rattle.policy_model.specs.declared.test.Test.{Test}
use Rattle.policy_compile.specs.Numbering.{AreNumbered, Collects, HasTooMany, IsNumbered, again, anew, nothing}
use Rattle.policy_compile.specs.Numbering.{numbered_all, numbered_ask, numbered_more, numbered_none, numbered_not, numbered_one_of, numbered_yes}
use Rattle.policy_compile.specs.Plans.{Plan, Plans, tests_in}
use Rattle.policy_compile.specs.Plans as plan

pub one-list : (had read got other : List Test) → Collects had read got → Collects had read other → got ≡ other
one-list had [] got other nothing nothing = refl
one-list had (t ∷ read) got other (again old rest) (again old_too rest_too) = one-list had read got other rest rest_too
one-list had (t ∷ read) got other (anew new rest) (anew new_too rest_too) = one-list (had ++ t ∷ []) read got other rest rest_too
one-list had (t ∷ read) got other (again old rest) (anew new_too rest_too) = absurd (new_too old)
one-list had (t ∷ read) got other (anew new rest) (again old_too rest_too) = absurd (new old_too)

-- no test stands at two numbers
abbrev pub AreDistinct : List Test → Type 0
AreDistinct ts = (n m : ℕ) (t : Test) → slice_get ts n ≡ Some t → slice_get ts m ≡ Some t → n ≡ m

at-more : (ts : List Test) (t u : Test) (n : ℕ) → slice_get (ts ++ t ∷ []) n ≡ Some u → (slice_get ts n ≡ Some u) ⊎ ((n ≡ length ts) × (t ≡ u))
at-more [] t u zero e = inr (refl, cc)
at-more [] t u (suc n) e = absurd (cc)
at-more (x ∷ ts) t u zero e = inl e
at-more (x ∷ ts) t u (suc n) e = elim (at-more ts t u n e) [
  | inl front ↦ inl front
  | inr last ↦ inr (omega (arith, last.0), last.1)
]

contains-at : (ts : List Test) (t : Test) (n : ℕ) → slice_get ts n ≡ Some t → Contains ts t
contains-at ts t n e = (n, slice_get_within ts n t e, get_or_from_slice_get ts n t t e)

contains-same : (ts : List Test) (t u : Test) (n : ℕ) → slice_get ts n ≡ Some u → t ≡ u → Contains ts t
contains-same ts t u n e same = contains-at ts t n (e ∙ ap Some (sym same))

distinct-more : (ts : List Test) (t : Test) → ¬ Contains ts t → AreDistinct ts → AreDistinct (ts ++ t ∷ [])
distinct-more ts t new old n m u one other =
    elim (at-more ts t u n one) [
      | inl front ↦ elim (at-more ts t u m other) [
        | inl also ↦ old n m u front also
        | inr last ↦ absurd (new (contains-same ts t u n front last.1))
      ]
      | inr last ↦ elim (at-more ts t u m other) [
        | inl front ↦ absurd (new (contains-same ts t u m front last.1))
        | inr also ↦ last.0 ∙ sym also.0
      ]
    ]

collected-distinct : (had read got : List Test) → Collects had read got → AreDistinct had → AreDistinct got
collected-distinct had [] got nothing old = old
collected-distinct had (t ∷ read) got (again known rest) old = collected-distinct had read got rest old
collected-distinct had (t ∷ read) got (anew new rest) old = collected-distinct (had ++ t ∷ []) read got rest (distinct-more had t new old)

no-tests-distinct : AreDistinct []
no-tests-distinct n m t one other = absurd (cc)

mutual
  one-tree : (ts : List Test) → AreDistinct ts → (p : Plan) (a b : tree.Tree) → IsNumbered ts p a → IsNumbered ts p b → a ≡ b
  one-tree ts distinct plan.yes a b numbered_yes numbered_yes = refl
  one-tree ts distinct (plan.ask t) a b (numbered_ask {n = n} one) (numbered_ask {n = m} other) = ap tree.test (distinct n m t one other)
  one-tree ts distinct (plan.not p) a b (numbered_not {t = t} x) (numbered_not {t = u} y) = ap tree.not (one-tree ts distinct p t u x y)
  one-tree ts distinct (plan.all ps) a b (numbered_all {ts = t} x) (numbered_all {ts = u} y) = ap tree.all (one-branches ts distinct ps t u x y)
  one-tree ts distinct (plan.one_of ps) a b (numbered_one_of {ts = t} x) (numbered_one_of {ts = u} y) = ap tree.one_of (one-branches ts distinct ps t u x y)

  one-branches : (ts : List Test) → AreDistinct ts → (ps : Plans) (a b : tree.Trees) → AreNumbered ts ps a → AreNumbered ts ps b → a ≡ b
  one-branches ts distinct plan.none a b numbered_none numbered_none = refl
  one-branches ts distinct (plan.more p ps) a b (numbered_more {t = t} {ts = us} x xs) (numbered_more {t = u} {ts = vs} y ys) =
      ap (λ (w : tree.Tree). tree.more w us) (one-tree ts distinct p t u x y) ∙ ap (tree.more u) (one-branches ts distinct ps us vs xs ys)

-- of one plan two lists of tests are equal, and two trees
pub same-tree : (p : Plan) (ts us : List Test) (a b : tree.Tree) → Collects [] (tests_in p) ts → Collects [] (tests_in p) us → IsNumbered ts p a → IsNumbered us p b → a ≡ b
same-tree p ts us a b one other x y =
    let same = one-list [] (tests_in p) ts us one other in
    one-tree us (collected-distinct [] (tests_in p) us other no-tests-distinct) p a b (subst (λ (vs : List Test). IsNumbered vs p a) same x) y

-- ---- limits

grows : (had read got : List Test) → Collects had read got → length had ≤ length got
grows had [] got nothing = omega arith
grows had (t ∷ read) got (again old rest) = grows had read got rest
grows had (t ∷ read) got (anew new rest) = omega (arith, grows (had ++ t ∷ []) read got rest, length-append had (t ∷ []))

few-front : (had front rest got all : List Test) → Collects had front got → Collects had (front ++ rest) all → length got ≤ length all
few-front had [] rest got all nothing whole = grows had rest all whole
few-front had (t ∷ front) rest got all (again old more) (again old_too whole) = few-front had front rest got all more whole
few-front had (t ∷ front) rest got all (anew new more) (anew new_too whole) = few-front (had ++ t ∷ []) front rest got all more whole
few-front had (t ∷ front) rest got all (again old more) (anew new_too whole) = absurd (new_too old)
few-front had (t ∷ front) rest got all (anew new more) (again old_too whole) = absurd (new old_too)

-- few tests aren't too many
pub few-enough : (read all : List Test) → Collects [] read all → length all ≤ 1000 → HasTooMany [] read → ⊥
few-enough read all collects few past =
    let whole : Collects [] (past.front ++ past.rest) all = subst (λ (ts : List Test). Collects [] ts all) past.is collects in
    let fewer = few-front [] past.front past.rest past.got all past.collects whole in
    let many = past.many in
    omega arith
