-- Trees that stay no where answers are added.
use Rattle.std.proofs.Common.{◌≡◌, ℕ, ◌≢◌, Bool, true, false, Option, Some, None, inl, inr, refl, sym, ap, ◌∙◌}
use Rattle.formula_tree.specs.Answers.{Answers, answer_of}
use Rattle.formula_tree.specs.Runs.{path_with}
use Rattle.formula_tree.specs.Trees.{Tree, Trees, none, more}
use Rattle.formula_tree.specs.Trees as kind
use Rattle.formula_tree.specs.Values.{value}
use Rattle.formula_tree.specs.declared.value.Three.TheVariants as three
use Rattle.formula_tree.proofs.Laws.{answer_of-besides, answer_of-last, cases_eq}
use Rattle.tree_values.specs.Cuts.{IsNoOn}
use Rattle.tree_values.specs.Leaving.{IsNoGiven, with_answer, without_answer}
use Rattle.formula_tree.specs.Looks.{look_of_both, look_of_all, look_of_either, look_of_some, look_of_test, look_of_tree, look_of_not, value_in}
use Rattle.tree_values.specs.declared.cut.Sides.{Sides}
use Rattle.formula_tree.specs.declared.looks.Look.{Look}
use Rattle.formula_tree.specs.declared.looks.Look.TheVariants.{Yes, No, Waits}
use Rattle.tree_values.proofs.Lists.{number-other, number-same}
use Rattle.formula_tree.proofs.Laws.{value-is}

-- equal answers, equally seen
module _ (f g : ℕ → Option Bool) (same : (n : ℕ) → f n ≡ g n) where
  mutual
    pub tree-alike : (t : Tree) → look_of_tree f t ≡ look_of_tree g t
    tree-alike kind.yes = refl
    tree-alike kind.no = refl
    tree-alike (kind.test n) = ap (λ (a : Option Bool). look_of_test a n) (same n)
    tree-alike (kind.not t) = ap look_of_not (tree-alike t)
    tree-alike (kind.all ts) = each-alike ts
    tree-alike (kind.one_of ts) = some-alike ts

    each-alike : (ts : Trees) → look_of_all f ts ≡ look_of_all g ts
    each-alike none = refl
    each-alike (more t ts) = ap (λ (x : Look). look_of_both x (look_of_all f ts)) (tree-alike t) ∙ ap (look_of_both (look_of_tree g t)) (each-alike ts)

    some-alike : (ts : Trees) → look_of_some f ts ≡ look_of_some g ts
    some-alike none = refl
    some-alike (more t ts) = ap (λ (x : Look). look_of_either x (look_of_some f ts)) (tree-alike t) ∙ ap (look_of_either (look_of_tree g t)) (some-alike ts)

-- the second keeps what the first knows
abbrev Stays : Look → Look → Type 0
Stays Yes b = b ≡ Yes
Stays No b = b ≡ No
Stays (Waits n) b = Unit {0}

stays-test : (a b : Option Bool) (n : ℕ) → ((c : Bool) → a ≡ Some c → b ≡ Some c) → Stays (look_of_test a n) (look_of_test b n)
stays-test None b n h = tt
stays-test (Some true) b n h = rw (h true refl) refl
stays-test (Some false) b n h = rw (h false refl) refl

stays-turned : (a b : Look) → Stays a b → Stays (look_of_not a) (look_of_not b)
stays-turned Yes b h = rw h refl
stays-turned No b h = rw h refl
stays-turned (Waits n) b h = tt

both-no : (c : Look) → look_of_both c No ≡ No
both-no Yes = refl
both-no No = refl
both-no (Waits n) = refl

either-yes : (c : Look) → look_of_either c Yes ≡ Yes
either-yes Yes = refl
either-yes No = refl
either-yes (Waits n) = refl

stays-both : (a b c d : Look) → Stays a c → Stays b d → Stays (look_of_both a b) (look_of_both c d)
stays-both No b c d h k = rw h refl
stays-both Yes b c d h k = rw h k
stays-both (Waits n) No c d h k = rw k (both-no c)
stays-both (Waits n) Yes c d h k = tt
stays-both (Waits n) (Waits m) c d h k = tt

stays-either : (a b c d : Look) → Stays a c → Stays b d → Stays (look_of_either a b) (look_of_either c d)
stays-either Yes b c d h k = rw h refl
stays-either No b c d h k = rw h k
stays-either (Waits n) Yes c d h k = rw k (either-yes c)
stays-either (Waits n) No c d h k = tt
stays-either (Waits n) (Waits m) c d h k = tt

abbrev pub IsFewer : (ℕ → Option Bool) → (ℕ → Option Bool) → Type 0
IsFewer f g = (n : ℕ) (b : Bool) → f n ≡ Some b → g n ≡ Some b

module _ (f g : ℕ → Option Bool) (fewer : IsFewer f g) where
  mutual
    stays : (t : Tree) → Stays (look_of_tree f t) (look_of_tree g t)
    stays kind.yes = refl
    stays kind.no = refl
    stays (kind.test n) = stays-test (f n) (g n) n (fewer n)
    stays (kind.not t) = stays-turned (look_of_tree f t) (look_of_tree g t) (stays t)
    stays (kind.all ts) = stays-each ts
    stays (kind.one_of ts) = stays-some ts

    stays-each : (ts : Trees) → Stays (look_of_all f ts) (look_of_all g ts)
    stays-each none = refl
    stays-each (more t ts) = stays-both (look_of_tree f t) (look_of_all f ts) (look_of_tree g t) (look_of_all g ts) (stays t) (stays-each ts)

    stays-some : (ts : Trees) → Stays (look_of_some f ts) (look_of_some g ts)
    stays-some none = refl
    stays-some (more t ts) = stays-either (look_of_tree f t) (look_of_some f ts) (look_of_tree g t) (look_of_some g ts) (stays t) (stays-some ts)

  pub stays-no : (t : Tree) → look_of_tree f t ≡ No → look_of_tree g t ≡ No
  stays-no t e = rw e at (stays t)

-- ---- one more answer, and one less

pub with-same : (f : ℕ → Option Bool) (test : ℕ) (b : Bool) (n : ℕ) → n ≡ test → with_answer f test b n ≡ Some b
with-same f test b n e = rw (e, number-same test) refl

pub with-other : (f : ℕ → Option Bool) (test : ℕ) (b : Bool) (n : ℕ) → n ≢ test → with_answer f test b n ≡ f n
with-other f test b n ne = rw (number-other test n (λ e. ne (sym e))) refl

pub without-same : (f : ℕ → Option Bool) (test n : ℕ) → n ≡ test → without_answer f test n ≡ None
without-same f test n e = rw (e, number-same test) refl

pub without-other : (f : ℕ → Option Bool) (test n : ℕ) → n ≢ test → without_answer f test n ≡ f n
without-other f test n ne = rw (number-other test n (λ e. ne (sym e))) refl

with-fewer : (f g : ℕ → Option Bool) (test : ℕ) (b : Bool) → IsFewer f g → IsFewer (with_answer f test b) (with_answer g test b)
with-fewer f g test b fewer n c is =
    elim (cases_eq n test) [
      | inl e ↦ with-same g test b n e ∙ sym (with-same f test b n e) ∙ is
      | inr ne ↦ with-other g test b n ne ∙ fewer n c (sym (with-other f test b n ne) ∙ is)
    ]

none-some : (b : Bool) → ◌≡◌ {A = Option Bool} None (Some b) → ⊥
none-some b e = cc

pub without-fewer : (f g : ℕ → Option Bool) (test : ℕ) → IsFewer f g → IsFewer (without_answer f test) (without_answer g test)
without-fewer f g test fewer n c is =
    elim (cases_eq n test) [
      | inl e ↦ absurd (none-some c (sym (without-same f test n e) ∙ is))
      | inr ne ↦ without-other g test n ne ∙ fewer n c (sym (without-other f test n ne) ∙ is)
    ]

pub given-more : (tree : Tree) (f g : ℕ → Option Bool) (test : ℕ) (sides : Sides) → IsFewer f g → IsNoGiven tree f test sides → IsNoGiven tree g test sides
given-more tree f g test sides fewer given = record {
  yes = λ asked. stays-no (with_answer f test true) (with_answer g test true) (with-fewer f g test true fewer) tree (given.yes asked);
  no = λ asked. stays-no (with_answer f test false) (with_answer g test false) (with-fewer f g test false fewer) tree (given.no asked);
}

pub given-alike : (tree : Tree) (f g : ℕ → Option Bool) (test : ℕ) (sides : Sides) → ((n : ℕ) → f n ≡ g n) → IsNoGiven tree f test sides → IsNoGiven tree g test sides
given-alike tree f g test sides same given = given-more tree f g test sides (λ n b is. sym (same n) ∙ is) given

-- ---- by paths

with-answered : (f : ℕ → Option Bool) (path : Answers) (test : ℕ) (b : Bool) → ((n : ℕ) → f n ≡ answer_of path n) → answer_of path test ≡ None → (n : ℕ) → with_answer f test b n ≡ answer_of (path_with path test b) n
with-answered f path test b same free n =
    elim (cases_eq n test) [
      | inl e ↦ with-same f test b n e ∙ sym (answer_of-last path test b free) ∙ ap (answer_of (path_with path test b)) (sym e)
      | inr ne ↦ with-other f test b n ne ∙ same n ∙ sym (answer_of-besides path test b n ne)
    ]

no-seen : (s : Look) → value_in s ≡ three.No → s ≡ No
no-seen Yes e = absurd (cc)
no-seen No e = refl
no-seen (Waits n) e = absurd (cc)

module _ (tree : Tree) (f : ℕ → Option Bool) (path : Answers) (test : ℕ) (sides : Sides) (same : (n : ℕ) → f n ≡ answer_of path n) (free : answer_of path test ≡ None) where
  at : (b : Bool) → value_in (look_of_tree (with_answer f test b) tree) ≡ value (path_with path test b) tree
  at b = value-is (path_with path test b) (with_answer f test b) (with-answered f path test b same free) tree

  pub given-from : IsNoOn tree path test sides → IsNoGiven tree f test sides
  given-from on = record {
    yes = λ asked. no-seen (look_of_tree (with_answer f test true) tree) (at true ∙ on.yes asked);
    no = λ asked. no-seen (look_of_tree (with_answer f test false) tree) (at false ∙ on.no asked);
  }

  pub given-on : IsNoGiven tree f test sides → IsNoOn tree path test sides
  given-on given = record {
    yes = λ asked. sym (at true) ∙ ap value_in (given.yes asked);
    no = λ asked. sym (at false) ∙ ap value_in (given.no asked);
  }
