-- What a query says that asks a plan and, behind it, a query of a region.
use Rattle.std.proofs.Common.{◌≡◌, ◌↔◌, ℕ, ◌<◌, ◌^◌, Bool, true, false, ◌&&◌, ◌||◌, List, [], ◌∷◌, ◌++◌, length, refl, sym, ap, subst, ◌∙◌}
use Rattle.std.specs.Prelude.{All, IsTrue, slice_index}
use Rattle.std.specs.Prelude.{not as opposite}
use Rattle.std.proofs.lemmas.List.Elements.{All-nil}
use Rattle.std.proofs.lemmas.Option.{slice_get_within}
use Rattle.formula_tree.specs.declared.formula.Branches.{Branches}
use Rattle.formula_tree.specs.declared.formula.Formula.{Formula}
use Rattle.formula_tree.specs.declared.formula.Formula.TheVariants.{All as AllNode}
use Rattle.formula_tree.specs.Trees.{Tree, Trees, of_list, tree_of, trees_of}
use Rattle.formula_tree.specs.Trees as tree
use Rattle.formula_tree.specs.Values.{AreBelow, EachBelow, each_holds, holds, some_holds}
use Rattle.policy_model.specs.declared.request.Request.{Request}
use Rattle.policy_model.specs.declared.schema.Schema.{Schema}
use Rattle.policy_model.specs.declared.test.Test.{Test}
use Rattle.policy_model.specs.Requests.{IsValid}
use Rattle.policy_model.specs.Soundness.{SchemaIsSound, TestSuits}
use Rattle.policy_compile.specs.declared.outcome.Query.{Query}
use Rattle.policy_compile.specs.Meaning.{AnswersAs}
use Rattle.policy_compile.specs.Numbering.{IsNumbered}
use Rattle.policy_compile.specs.Plans.{Plan, PlanHolds, tests_in}
use Rattle.policy_compile.specs.Queries.{asked_tree}
use Rattle.policy_compile.proofs.Laws.{All-collects, below-numbered, holds-numbered}
use Rattle.findings.specs.declared.region.Region.{Region}
use Rattle.findings.specs.Answers.{QueryIsAskable}
use Rattle.findings.specs.Asked.{AsksBoth, IsAsked, IsRenumbered, StandsBeside}
use Rattle.findings.specs.RegionQueries.{IsRegionQuery}
use Rattle.findings.specs.Regions.{LiesInRegion}
use Rattle.findings.specs.Renumbering.{renumbered_each, renumbered_tree}
use Rattle.findings.proofs.Plans.{at-some, numbered-since}
use Rattle.findings.proofs.Trees.{tree-All}

-- ---- trees with other numbers

mutual
  renumbered-holds : (answers : ℕ → Bool) (numbers : List ℕ) (t : Tree) → holds answers (renumbered_tree numbers t) ≡ holds (λ n. answers (slice_index numbers n)) t
  renumbered-holds answers numbers tree.yes = refl
  renumbered-holds answers numbers tree.no = refl
  renumbered-holds answers numbers (tree.test n) = refl
  renumbered-holds answers numbers (tree.not t) = ap opposite (renumbered-holds answers numbers t)
  renumbered-holds answers numbers (tree.all ts) = each-renumbered answers numbers ts
  renumbered-holds answers numbers (tree.one_of ts) = some-renumbered answers numbers ts

  each-renumbered : (answers : ℕ → Bool) (numbers : List ℕ) (ts : Trees) → each_holds answers (renumbered_each numbers ts) ≡ each_holds (λ n. answers (slice_index numbers n)) ts
  each-renumbered answers numbers tree.none = refl
  each-renumbered answers numbers (tree.more t ts) =
      ap (λ (b : Bool). b && each_holds answers (renumbered_each numbers ts)) (renumbered-holds answers numbers t) ∙
      ap (λ (b : Bool). holds (λ n. answers (slice_index numbers n)) t && b) (each-renumbered answers numbers ts)

  some-renumbered : (answers : ℕ → Bool) (numbers : List ℕ) (ts : Trees) → some_holds answers (renumbered_each numbers ts) ≡ some_holds (λ n. answers (slice_index numbers n)) ts
  some-renumbered answers numbers tree.none = refl
  some-renumbered answers numbers (tree.more t ts) =
      ap (λ (b : Bool). b || some_holds answers (renumbered_each numbers ts)) (renumbered-holds answers numbers t) ∙
      ap (λ (b : Bool). holds (λ n. answers (slice_index numbers n)) t || b) (some-renumbered answers numbers ts)

mutual
  renumbered-below : (numbers : List ℕ) (few many : ℕ) → ((n : ℕ) → n < few → slice_index numbers n < many) → (t : Tree) → AreBelow few t → AreBelow many (renumbered_tree numbers t)
  renumbered-below numbers few many within tree.yes below = tt
  renumbered-below numbers few many within tree.no below = tt
  renumbered-below numbers few many within (tree.test n) below = within n below
  renumbered-below numbers few many within (tree.not t) below = renumbered-below numbers few many within t below
  renumbered-below numbers few many within (tree.all ts) below = each-below numbers few many within ts below
  renumbered-below numbers few many within (tree.one_of ts) below = each-below numbers few many within ts below

  each-below : (numbers : List ℕ) (few many : ℕ) → ((n : ℕ) → n < few → slice_index numbers n < many) → (ts : Trees) → EachBelow few ts → EachBelow many (renumbered_each numbers ts)
  each-below numbers few many within tree.none below = tt
  each-below numbers few many within (tree.more t ts) below = (renumbered-below numbers few many within t below.0, each-below numbers few many within ts below.1)

-- ---- both

pub stands-beside : (old new : List Test) (base : Query) (one other : Formula) (empty first : List Tree) (branches : Branches) (whole : Formula) →
    empty ≡ [] → first ≡ empty ++ tree_of one ∷ [] → IsRenumbered old new base (tree_of other) → trees_of branches ≡ first ++ tree_of other ∷ [] → whole ≡ AllNode branches → StandsBeside old new (tree_of one) base (tree_of whole)
stands-beside old new base one other empty first branches whole begins second behind third is =
    let grown : trees_of branches ≡ tree_of one ∷ tree_of other ∷ [] = third ∙ ap (λ (ts : List Tree). ts ++ tree_of other ∷ []) (second ∙ ap (λ (ts : List Tree). ts ++ tree_of one ∷ []) begins) in
    record { other = tree_of other; renumbered = behind; is = ap tree_of is ∙ tree-All branches ∙ ap (λ (ts : List Tree). tree.all (of_list ts)) grown }

pub asks-both : (p : Plan) (base q : Query) (start first tests : List Test) (one : Tree) → start ≡ [] → IsAsked start first p one → StandsBeside first tests one base (asked_tree q) → q.tests ≡ tests → length q.tests < 2 ^ 32 → AsksBoth p base q
asks-both p base q start first tests one begins asked beside is few = record {
  first = first;
  one = one;
  asked = subst (λ (xs : List Test). IsAsked xs first p one) begins asked;
  beside = subst (λ (xs : List Test). StandsBeside first xs one base (asked_tree q)) (sym is) beside;
  few = few;
}

and-true : (a b : Bool) → (a && (b && true)) ≡ true → (a ≡ true) × (b ≡ true)
and-true true true e = (refl, refl)
and-true true false e = absurd (cc)
and-true false b e = absurd (cc)

true-and : (a b : Bool) → a ≡ true → b ≡ true → (a && (b && true)) ≡ true
true-and true true e f = refl
true-and true false e f = absurd (cc)
true-and false b e f = absurd (cc)

module _ (schema : Schema) (p : Plan) (base q : Query) (asks : AsksBoth p base q) where
  plan-numbered : IsNumbered q.tests p asks.one
  plan-numbered = numbered-since asks.first base.tests q.tests p asks.one asks.beside.renumbered.are.collects asks.asked.numbered

  pub both-askable : SchemaIsSound schema → All (TestSuits schema) (tests_in p) → All (TestSuits schema) base.tests → AreBelow (length base.tests) (asked_tree base) → QueryIsAskable schema q
  both-askable sound own suit below =
      let behind = asks.beside.renumbered in
      let first = All-collects (TestSuits schema) [] (tests_in p) asks.first asks.asked.collects (All-nil (TestSuits schema)) own in
      let one = below-numbered q.tests p asks.one plan-numbered in
      let other = subst (AreBelow (length q.tests)) (sym behind.tree) (renumbered-below behind.numbers (length base.tests) (length q.tests) (λ n within. (
      let there = at-some base.tests n within in
      slice_get_within q.tests (slice_index behind.numbers n) there.0 (behind.are.each n there.0 there.1))) (asked_tree base) below) in
      record {
        sound = sound;
        suit = All-collects (TestSuits schema) asks.first base.tests q.tests behind.are.collects first suit;
        count = asks.few;
        below = subst (AreBelow (length q.tests)) (sym asks.beside.is) (one, (other, tt));
      }

  pub both-hold : (region : Region) → IsRegionQuery schema region base → (r : Request) (answers : ℕ → Bool) → IsValid schema r → AnswersAs answers r q.tests →
      (IsTrue (holds answers (asked_tree q)) ↔ (PlanHolds r p × LiesInRegion schema region r))
  both-hold region is r answers valid say =
      let behind = asks.beside.renumbered in
      let told : ℕ → Bool = λ n. answers (slice_index behind.numbers n) in
      let first = holds-numbered answers r q.tests say p asks.one plan-numbered in
      let second = is.says r told valid (λ n t at. say (slice_index behind.numbers n) t (behind.are.each n t at)) in
      let other : holds answers asks.beside.other ≡ holds told (asked_tree base) = ap (holds answers) behind.tree ∙ renumbered-holds answers behind.numbers (asked_tree base) in
      let whole = ap (holds answers) asks.beside.is in (
        λ h. (let each = and-true (holds answers asks.one) (holds answers asks.beside.other) (sym whole ∙ h) in (first.0 each.0, second.0 (sym other ∙ each.1))),
        λ h. whole ∙ true-and (holds answers asks.one) (holds answers asks.beside.other) (first.1 h.0) (other ∙ second.1 h.1),
      )
