-- The formulas of nodes stand for the nodes' plans.
use Rattle.std.proofs.Common.{◌≡◌, ◌<◌, ◌+◌, ℕ, List, [], ◌∷◌, ◌++◌, length, get_or, map, All, Some, sym, ap, ◌∙◌, subst, inl, inr}
use Rattle.std.specs.Prelude.{slice_get}
use Rattle.std.proofs.lemmas.List.Elements.{All-head, All-tail}
use Rattle.std.proofs.Common.{arith}
use Rattle.std.specs.declared.rc.Rc.{Rc}
use Rattle.std.specs.declared.alloc.Global.{Global}
use Rattle.std.proofs.lemmas.List.{get_or-map, length-append, length-map, map_push}
use Rattle.std.proofs.lemmas.Option.{slice_get-get_or}
use Rattle.formula_tree.specs.declared.formula.Formula.{Formula}
use Rattle.formula_tree.specs.Trees as tree
use Rattle.policy_model.specs.declared.test.Test.{Test}
use Rattle.policy_compile.specs.declared.nodes.Node.{Node}
use Rattle.policy_compile.specs.declared.nodes.Node.TheVariants as node
use Rattle.policy_compile.specs.Nodes.{AreEarlier, ArePlansAt, IsPlanAt, StandFor, children, node_tree, plan_all, plan_ask, plan_not, plan_one_of, plan_yes, plans_more, plans_none, tree_at, tree_in}
use Rattle.policy_compile.specs.Numbering.{AreNumbered, IsNumbered, numbered_all, numbered_ask, numbered_more, numbered_none, numbered_not, numbered_one_of, numbered_yes}
use Rattle.policy_compile.specs.Plans.{Plan, Plans, all, ask, more, none, not, one_of, yes}
use Rattle.policy_compile.proofs.Asking.{last-or-before}

-- the tree at an index
abbrev pub at : List tree.Tree → ℕ → tree.Tree
at trees i = get_or trees i tree.yes

module _ (nodes : List Node) (trees : List tree.Tree) (stand : StandFor nodes trees) (tests : List Test) where
  child-stands : (p : Plan) (c : ℕ) → c < length trees → IsPlanAt tests nodes p c → IsNumbered tests p (at trees c)
  child-stands p c within h = stand tests p c (at trees c) h (slice_get-get_or trees c tree.yes within)

  children-stand : (ps : Plans) (cs : List ℕ) → All (λ c. c < length trees) cs → ArePlansAt tests nodes ps cs → AreNumbered tests ps (tree.of_list (map (at trees) cs))
  children-stand none [] within plans_none = numbered_none
  children-stand (more p ps) (c ∷ cs) within (plans_more first rest) = numbered_more (child-stands p c (All-head (λ c. c < length trees) c cs within) first) (children-stand ps cs (All-tail (λ c. c < length trees) c cs within) rest)
  children-stand none (c ∷ cs) within h = elim h [ ]
  children-stand (more p ps) [] within h = elim h [ ]

  same-node : (i : ℕ) (n own : Node) → slice_get nodes i ≡ Some n → slice_get nodes i ≡ Some own → own ≡ n
  same-node i n own here also = cc

  -- the tree of the next node is its plan
  next-stands : (n : Node) (i : ℕ) → slice_get nodes i ≡ Some n → All (λ c. c < length trees) (children n) → (p : Plan) → IsPlanAt tests nodes p i → IsNumbered tests p (node_tree (at trees) n)
  next-stands n i here within yes (plan_yes own) = subst (λ (m : Node). IsNumbered tests yes (node_tree (at trees) m)) (same-node i n node.Yes here own) numbered_yes
  next-stands n i here within (ask t) (plan_ask {n = k} own number) = subst (λ (m : Node). IsNumbered tests (ask t) (node_tree (at trees) m)) (same-node i n (node.Test k) here own) (numbered_ask number)
  next-stands n i here within (not p) (plan_not {c} own h) =
      let same = same-node i n (node.Not c) here own in
      let below = subst (λ (m : Node). All (λ c. c < length trees) (children m)) (sym same) within in
      subst (λ (m : Node). IsNumbered tests (not p) (node_tree (at trees) m)) same (numbered_not (child-stands p c (All-head (λ c. c < length trees) c [] below) h))
  next-stands n i here within (all ps) (plan_all {cs} own h) =
      let same = same-node i n (node.All cs) here own in
      let below = subst (λ (m : Node). All (λ c. c < length trees) (children m)) (sym same) within in
      subst (λ (m : Node). IsNumbered tests (all ps) (node_tree (at trees) m)) same (numbered_all (children-stand ps cs below h))
  next-stands n i here within (one_of ps) (plan_one_of {cs} own h) =
      let same = same-node i n (node.OneOf cs) here own in
      let below = subst (λ (m : Node). All (λ c. c < length trees) (children m)) (sym same) within in
      subst (λ (m : Node). IsNumbered tests (one_of ps) (node_tree (at trees) m)) same (numbered_one_of (children-stand ps cs below h))

-- one more tree stands for the next node
pub stand-more : (nodes : List Node) (trees more_trees : List tree.Tree) (n : Node) (t : tree.Tree) → StandFor nodes trees → slice_get nodes (length trees) ≡ Some n → All (λ c. c < length trees) (children n) →
    t ≡ node_tree (at trees) n → more_trees ≡ trees ++ t ∷ [] → StandFor nodes more_trees
stand-more nodes trees more_trees n t stand here within made is tests p i u h there =
    elim (last-or-before trees t i u (subst (λ (ts : List tree.Tree). slice_get ts i ≡ Some u) is there)) [
      | inl before ↦ stand tests p i u h before
      | inr last ↦
          let whole : IsNumbered tests p (node_tree (at trees) n) = next-stands nodes trees stand tests n (length trees) here within p (subst (λ (k : ℕ). IsPlanAt tests nodes p k) last.0 h) in
          subst (λ (v : tree.Tree). IsNumbered tests p v) (sym made ∙ last.1) whole
    ]

-- ---- shared formulas

-- the formula of a node that isn't another one
pub not-tree : (fs : List (Rc Formula Global)) (n : Node) (i : ℕ) (f : Rc Formula Global) (v : Formula) → n ≡ node.Not i → All (λ c. c < length fs) (children n) → f ≡ get_or fs i f → v ≡ f.value → tree.not (tree.tree_of v) ≡ node_tree (tree_in fs) n
not-tree fs n i f v is within at_i same =
    let below : i < length fs = All-head (λ c. c < length fs) i [] (subst (λ (m : Node). All (λ c. c < length fs) (children m)) is within) in
    let here : tree_in fs i ≡ tree_at (get_or fs i f) = get_or-map tree_at fs i f tree.yes below in
    ap (λ (x : Formula). tree.not (tree.tree_of x)) same ∙ ap (λ (r : Rc Formula Global). tree.not (tree_at r)) at_i ∙ ap (λ (t : tree.Tree). tree.not t) (sym here) ∙ ap (node_tree (tree_in fs)) (sym is)

-- one more formula stands for the next node
pub formula-more : (nodes : List Node) (fs gs seen : List (Rc Formula Global)) (i : ℕ) (n : Node) (r : Rc Formula Global) (f : Formula) → AreEarlier nodes → length fs ≡ i → StandFor nodes (map tree_at fs) → i < length nodes → n ≡ get_or nodes i n →
    seen ≡ fs → tree.tree_of f ≡ node_tree (tree_in seen) n → r.value ≡ f → gs ≡ fs ++ r ∷ [] → (length gs ≡ i + 1) × StandFor nodes (map tree_at gs)
formula-more nodes fs gs seen i n r f earlier count stand within is same made value longer =
    let trees = map tree_at fs in
    let index : i ≡ length trees = sym (length-map fs tree_at ∙ count) in
    let here : slice_get nodes i ≡ Some n = slice_get-get_or nodes i n within ∙ ap (λ (m : Node). Some m) (sym is) in
    let tree_is : tree_at r ≡ node_tree (at trees) n = ap tree.tree_of value ∙ made ∙ ap (λ (xs : List (Rc Formula Global)). node_tree (tree_in xs) n) same in (
      omega (arith, ap (λ (xs : List (Rc Formula Global)). length xs) longer, length-append fs (r ∷ []), count),
      stand-more nodes trees (map tree_at gs) n (tree_at r) stand (subst (λ (k : ℕ). slice_get nodes k ≡ Some n) index here) (subst (λ (k : ℕ). All (λ c. c < k) (children n)) index (earlier i n here)) tree_is
          (ap (map tree_at) longer ∙ map_push tree_at fs r),
    )
