-- Formulas as nodes, each of which names the formulas inside by the indices of earlier nodes.
use Rattle.std.specs.Prelude.{◌≡◌, ◌<◌, ℕ, List, [], ◌∷◌, Some, All, map, slice_get}
use Rattle.std.proofs.Common.{get_or}
use Rattle.std.specs.declared.rc.Rc.{Rc}
use Rattle.std.specs.declared.alloc.Global.{Global}
use Rattle.formula_tree.specs.declared.formula.Formula.{Formula}
use Rattle.formula_tree.specs.Trees as tree
use Rattle.policy_model.specs.declared.test.Test.{Test}
use Rattle.policy_compile.specs.declared.nodes.Node.{Node}
use Rattle.policy_compile.specs.declared.nodes.Node.TheVariants as node
use Rattle.policy_compile.specs.Plans.{Plan, Plans, yes, ask, not, all, one_of, none, more}
use Rattle.policy_compile.specs.Numbering.{IsNumbered}

-- the indices of the formulas inside
abbrev pub children : Node → List ℕ
children node.Yes = []
children (node.Test n) = []
children (node.Not i) = i ∷ []
children (node.All is) = is
children (node.OneOf is) = is

-- each node names earlier ones
abbrev pub AreEarlier : List Node → Type 0
AreEarlier nodes = (i : ℕ) (n : Node) → slice_get nodes i ≡ Some n → All (λ c. c < i) (children n)

mutual
  -- the node of this index is the plan, with each test's number in its stead
  pub data IsPlanAt (tests : List Test) (nodes : List Node) : Plan → ℕ → Type 0 where
    plan_yes : {i : ℕ} → slice_get nodes i ≡ Some node.Yes → IsPlanAt tests nodes yes i
    plan_ask : {i n : ℕ} {t : Test} → slice_get nodes i ≡ Some (node.Test n) → slice_get tests n ≡ Some t →
        IsPlanAt tests nodes (ask t) i
    plan_not : {i c : ℕ} {p : Plan} → slice_get nodes i ≡ Some (node.Not c) → IsPlanAt tests nodes p c →
        IsPlanAt tests nodes (not p) i
    plan_all : {i : ℕ} {cs : List ℕ} {ps : Plans} → slice_get nodes i ≡ Some (node.All cs) → ArePlansAt tests nodes ps cs →
        IsPlanAt tests nodes (all ps) i
    plan_one_of : {i : ℕ} {cs : List ℕ} {ps : Plans} → slice_get nodes i ≡ Some (node.OneOf cs) → ArePlansAt tests nodes ps cs →
        IsPlanAt tests nodes (one_of ps) i

  pub data ArePlansAt (tests : List Test) (nodes : List Node) : Plans → List ℕ → Type 0 where
    plans_none : ArePlansAt tests nodes none []
    plans_more : {i : ℕ} {is : List ℕ} {p : Plan} {ps : Plans} → IsPlanAt tests nodes p i → ArePlansAt tests nodes ps is →
        ArePlansAt tests nodes (more p ps) (i ∷ is)

-- the tree of a node, with the trees of the nodes inside
abbrev pub node_tree : (ℕ → tree.Tree) → Node → tree.Tree
node_tree inside node.Yes = tree.yes
node_tree inside (node.Test n) = tree.test n
node_tree inside (node.Not i) = tree.not (inside i)
node_tree inside (node.All is) = tree.all (tree.of_list (map inside is))
node_tree inside (node.OneOf is) = tree.one_of (tree.of_list (map inside is))

-- the tree of a shared formula, and of the one with this index
abbrev pub tree_at : Rc Formula Global → tree.Tree
tree_at f = tree.tree_of f.value

abbrev pub tree_in : List (Rc Formula Global) → ℕ → tree.Tree
tree_in formulas i = get_or (map tree_at formulas) i tree.yes

-- the trees are those of the nodes: where a node is a plan, its tree is the plan
abbrev pub StandFor : List Node → List tree.Tree → Type 0
StandFor nodes trees =
    (tests : List Test) (p : Plan) (i : ℕ) (t : tree.Tree) → IsPlanAt tests nodes p i → slice_get trees i ≡ Some t → IsNumbered tests p t
