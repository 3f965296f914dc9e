-- A formula as a list of nodes of at most two children, each behind its children, with the way up.
use Rattle.std.specs.Prelude.{◌≡◌, ◌<◌, ◌==◌, ◌&&◌, ◌||◌, ℕ, List, [], ◌∷◌, ◌++◌, length, slice_get, slice_index_or, Option, Bool, true, false, Some}
use Rattle.formula_tree.specs.Trees.{Tree, of_list}
use Rattle.formula_tree.specs.Trees as tree
use Rattle.tree_values.specs.Models.{answer_at}
use Rattle.formula_tree.specs.Looks.{look_of_both, look_of_either, look_of_test, look_of_tree, look_of_not}
use Rattle.tree_values.specs.declared.graph.Graph.{Graph}
use Rattle.tree_values.specs.declared.node.Node.{Node}
use Rattle.tree_values.specs.declared.node.Node.TheVariants.{Yes, No, Test, Not, Both, Either}
use Rattle.formula_tree.specs.declared.looks.Look.{Look}
use Rattle.formula_tree.specs.declared.looks.Look.TheVariants as seen

-- what was seen of the node at an index
abbrev pub seen_at : List Look → ℕ → Look
seen_at marks i = slice_index_or marks i seen.Yes

-- what is seen of a node by what was seen of its children, and of a test by its answer
abbrev pub node_seen : (ℕ → Option Bool) → List Look → Node → Look
node_seen answers marks Yes = seen.Yes
node_seen answers marks No = seen.No
node_seen answers marks (Test n) = look_of_test (answers n) n
node_seen answers marks (Not a) = look_of_not (seen_at marks a)
node_seen answers marks (Both a b) = look_of_both (seen_at marks a) (seen_at marks b)
node_seen answers marks (Either a b) = look_of_either (seen_at marks a) (seen_at marks b)

abbrev pub has_child : Node → ℕ → Bool
has_child Yes c = false
has_child No c = false
has_child (Test n) c = false
has_child (Not a) c = a == c
has_child (Both a b) c = (a == c) || (b == c)
has_child (Either a b) c = (a == c) || (b == c)

abbrev pub has_test : Node → ℕ → Bool
has_test Yes m = false
has_test No m = false
has_test (Test n) m = n == m
has_test (Not a) m = false
has_test (Both a b) m = false
has_test (Either a b) m = false

abbrev pub holds_number : List ℕ → ℕ → Bool
holds_number [] n = false
holds_number (m ∷ ms) n = (m == n) || holds_number ms n

-- the list at an index; none past the end
abbrev pub list_at : List (List ℕ) → ℕ → List ℕ
list_at lists i = slice_index_or lists i []

-- each child stands before its node
abbrev pub AreOrdered : List Node → Type 0
AreOrdered nodes = (i c : ℕ) (node : Node) → slice_get nodes i ≡ Some node → has_child node c ≡ true → c < i

-- each node that isn't among the pending ones agrees with its children
abbrev pub AreSettledBut : List Node → (ℕ → Option Bool) → List Look → List ℕ → Type 0
AreSettledBut nodes answers marks pending = (i : ℕ) (node : Node) → slice_get nodes i ≡ Some node → holds_number pending i ≡ false →
    seen_at marks i ≡ node_seen answers marks node

abbrev pub AreSettled : List Node → (ℕ → Option Bool) → List Look → Type 0
AreSettled nodes answers marks = (i : ℕ) (node : Node) → slice_get nodes i ≡ Some node → seen_at marks i ≡ node_seen answers marks node

-- the node at the index stands for the tree: where all nodes agree with their children, it is seen as the tree is
abbrev pub IsAt : List Node → Tree → ℕ → Type 0
IsAt nodes t i = (i < length nodes) ×
    ((answers : ℕ → Option Bool) (marks : List Look) → AreSettled nodes answers marks → seen_at marks i ≡ look_of_tree answers t)

-- the nodes at the indices stand for the trees
abbrev pub AreAt : List Node → List Tree → List ℕ → Type 0
AreAt nodes [] [] = Unit {0}
AreAt nodes [] (c ∷ cs) = ⊥
AreAt nodes (t ∷ ts) [] = ⊥
AreAt nodes (t ∷ ts) (c ∷ cs) = IsAt nodes t c × AreAt nodes ts cs

-- what is seen of several nodes together: of `all` where the Bool is true, else of `one_of`
abbrev pub joint_seen : Bool → Look → Look → Look
joint_seen true = look_of_both
joint_seen false = look_of_either

abbrev pub empty_seen : Bool → Look
empty_seen true = seen.Yes
empty_seen false = seen.No

abbrev pub joined_seen : Bool → List Look → List ℕ → Look
joined_seen every marks [] = empty_seen every
joined_seen every marks (c ∷ cs) = joint_seen every (seen_at marks c) (joined_seen every marks cs)

-- the node of no branches, and that of two
abbrev pub empty_node : Bool → Node
empty_node true = Yes
empty_node false = No

abbrev pub joint_node : Bool → ℕ → ℕ → Node
joint_node true = Both
joint_node false = Either

abbrev pub joint_tree : Bool → List Tree → Tree
joint_tree true ts = tree.all (of_list ts)
joint_tree false ts = tree.one_of (of_list ts)

-- the tree of a node without children
abbrev pub leaf_tree : Node → Tree
leaf_tree Yes = tree.yes
leaf_tree No = tree.no
leaf_tree (Test n) = tree.test n
leaf_tree (Not a) = tree.yes
leaf_tree (Both a b) = tree.yes
leaf_tree (Either a b) = tree.yes

-- the node at the index stands for several ones together
abbrev pub IsJointNode : List Node → Bool → List ℕ → ℕ → Type 0
IsJointNode nodes every cs i = (i < length nodes) ×
    ((answers : ℕ → Option Bool) (marks : List Look) → AreSettled nodes answers marks → seen_at marks i ≡ joined_seen every marks cs)

-- each child is one of the nodes
abbrev pub AreChildrenIn : List Node → Node → Type 0
AreChildrenIn nodes node = (c : ℕ) → has_child node c ≡ true → c < length nodes

-- the second list begins with the first
abbrev pub IsPrefix : List Node → List Node → Type 0
IsPrefix old new = (rest : List Node) × (new ≡ old ++ rest)

-- nodes, for each the nodes that have it as a child, and for each test the nodes that ask it, all of those up to an index
pub record HasEntered (nodes : List Node) (parents leaves : List (List ℕ)) (upto : ℕ) : Type 0 where
  pub ordered : AreOrdered nodes
  pub long : length parents ≡ length nodes
  pub later : (c p : ℕ) → holds_number (list_at parents c) p ≡ true → (c < p) × (p < length nodes)
  pub there : (n i : ℕ) → holds_number (list_at leaves n) i ≡ true → i < length nodes
  pub up : (i c : ℕ) (node : Node) → i < upto → slice_get nodes i ≡ Some node → has_child node c ≡ true →
      holds_number (list_at parents c) i ≡ true
  pub asked : (i n : ℕ) (node : Node) → i < upto → slice_get nodes i ≡ Some node → has_test node n ≡ true →
      holds_number (list_at leaves n) i ≡ true

-- the number is put into the list at an index
abbrev pub PutsAt : List (List ℕ) → List (List ℕ) → ℕ → ℕ → Type 0
PutsAt old new at number = (c p : ℕ) →
    holds_number (list_at new c) p ≡ (holds_number (list_at old c) p || ((at == c) && (number == p)))

-- the number is put into the lists at the indices that a node names
abbrev pub Enters : (ℕ → Bool) → List (List ℕ) → List (List ℕ) → ℕ → Type 0
Enters named old new number = (c p : ℕ) →
    holds_number (list_at new c) p ≡ (holds_number (list_at old c) p || (named c && (number == p)))

-- all of a graph's nodes are entered
abbrev pub IsGraph : Graph → Type 0
IsGraph g = HasEntered g.nodes.items g.parents.items g.leaves.items (length g.nodes.items)

-- all nodes agree under answers, or all but the pending ones
abbrev pub IsSettled : Graph → List (Option Bool) → List Look → Type 0
IsSettled g answers marks = AreSettled g.nodes.items (answer_at answers) marks

abbrev pub IsSettledBut : Graph → List (Option Bool) → List Look → List ℕ → Type 0
IsSettledBut g answers marks pending = AreSettledBut g.nodes.items (answer_at answers) marks pending

-- what is kept of a tree under answers
pub record AreKept (tree : Tree) (answers : List (Option Bool)) (g : Graph) (marks : List Look) : Type 0 where
  pub graph : IsGraph g
  pub root : IsAt g.nodes.items tree g.root
  pub long : length marks ≡ length g.nodes.items
  pub settled : AreSettled g.nodes.items (answer_at answers) marks
