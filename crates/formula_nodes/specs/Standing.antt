-- The trees that nodes stand for, each of which names earlier ones.
use Rattle.std.specs.Prelude.{◌≡◌, ◌<◌, ◌++◌, ◌∷◌, ℕ, Bool, List, [], Some, All, map, slice_get, true, false}
use Rattle.formula_tree.specs.Trees.{Tree, all, not, of_list, test}
use Rattle.formula_nodes.specs.declared.claim.Claim.{Claim}
use Rattle.formula_nodes.specs.declared.nodes.Node.{Node}
use Rattle.formula_nodes.specs.declared.nodes.Node.TheVariants as node
use Rattle.formula_nodes.specs.Claims.{numbered_tree}

abbrev pub turned_tree : Bool → Tree → Tree
turned_tree true tree = tree
turned_tree false tree = not tree

-- what a claim says, as a tree
abbrev pub claim_tree : List Tree → Claim → Tree
claim_tree trees claim = turned_tree claim.holds (numbered_tree trees claim.node)

-- the tree of the next node, by those before it
abbrev pub next_tree : List Tree → Node → Tree
next_tree before (node.Test n) = test n
next_tree before (node.All claims) = all (of_list (map (claim_tree before) claims))

-- the trees of these nodes behind others
abbrev pub trees_behind : List Tree → List Node → List Tree
trees_behind before [] = before
trees_behind before (n ∷ ns) = trees_behind (before ++ next_tree before n ∷ []) ns

abbrev pub node_trees : List Node → List Tree
node_trees nodes = trees_behind [] nodes

abbrev pub inner_claims : Node → List Claim
inner_claims (node.Test n) = []
inner_claims (node.All claims) = claims

-- each node is over earlier ones
abbrev pub AreOverEarlier : List Node → Type 0
AreOverEarlier nodes = (i : ℕ) (n : Node) → slice_get nodes i ≡ Some n → All (λ c. c.node < i) (inner_claims n)
