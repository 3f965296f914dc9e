-- The claims of the branches of a formula.
use Rattle.std.specs.Prelude.{◌≡◌, List, [], ◌∷◌, Option, Some, None}
use Rattle.std.specs.Borrow.{Bor}
use Rattle.std.specs.List.{AllZip}
use Rattle.formula_tree.specs.Trees.{Tree, Trees, all, children_of, more, no, none, not, one_of, test, trees_of, yes}
use Rattle.formula_tree.specs.declared.formula.Branches.{Branches}
use Rattle.formula_nodes.specs.Claims.{IsClaimFor}
use Rattle.formula_nodes.specs.declared.claim.Claim.{Claim}

-- branches as a list
abbrev pub tree_list : Trees → List Tree
tree_list none = []
tree_list (more t ts) = t ∷ tree_list ts

-- the branches of a disjunction, or of one that is denied, and none of another tree
abbrev pub some_trees : Tree → List Tree
some_trees (one_of ts) = tree_list ts
some_trees yes = []
some_trees no = []
some_trees (test n) = []
some_trees (not t) = []
some_trees (all ts) = []

abbrev pub inner_trees : Tree → List Tree
inner_trees (not t) = some_trees t
inner_trees (one_of ts) = tree_list ts
inner_trees yes = []
inner_trees no = []
inner_trees (test n) = []
inner_trees (all ts) = []

abbrev pub inner_branches : Option (Bor Branches) → List Tree
inner_branches None = []
inner_branches (Some branches) = trees_of branches.now

-- the branches of a conjunction; another tree has none
abbrev pub ConjunctsOf : Tree → Option (Bor Branches) → Type 0
ConjunctsOf tree (Some branches) = tree ≡ all (children_of branches.now)
ConjunctsOf tree None = (ts : Trees) → tree ≡ all ts → ⊥

-- a claim for each tree, and for each tree claims for its branches
abbrev pub AreTreeClaims : List Tree → List Tree → List Claim → Type 0
AreTreeClaims trees inner claims = AllZip (λ t c. IsClaimFor t trees c) inner claims

abbrev pub AreInnerClaims : List Tree → List Tree → List (List Claim) → Type 0
AreInnerClaims trees inner claims = AllZip (λ t cs. AreTreeClaims trees (inner_trees t) cs) inner claims
