-- The clauses of a tree. Test j is variable j; each node that isn't a test gets a variable of its own, in prefix order, and
-- clauses that tie it to its children: a Tseitin encoding.
use Rattle.std.specs.Prelude.{◌≡◌, ℕ, ◌+◌, ◌-◌, ◌≤◌, List, [], ◌∷◌, ◌++◌, length, map, Bool, true, false, take, Result, OnOk}
use Rattle.cnf_clauses.specs.declared.making.TheConstants.{MOST_CLAUSES}
use Rattle.formula_tree.specs.Trees.{Tree, Trees, yes, no, test, not, all, one_of, none, more}
use Rattle.cnf_clauses.specs.Literals.{Clause, Literal}

-- how many nodes of the tree aren't tests
abbrev mutual
  pub nodes : Tree → ℕ
  nodes yes = 1
  nodes no = 1
  nodes (test n) = 0
  nodes (not t) = nodes t + 1
  nodes (all ts) = nodes_in ts + 1
  nodes (one_of ts) = nodes_in ts + 1

  pub nodes_in : Trees → ℕ
  nodes_in none = 0
  nodes_in (more t ts) = nodes t + nodes_in ts

-- the variable of a tree whose first node that isn't a test gets the variable `next`
abbrev pub variable_of : ℕ → Tree → ℕ
variable_of next yes = next
variable_of next no = next
variable_of next (test n) = n
variable_of next (not t) = next
variable_of next (all ts) = next
variable_of next (one_of ts) = next

abbrev pub variables_of : ℕ → Trees → List ℕ
variables_of next none = []
variables_of next (more t ts) = variable_of next t ∷ variables_of (next + nodes t) ts

-- the literals that give each variable the value
abbrev pub literals_at : Bool → List ℕ → Clause
literals_at value vs = map (λ v. (v, value)) vs

-- for each variable a clause of two literals
abbrev pub pairs_with : Literal → Bool → List ℕ → List Clause
pairs_with l value vs = map (λ v. l ∷ (v, value) ∷ []) vs

-- one clause of a literal and of each variable at the value
abbrev pub long_with : Literal → Bool → List ℕ → List Clause
long_with l value vs = (l ∷ literals_at value vs) ∷ []

-- the clauses of a `not` node v with a child of the variable c
abbrev pub not_clauses : ℕ → ℕ → List Clause
not_clauses v c = ((v, false) ∷ (c, false) ∷ []) ∷ ((v, true) ∷ (c, true) ∷ []) ∷ []

-- the clauses of an `all` node v with children of the variables vs
abbrev pub all_clauses : ℕ → List ℕ → List Clause
all_clauses v vs = pairs_with (v, false) true vs ++ long_with (v, true) false vs

-- the clauses of a `one_of` node
abbrev pub one_of_clauses : ℕ → List ℕ → List Clause
one_of_clauses v vs = long_with (v, false) true vs ++ pairs_with (v, true) false vs

-- the clauses that tie a node to its children, whose own nodes get the variables behind its own
abbrev pub not_ties : ℕ → Tree → List Clause
not_ties v t = not_clauses v (variable_of (v + 1) t)

abbrev pub all_ties : ℕ → Trees → List Clause
all_ties v ts = all_clauses v (variables_of (v + 1) ts)

abbrev pub one_of_ties : ℕ → Trees → List Clause
one_of_ties v ts = one_of_clauses v (variables_of (v + 1) ts)

-- the clauses of each node that isn't a test, in prefix order
abbrev mutual
  pub node_clauses : ℕ → Tree → List Clause
  node_clauses next yes = ((next, true) ∷ []) ∷ []
  node_clauses next no = ((next, false) ∷ []) ∷ []
  node_clauses next (test n) = []
  node_clauses next (not t) = not_ties next t ++ node_clauses (next + 1) t
  node_clauses next (all ts) = all_ties next ts ++ node_clauses_in (next + 1) ts
  node_clauses next (one_of ts) = one_of_ties next ts ++ node_clauses_in (next + 1) ts

  pub node_clauses_in : ℕ → Trees → List Clause
  node_clauses_in next none = []
  node_clauses_in next (more t ts) = node_clauses next t ++ node_clauses_in (next + nodes t) ts

-- the most clauses, in numbers
abbrev pub ClauseLimits : Type 0
ClauseLimits = MOST_CLAUSES ≡ 4294967296

-- each clause has a number
unfoldable pub HaveNumbers : List Clause → Type 0
HaveNumbers clauses = length clauses ≤ MOST_CLAUSES

-- the next clauses behind those that were made, as many as there are numbers left for
unfoldable pub with_more : List Clause → List Clause → List Clause
with_more made next = made ++ take (MOST_CLAUSES - length made) next

-- where the call went well, the next clauses were added
abbrev pub Adds : {X E : Type 0} → Result X E → List Clause → List Clause → List Clause → Type 0
Adds result old new next = OnOk result (new ≡ with_more old next)

-- clause 0 says that the root is true
abbrev pub clauses_of : ℕ → Tree → List Clause
clauses_of tests t = with_more [] (((variable_of tests t, true) ∷ []) ∷ node_clauses tests t)
