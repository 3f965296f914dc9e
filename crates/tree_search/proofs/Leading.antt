-- The splits that lead to a node, with the labels of what is passed numbered by their lines.
use Rattle.std.proofs.Common.{ℕ, ◌+◌, ◌++◌, List, sym, subst, true, false}
use Rattle.formula_tree.specs.Answers.{Answers}
use Rattle.formula_tree.specs.Runs.{path_with}
use Rattle.formula_tree.specs.Trees.{Tree}
use Rattle.policy_model.specs.declared.schema.Schema.{Schema}
use Rattle.policy_compile.specs.declared.outcome.Query.{Query}
use Rattle.policy_compile.specs.Queries.{asked_tree}
use Rattle.refute_check.specs.Closing.{Before}
use Rattle.refute_check.specs.Proofs.{Proof, labels}
use Rattle.search_parts.specs.Renaming.{AreNames, before_by, line_names, renamed_proof}
use Rattle.search_parts.proofs.Laws.{after-renamed, closes-stored, next-names, renamed-closes, renamed-splits}
use Rattle.tree_search.specs.Leading.{IsPassedBy, LeadBy, nowhere, to_yes, to_no}
use Rattle.tree_search.specs.Nodes.{IsClosedAfter, LeadTo}
use Rattle.tree_search.specs.Nodes as nodes

module _ (schema : Schema) (query : Query) (store : List Answers) where
  abbrev tree : Tree
  tree = asked_tree query

  -- what is passed
  passed-renamed : (ended made : ℕ) (path : Answers) (passed : Proof) (begun : ℕ) (names : List ℕ) → IsPassedBy schema query store ended made path passed → AreNames 0 begun ended names →
      IsClosedAfter schema query (before_by store names begun) made path (renamed_proof names begun passed)
  passed-renamed ended made path passed begun names is are = record {
    closes = renamed-closes schema query.tests tree store passed ended begun names path is.order are is.within is.closes;
    among = rw (renamed-splits passed names begun) is.among;
    counted = is.counted;
  }

  pub leads-renamed : (ended count : ℕ) (path node : Answers) (begun : ℕ) (names : List ℕ) → LeadBy schema query store ended count path node → AreNames 0 begun ended names → LeadTo schema query (before_by store names begun) count path node
  leads-renamed ended count path node begun names (nowhere e1 p1) are = nodes.nowhere (before_by store names begun) path
  leads-renamed ended count path node begun names (to_yes e1 p1 node1 n k all lead sum) are =
      nodes.to_yes (before_by store names begun) path node n k count (leads-renamed ended k (path_with path n true) node begun names lead are) sum
  leads-renamed ended count path node begun names (to_no e1 p1 node1 n made k all passed is lead sum) are =
      let stored = closes-stored schema query.tests tree store passed (path_with path n true) is.closes in
      let after = after-renamed store passed ended begun names are.count_is is.order stored in
      let later = leads-renamed (ended + labels passed) k (path_with path n false) node (begun + labels passed) (names ++ line_names begun passed) lead (next-names passed names begun ended are) in
      nodes.to_no (before_by store names begun) path node n made k count (renamed_proof names begun passed)
      (passed-renamed ended made (path_with path n true) passed begun names is are)
      (subst (λ (b : Before). LeadTo schema query b k (path_with path n false) node) (sym after) later) sum
