-- The lemmas on parts that a search cites.
use Rattle.std.proofs.Common.{◌≡◌, ◌<◌, ◌≤◌, ◌+◌, ℕ, List, [], ◌++◌, length, true, None, All}
use Rattle.formula_tree.specs.Answers.{Answers, Contained, answer_of}
use Rattle.formula_tree.specs.Runs.{path_with}
use Rattle.formula_tree.specs.Trees.{Tree}
use Rattle.formula_tree.specs.Values.{value}
use Rattle.formula_tree.specs.declared.value.Three.TheVariants.{No}
use Rattle.cnf_clauses.specs.Following.{IsConflictAt}
use Rattle.cnf_clauses.specs.Numbering.{clauses_of}
use Rattle.cnf_clauses.specs.declared.following.Conflict.{Conflict}
use Rattle.nogoods.specs.Hits.{answers_at}
use Rattle.policy_model.specs.declared.schema.Schema.{Schema}
use Rattle.policy_model.specs.declared.test.Test.{Test}
use Rattle.slot_theory.specs.declared.outcome.SlotProof.{SlotProof}
use Rattle.slot_theory.specs.Cores.{Accepts}
use Rattle.slot_theory.specs.Possible.{PathInRange}
use Rattle.refute_check.specs.Closing.{Closes, after_part}
use Rattle.refute_check.specs.Laws.{NoneMeets, TreeInRange}
use Rattle.refute_check.specs.Proofs.{Proof, by_clauses, by_value, label, labels, reuse, split, splits}
use Rattle.search_parts.specs.declared.part.Needs.TheVariants.{Just, Open}
use Rattle.search_parts.specs.declared.part.Part.{Part}
use Rattle.search_parts.specs.Making.{AreOwnNeeds, IsKeptCore, IsMadePart, IsPartOf, IsRefutationOf, IsSlotPart, part_proof}
use Rattle.search_parts.specs.Parts.{AreStored, ClosesByStore, EndInOrder}
use Rattle.search_parts.specs.Renaming.{AreNames, before_by, line_names, renamed_proof}
use Rattle.search_parts.proofs.Closing as closing
use Rattle.search_parts.proofs.Halving as halving
use Rattle.search_parts.proofs.Making as making
use Rattle.search_parts.proofs.Naming as naming
use Rattle.search_parts.proofs.Renamed as numbers
use Rattle.search_parts.proofs.Unmet as unmet

module _ (schema : Schema) (tests : List Test) (tree : Tree) where
  abbrev C : List Answers → Proof → Answers → Type 0
  C store = ClosesByStore store schema tests tree

  -- a part closes by what is stored where it did before more was stored
  pub closes-grows : (store more : List Answers) (k : ℕ) (p : Proof) (q : Answers) → EndInOrder k p → k + labels p ≤ length store → C store p q → C (store ++ more) p q
  closes-grows = closing.grows schema tests tree

  -- where each stored list leaves no request, neither does a part that closes by what is stored
  pub closed-none : TreeInRange tests tree → (store : List Answers) → All (NoneMeets schema tests tree) store → (p : Proof) (q : Answers) → PathInRange tests q → C store p q → NoneMeets schema tests tree q
  closed-none = unmet.closed-none schema tests tree

-- numbers by lines leave how many splits there are
pub renamed-splits : (p : Proof) (names : List ℕ) (begun : ℕ) → splits (renamed_proof names begun p) ≡ splits p
renamed-splits = numbers.renamed-splits

-- no labels stand before the first
pub names-none : (begun : ℕ) → AreNames begun begun 0 []
names-none = naming.names-none

-- behind a part the numbers of its labels join those before
pub next-names : (y : Proof) (names : List ℕ) (begun k : ℕ) → AreNames 0 begun k names → AreNames 0 (begun + labels y) (k + labels y) (names ++ line_names begun y)
next-names = numbers.next-names

-- after a part its labels stand before what follows
pub after-renamed : (store : List Answers) (p : Proof) (k begun : ℕ) (names : List ℕ) → length names ≡ k → EndInOrder k p → AreStored store p → after_part (before_by store names begun) (renamed_proof names begun p) ≡ before_by store (names ++ line_names begun p) (begun + labels p)
after-renamed = numbers.after-renamed

-- a part that closes has its labels stored
pub closes-stored : (schema : Schema) (tests : List Test) (tree : Tree) (store : List Answers) (p : Proof) (q : Answers) → ClosesByStore store schema tests tree p q → AreStored store p
closes-stored = closing.closes-stored

-- with its labels numbered by their lines a part closes where it closes by what is stored
pub renamed-closes : (schema : Schema) (tests : List Test) (tree : Tree) (store : List Answers) (p : Proof) (k begun : ℕ) (names : List ℕ) (q : Answers) → EndInOrder k p → AreNames 0 begun k names → k + labels p ≤ length store → ClosesByStore store schema tests tree p q → Closes schema tests tree (before_by store names begun) (renamed_proof names begun p) q
renamed-closes = numbers.renamed-closes

-- ---- parts while they are made

module _ (schema : Schema) (tests : List Test) (tree : Tree) where
  abbrev Made : List Answers → List Answers → Answers → ℕ → Part → Type 0
  Made = IsMadePart schema tests tree

  -- a part by the tree's value
  pub value-made : (store : List Answers) (path : Answers) (used : ℕ) (part : Part) → IsPartOf by_value Open part → value path tree ≡ No → Made store store path used part
  value-made = making.value-made schema tests tree

  -- by a conflict of clauses
  pub clauses-made : (store : List Answers) (path : Answers) (used : ℕ) (c : Conflict) (part : Part) → IsPartOf (by_clauses c.hints) (Just c.answers) part → IsConflictAt (clauses_of (length tests) tree) path c → Made store store path used part
  clauses-made = making.clauses-made schema tests tree

  -- by a core
  pub slot-made : (store : List Answers) (path : Answers) (used : ℕ) (core : List ℕ) (proof : SlotProof) (part : Part) → IsSlotPart path core proof part → Accepts schema tests path core proof → Made store store path used part
  slot-made = making.slot-made schema tests tree

  -- by the reuse of a label
  pub reuse-made : (store : List Answers) (path : Answers) (used n : ℕ) (part : Part) → IsPartOf (reuse n) (Just (answers_at store n)) part → n < length store → Contained (answers_at store n) path → Made store store path used part
  reuse-made = making.reuse-made schema tests tree

  -- by a kept core
  pub kept-made : (store : List Answers) (path : Answers) (used : ℕ) (answers : Answers) (p : Proof) (part : Part) → IsPartOf p (Just answers) part → IsKeptCore schema tests answers p → Contained answers path → Made store store path used part
  kept-made = making.kept-made schema tests tree

  -- a core that was found can be kept, with the answers that it needs
  pub core-kept : (path : Answers) (core : List ℕ) (proof : SlotProof) (part : Part) (s : IsSlotPart path core proof part) → Accepts schema tests path core proof → IsKeptCore schema tests s.answers (part_proof part)
  core-kept = making.core-kept schema tests tree

  -- a yes side's part that closes without the split
  pub skip-made : (old new : List Answers) (path : Answers) (n used more : ℕ) (part : Part) → n < length tests → answer_of path n ≡ None → Made old new (path_with path n true) used part → C schema tests tree new (part_proof part) path → used ≤ more → Made old new path more part
  skip-made = making.skip-made schema tests tree

  -- what a part needs is of its path, also where more is stored
  pub own-needs : (old new store more : List Answers) (path : Answers) (used : ℕ) (part : Part) → Made old new path used part → store ≡ new ++ more → AreOwnNeeds tree store path part.needs
  own-needs = halving.own-needs schema tests tree

  -- the whole with its labels numbered by their lines
  pub finished-made : (store : List Answers) (used : ℕ) (part : Part) → Made [] store [] used part → IsRefutationOf schema tests tree used (renamed_proof [] 0 (part_proof part))
  finished-made = making.finished-made schema tests tree

  -- has as many labels as lists are stored
  pub made-labels : (store : List Answers) (used : ℕ) (part : Part) → Made [] store [] used part → labels (part_proof part) ≡ length store
  made-labels = making.made-labels schema tests tree
