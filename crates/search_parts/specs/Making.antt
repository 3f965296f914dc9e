-- What is known of a part while a refutation is made.
use Rattle.std.specs.Prelude.{◌≡◌, ◌<◌, ◌≤◌, ◌⊎◌, ◌+◌, ◌*◌, ◌++◌, ℕ, List, [], length, true, false, None}
use Rattle.formula_tree.specs.Answers.{Answers, Contained, answer_of}
use Rattle.formula_tree.specs.Runs.{path_with, unanswered_count}
use Rattle.formula_tree.specs.Trees.{Tree}
use Rattle.formula_tree.specs.Values.{value}
use Rattle.formula_tree.specs.declared.value.Three.TheVariants.{No}
use Rattle.nogoods.specs.Hits.{NoHit}
use Rattle.policy_model.specs.declared.schema.Schema.{Schema}
use Rattle.policy_model.specs.declared.test.Test.{Test}
use Rattle.slot_theory.specs.declared.outcome.SlotProof.{SlotProof}
use Rattle.slot_theory.specs.Cores.{Accepts}
use Rattle.refute_check.specs.Closing.{Closes, at_first}
use Rattle.refute_check.specs.Proofs.{Proof, by_slot, depth, labels, proof_of, splits}
use Rattle.search_parts.specs.declared.learning.TheConstants.{MOST_LEARNED}
use Rattle.search_parts.specs.declared.part.Needs.{Needs}
use Rattle.search_parts.specs.declared.part.Needs.TheVariants.{Just, Open, Unknown}
use Rattle.search_parts.specs.declared.part.Halves.{Halves}
use Rattle.search_parts.specs.declared.part.Part.{Part}
use Rattle.search_parts.specs.Needs.{AreAnswersTo, AreNeeds}
use Rattle.search_parts.specs.Parts.{ClosesByStore, EndInOrder, IsTrimmedAlong, LabelSplits}
use Rattle.search_parts.specs.Trimmed.{IsTrimmed, bare_splits}

-- the tree of a part
abbrev pub part_proof : Part → Proof
part_proof part = proof_of part.refutation.value

-- A part closes under the path, and this is what it needs. The first lists were stored before the part was made, the second are stored
-- now: those, and the answers of the part's labels in the order of their ends.
pub record IsClosedPart (schema : Schema) (tests : List Test) (tree : Tree) (old new : List Answers) (path : Answers)
    (p : Proof) (need : Needs) : Type 0 where
  pub closes : ClosesByStore new schema tests tree p path
  pub order : EndInOrder (length old) p
  pub stored : length new ≡ length old + labels p
  pub more : List Answers
  pub grows : new ≡ old ++ more
  pub needs : AreNeeds new (ClosesByStore new schema tests tree p) p path need

-- It is trimmed under whatever answers of the path it closes, each of its splits is a label's node, or as many were learned as may be; it
-- nests within twice the open tests, and has at most so many splits.
pub record IsTrimPart (schema : Schema) (tests : List Test) (tree : Tree) (old new : List Answers) (path : Answers)
    (used : ℕ) (p : Proof) : Type 0 where
  pub trimmed : IsTrimmedAlong new schema tests tree (length old) p path
  pub splits_labelled : LabelSplits p
  pub learned : (bare_splits p ≡ 0) ⊎ (MOST_LEARNED ≤ length new)
  pub nests : depth p ≤ 2 * unanswered_count path (length tests)
  pub few : splits p ≤ used

-- both are so of a part
pub record IsMadePart (schema : Schema) (tests : List Test) (tree : Tree) (old new : List Answers) (path : Answers)
    (used : ℕ) (part : Part) : Type 0 where
  pub closed : IsClosedPart schema tests tree old new path (part_proof part) part.needs
  pub trim : IsTrimPart schema tests tree old new path used (part_proof part)

-- the part is this refutation, with these needs
pub record IsPartOf (p : Proof) (need : Needs) (part : Part) : Type 0 where
  pub is : part_proof part ≡ p
  pub needs : part.needs ≡ need

-- the part is that of a core, and needs the path's answers to the core's tests
pub record IsSlotPart (path : Answers) (core : List ℕ) (proof : SlotProof) (part : Part) : Type 0 where
  pub answers : Answers
  pub is : IsPartOf (by_slot core proof) (Just answers) part
  pub own : AreAnswersTo core path answers

-- a core that was kept with the answers to its tests is accepted under these
pub record IsKeptCore (schema : Schema) (tests : List Test) (answers : Answers) (p : Proof) : Type 0 where
  pub core : List ℕ
  pub proof : SlotProof
  pub is : p ≡ by_slot core proof
  pub accepted : Accepts schema tests answers core proof
  pub own : AreAnswersTo core answers answers

-- Both sides of a split on a test that the path leaves open: the no side was made after the yes side. That doesn't close without the
-- split, and the path contained nothing that was stored.
pub record AreMadeHalves (schema : Schema) (tests : List Test) (tree : Tree) (old middle new : List Answers)
    (path : Answers) (first second : ℕ) (halves : Halves) : Type 0 where
  pub within : halves.test < length tests
  pub open_test : answer_of path halves.test ≡ None
  pub yes_side : IsMadePart schema tests tree old middle (path_with path halves.test true) first halves.yes
  pub no_side : IsMadePart schema tests tree middle new (path_with path halves.test false) second halves.no
  pub needed : ¬ ClosesByStore middle schema tests tree (part_proof halves.yes) path
  pub nothing : NoHit old path

-- what a part needs is of its path; where that is open the tree's value is no; and it is known while lists are learned
abbrev pub AreOwnNeeds : Tree → List Answers → Answers → Needs → Type 0
AreOwnNeeds tree store path (Just needs) = Contained needs path
AreOwnNeeds tree store path Open = value path tree ≡ No
AreOwnNeeds tree store path Unknown = MOST_LEARNED ≤ length store

-- what is shown of a finished refutation
pub record IsRefutationOf (schema : Schema) (tests : List Test) (tree : Tree) (used : ℕ) (p : Proof) : Type 0 where
  pub closes : Closes schema tests tree at_first p []
  pub few : splits p ≤ used
  pub nests : depth p ≤ 2 * length tests
  pub trimmed : IsTrimmed schema tests tree p
