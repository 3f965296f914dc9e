-- Whether a part that closes under a path closes under fewer of its answers.
use Rattle.std.specs.Prelude.{◌≡◌, ◌≢◌, ◌↔◌, ℕ, length, Bool, true, IsTrue}
use Rattle.cnf_clauses.specs.Numbering.{clauses_of}
use Rattle.formula_tree.specs.Answers.{Answers, Contained}
use Rattle.formula_tree.specs.Runs.{path_with}
use Rattle.formula_tree.specs.Trees.{tree_of}
use Rattle.formula_tree.specs.Values.{value}
use Rattle.formula_tree.specs.declared.value.Three.TheVariants.{No}
use Rattle.policy_model.specs.declared.schema.Schema.{Schema}
use Rattle.refute_check.specs.Proofs.{Proof}
use Rattle.search_parts.specs.declared.shortening.Shortening.{Shortening}
use Rattle.search_parts.specs.declared.part.Part.{Part}
use Rattle.search_parts.specs.Making.{part_proof}
use Rattle.search_parts.specs.Needs.{AreNeeds}
use Rattle.search_parts.specs.Parts.{ClosesByStore}

-- the clauses are those of the query's tree
abbrev pub HasClauses : Shortening → Type 0
HasClauses s = s.clauses.now ≡ clauses_of (length s.query.now.tests) (tree_of s.query.now.formula.value)

-- the part closes the query by what is stored, under any schema
abbrev pub ClosesFor : Shortening → Schema → Proof → Answers → Type 0
ClosesFor s schema p path =
    ClosesByStore s.learned.now.lists schema s.query.now.tests (tree_of s.query.now.formula.value) p path

-- where it closes under more answers, the answer says whether it closes under these
abbrev pub IsStillClosed : Shortening → Proof → Answers → Bool → Type 0
IsStillClosed s p path still = (schema : Schema) (many : Answers) → Contained path many → ClosesFor s schema p many →
    (IsTrue still ↔ ClosesFor s schema p path)

-- what the part that closes a split's yes side needs is known, and the tree isn't no at the split: the answer says whether the part
-- closes there
abbrev pub IsNeedless : Shortening → Part → Answers → ℕ → Bool → Type 0
IsNeedless s part path test needless =
    (schema : Schema) →
    AreNeeds s.learned.now.lists (ClosesFor s schema (part_proof part)) (part_proof part) (path_with path test true) part.needs →
    ClosesFor s schema (part_proof part) (path_with path test true) → value path (tree_of s.query.now.formula.value) ≢ No →
    (IsTrue needless ↔ ClosesFor s schema (part_proof part) path)
