-- What a check answers of a refutation.
use Rattle.std.specs.Prelude.{◌≡◌, []}
use Rattle.formula_tree.specs.Trees.{tree_of}
use Rattle.policy_compile.specs.declared.outcome.Query.{Query}
use Rattle.policy_model.specs.declared.schema.Schema.{Schema}
use Rattle.refute_check.specs.declared.refutation.Refutation.{Refutation}
use Rattle.refute_check.specs.declared.verdict.Verdict.{Verdict}
use Rattle.refute_check.specs.declared.verdict.Verdict.TheVariants.{Closes as closes, Fails}
use Rattle.refute_check.specs.Closing.{FailsAt, at_first}
use Rattle.refute_check.specs.Proofs.{proof_of}
use Rattle.refute_check.specs.Queries.{ClosesQuery}

-- it closes exactly where the rules hold under the empty path, and otherwise fails at its first failing node
abbrev pub IsVerdict : Schema → Query → Refutation → Verdict → Type 0
IsVerdict schema q r closes = ClosesQuery schema q r []
IsVerdict schema q r (Fails node) = FailsAt schema q.tests (tree_of q.formula.value) at_first (proof_of r) [] node

-- a refutation closes a query or fails at one node: never both, and never at two
abbrev pub VerdictsAreEqual : Type 0
VerdictsAreEqual =
    (schema : Schema) (q : Query) (r : Refutation) (one other : Verdict) →
    IsVerdict schema q r one → IsVerdict schema q r other → one ≡ other
