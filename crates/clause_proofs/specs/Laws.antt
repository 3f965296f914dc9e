-- What a clausal proof says of all requests.
use Rattle.std.specs.Prelude.{List}
use Rattle.formula_tree.specs.Trees.{Tree}
use Rattle.policy_model.specs.declared.request.Request.{Request}
use Rattle.policy_model.specs.declared.schema.Schema.{Schema}
use Rattle.policy_model.specs.declared.test.Test.{Test}
use Rattle.policy_model.specs.Requests.{IsValid}
use Rattle.refute_check.specs.Laws.{MakesYes, TreeInRange}
use Rattle.clause_proofs.specs.declared.lines.Line.{Line}
use Rattle.clause_proofs.specs.Refuting.{RefuteTree}

-- where lines refute a tree over the tests, no valid request makes it yes, whoever wrote the lines
abbrev pub ClausalProofsRefute : Type 0
ClausalProofsRefute =
    (schema : Schema) (tests : List Test) (tree : Tree) (lines : List Line) → TreeInRange tests tree →
    RefuteTree schema tests tree lines → (r : Request) → IsValid schema r → MakesYes tests tree r → ⊥
