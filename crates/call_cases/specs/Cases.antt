-- Cases that may be asked of a slot.
use Rattle.std.specs.Prelude.{◌≡◌, ◌≢◌, ◌≤◌, ◌<◌, ℕ, Bool, Some, List, [], length, All}
use Rattle.formula_tree.specs.Answers.{Answers, answer_of}
use Rattle.wildcard_lang.specs.Text.{IsText}
use Rattle.policy_model.specs.declared.schema.Schema.{Schema}
use Rattle.policy_model.specs.declared.test.Test.{Test}
use Rattle.policy_model.specs.declared.value.Kind.{Kind}
use Rattle.policy_model.specs.declared.value.Kind.TheVariants.{Text}
use Rattle.policy_model.specs.declared.value.Value.{Value}
use Rattle.policy_model.specs.Requests.{IsOfKind}
use Rattle.policy_model.specs.Soundness.{IsKeyWith, IsShortValue, SchemaIsSound, TestSuits}
use Rattle.slot_theory.specs.Possible.{PathInRange}
use Rattle.call_cases.specs.declared.cases.Case.{Case}

-- three tests that suit a sound schema, and two paths that answer none but them
pub record IsCase (c : Case) : Type 0 where
  pub sound : SchemaIsSound c.schema.now
  pub suit : All (TestSuits c.schema.now) c.tests.now
  pub count : length c.tests.now ≡ 3
  pub range : PathInRange c.tests.now c.path.now
  pub other : PathInRange c.tests.now c.other.now

-- a text of at most 2,048 characters
pub record IsShortText (t : List ℕ) : Type 0 where
  pub text : IsText t
  pub short : length t ≤ 2048

-- texts of at most 2,048 characters, and at least one
pub record AreShortTexts (values : List Value) : Type 0 where
  pub some : values ≢ []
  pub texts : All (IsOfKind Text) values
  pub short : All IsShortValue values

-- the test suits each schema that has the key, with values of the kind
abbrev pub IsTestOf : List ℕ → Kind → Test → Type 0
IsTestOf key kind t = (schema : Schema) → IsKeyWith schema (λ rule. rule.kind ≡ kind) key → TestSuits schema t

-- the path answers none but tests below the number
abbrev pub AnswersBelow : Answers → ℕ → Type 0
AnswersBelow path i = (n : ℕ) (b : Bool) → answer_of path n ≡ Some b → n < i
