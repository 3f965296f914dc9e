-- What an accepted core says of all requests.
use Rattle.std.specs.Prelude.{◌≡◌, ℕ, List, All}
use Rattle.formula_tree.specs.Answers.{Answers, answer_of}
use Rattle.policy_model.specs.declared.request.Request.{Request}
use Rattle.policy_model.specs.declared.schema.Schema.{Schema}
use Rattle.policy_model.specs.declared.test.Test.{Test}
use Rattle.policy_model.specs.Requests.{IsValid}
use Rattle.slot_theory.specs.declared.outcome.SlotProof.{SlotProof}
use Rattle.slot_theory.specs.Possible.{AnswersCore}
use Rattle.slot_theory.specs.Cores.{Accepts}

-- where a core and its proof are accepted under a path, no valid request answers the core's tests as the path does, whatever it
-- answers elsewhere
abbrev pub AcceptedCoresAreImpossible : Type 0
AcceptedCoresAreImpossible =
    (schema : Schema) (tests : List Test) (path : Answers) (core : List ℕ) (proof : SlotProof) →
    Accepts schema tests path core proof → (r : Request) → IsValid schema r → AnswersCore tests path core r → ⊥

-- the paths answer each test of the core alike
abbrev pub AnswerCoreAlike : List ℕ → Answers → Answers → Type 0
AnswerCoreAlike core path other = All (λ n. answer_of path n ≡ answer_of other n) core

-- where two paths answer each test of a core alike, it is accepted with its proof under both or under neither
abbrev pub AcceptsByTheCoreAlone : Type 0
AcceptsByTheCoreAlone =
    (schema : Schema) (tests : List Test) (path other : Answers) (core : List ℕ) (proof : SlotProof) →
    AnswerCoreAlike core path other → Accepts schema tests path core proof → Accepts schema tests other core proof
