-- Cores that were accepted, as a check keeps them.
use Rattle.std.specs.Prelude.{◌≡◌, ℕ, List, All, IsSome}
use Rattle.formula_tree.specs.Answers.{Answers, answer_of}
use Rattle.policy_model.specs.declared.schema.Schema.{Schema}
use Rattle.policy_model.specs.declared.test.Test.{Test}
use Rattle.slot_theory.specs.declared.outcome.SlotProof.{SlotProof}
use Rattle.slot_theory.specs.Cores.{Accepts}
use Rattle.refute_check.specs.declared.accepted.AcceptedCore.{AcceptedCore}
use Rattle.refute_check.specs.declared.accepted.AcceptedCores.{AcceptedCores}
use Rattle.refute_check.specs.Labels.{IsAnswered}

-- under each path that has its answers the core is accepted with its proof
abbrev pub IsAcceptedCore : Schema → List Test → AcceptedCore → Type 0
IsAcceptedCore schema tests a = (path : Answers) → All (IsAnswered path) a.answers → Accepts schema tests path a.core a.proof.value

-- each of the cores is
abbrev pub AreAcceptedCores : Schema → List Test → AcceptedCores → Type 0
AreAcceptedCores schema tests cores = All (IsAcceptedCore schema tests) cores.cores.items

-- the core is accepted with the proof under the path, by whichever schema and tests all of the cores are
abbrev pub IsAcceptedBeside : AcceptedCores → Answers → List ℕ → SlotProof → Type 0
IsAcceptedBeside cores path core proof = (schema : Schema) (tests : List Test) → AreAcceptedCores schema tests cores →
    Accepts schema tests path core proof

-- a core that is accepted with the proof under the path is kept beside those before
abbrev pub KeepsAccepted : AcceptedCores → Answers → List ℕ → SlotProof → AcceptedCores → Type 0
KeepsAccepted old path core proof new = (schema : Schema) (tests : List Test) → AreAcceptedCores schema tests old →
    Accepts schema tests path core proof → AreAcceptedCores schema tests new

-- the same of one
abbrev pub IsAcceptedWith : Answers → List ℕ → SlotProof → AcceptedCore → Type 0
IsAcceptedWith path core proof a = (schema : Schema) (tests : List Test) → Accepts schema tests path core proof →
    IsAcceptedCore schema tests a

-- the known core is this one, with answers that the path has, and the proof
abbrev pub IsKnownCore : AcceptedCore → Answers → List ℕ → SlotProof → Type 0
IsKnownCore a path core proof = (a.core ≡ core) × All (IsAnswered path) a.answers × (a.proof.value ≡ proof)

-- the other path answers the test as the path does, where the path answers it
abbrev pub FollowsAnswer : Answers → Answers → ℕ → Type 0
FollowsAnswer path other n = IsSome (answer_of path n) → answer_of path n ≡ answer_of other n

-- a path that has these answers answers each of the tests as the path does
abbrev pub AnswersFor : Answers → List ℕ → Answers → Type 0
AnswersFor path tests answers = (other : Answers) → All (IsAnswered other) answers → All (FollowsAnswer path other) tests

-- so it does to one test more
abbrev pub NotesAnswer : Answers → ℕ → Answers → Answers → Type 0
NotesAnswer path n old new = (other : Answers) → All (IsAnswered other) new →
    All (IsAnswered other) old × FollowsAnswer path other n
