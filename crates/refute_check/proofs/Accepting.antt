-- Cores that were accepted are accepted wherever their tests are answered so.
use Rattle.std.proofs.Common.{◌≡◌, ℕ, List, [], ◌∷◌, ◌++◌, All, sym, subst}
use Rattle.std.proofs.lemmas.List.Elements.{All-push}
use Rattle.formula_tree.specs.Answers.{Answers}
use Rattle.policy_model.specs.declared.schema.Schema.{Schema}
use Rattle.policy_model.specs.declared.test.Test.{Test}
use Rattle.slot_theory.specs.declared.outcome.SlotProof.{SlotProof}
use Rattle.slot_theory.specs.Acceptance.{AnswerCoreAlike}
use Rattle.slot_theory.specs.Cores.{Accepts}
use Rattle.slot_theory.proofs.Laws.{accepts_alike}
use Rattle.refute_check.specs.declared.accepted.AcceptedCore.{AcceptedCore}
use Rattle.refute_check.specs.declared.accepted.AcceptedCores.{AcceptedCores}
use Rattle.refute_check.specs.Accepted.{AnswersFor, AreAcceptedCores, IsAcceptedCore, IsAcceptedWith}

module _ (path : Answers) (core : List ℕ) (proof : SlotProof) where
  -- one with the path's answers to its tests
  pub accepted-with : (a : AcceptedCore) → AnswersFor path core a.answers → a.core ≡ core → a.proof.value ≡ proof → IsAcceptedWith path core proof a
  accepted-with a follow same equal schema tests accepts other has =
      let follows = follow other has in
      let answered = accepts.conflict.core_is.answered in
      let alike : AnswerCoreAlike core path other = λ k d small. follows k d small (answered k d small) in
      let own = accepts_alike schema tests path other core proof alike accepts in
      subst (λ (p : SlotProof). Accepts schema tests other a.core p) (sym equal) (subst (λ (c : List ℕ). Accepts schema tests other c proof) (sym same) own)

  -- one more is kept
  pub accepted-more : (old : AcceptedCores) (items : List AcceptedCore) (a : AcceptedCore) → items ≡ old.cores.items ++ a ∷ [] → IsAcceptedWith path core proof a → (schema : Schema) (tests : List Test) → AreAcceptedCores schema tests old → Accepts schema tests path core proof → All (IsAcceptedCore schema tests) items
  accepted-more old items a is own schema tests all accepts =
      subst (λ (more : List AcceptedCore). All (IsAcceptedCore schema tests) more) (sym is) (All-push (IsAcceptedCore schema tests) old.cores.items a all (own schema tests accepts))
