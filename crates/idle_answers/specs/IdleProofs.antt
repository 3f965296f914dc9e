-- What a check of the certificate of an idle statement comes to.
use Rattle.std.specs.Prelude.{◌≤◌, length, Bool, String, string_bytes, if◌then◌else◌}
use Rattle.std.specs.declared.alloc.Global.{Global}
use Rattle.policy_model.specs.Requests.{HasValidRequest}
use Rattle.policy_model.specs.StatementNames.{Named}
use Rattle.proof_text.specs.declared.limits.TheConstants.{MOST_PROOF_BYTES}
use Rattle.run_inputs.specs.declared.one_set.OneSet.{OneSet}
use Rattle.run_inputs.specs.declared.pair.Pair.{Pair}
use Rattle.run_inputs.specs.Pairs.{pair_of_sets}
use Rattle.set_questions.specs.Removal.{without_statement}
use Rattle.compare_answers.specs.declared.answer.CheckAnswer.TheVariants.{Accepted}
use Rattle.compare_answers.specs.Decided.{IsChecked}
use Rattle.tree_search.specs.declared.outcome.Budgets.{Budgets}
use Rattle.idle_answers.specs.declared.answer.UseAnswer.TheVariants.{Proved}
use Rattle.idle_answers.specs.UseAnswers.{IsUseAnswer}

-- the pair whose query is the change query of a statement: of an Allow the set and the set without it, of a Deny the other way round
abbrev pub change_pair : OneSet → Named → Pair
change_pair one (name, s) =
    (if s.allow then pair_of_sets one.schema one.set (without_statement one.set name) else pair_of_sets one.schema (without_statement one.set name) one.set)

-- where the certificate of an idle statement is printed, a check of its pair answers that it is accepted, as long as it has at most as many
-- bytes as a certificate may have
abbrev pub IdleProofsAreAccepted : Type 0
IdleProofsAreAccepted = (certified : Bool) (budgets : Budgets) (one : OneSet) (named : Named) (text : String Global) →
    HasValidRequest one.schema → IsUseAnswer certified budgets one named (Proved text) →
    length (string_bytes text) ≤ MOST_PROOF_BYTES → IsChecked (string_bytes text) (change_pair one named) Accepted
