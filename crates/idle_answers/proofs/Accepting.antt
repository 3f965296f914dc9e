-- The certificate of an idle statement is accepted.
use Rattle.std.proofs.Common.{◌≤◌, Bool, true, false, List, ℕ, length, inl}
use Rattle.std.specs.Prelude.{if◌then◌else◌, string_bytes}
use Rattle.policy_model.specs.declared.schema.Schema.{Schema}
use Rattle.policy_model.specs.declared.set.PolicySet.{PolicySet}
use Rattle.policy_model.specs.declared.set.StatementName.{StatementName}
use Rattle.policy_model.specs.Requests.{HasValidRequest}
use Rattle.policy_compile.specs.declared.outcome.Query.{Query}
use Rattle.policy_compile.specs.Queries.{IsQuery}
use Rattle.policy_compile.specs.Sets.{query_plan}
use Rattle.proof_text.specs.declared.limits.TheConstants.{MOST_PROOF_BYTES}
use Rattle.run_inputs.specs.Pairs.{pair_of_sets}
use Rattle.set_questions.specs.Idle.{IsIdle}
use Rattle.set_questions.specs.Removal.{without_statement}
use Rattle.compare_answers.specs.declared.answer.CheckAnswer.TheVariants.{Accepted}
use Rattle.compare_answers.specs.Certified.{ClosesBy}
use Rattle.compare_answers.specs.Decided.{IsChecked}
use Rattle.idle_answers.specs.IdleProofs.{IdleProofsAreAccepted}
use Rattle.idle_answers.specs.UseAnswers.{CertifiesChange}

-- a certificate of the query closes it as a file
closes_by : (schema : Schema) (q : Query) (text : List ℕ) → length text ≤ MOST_PROOF_BYTES → CertifiesChange schema text q → ClosesBy schema q text
closes_by schema q text short by =
    let again = by.readable short in
    record { faultless = again.faultless; proof = by.proof; spelled = inl by.spelled; small = again.small; closes = by.closes }

-- the query of the pair in this order, by the statement's effect
accepted_by : (schema : Schema) (set : PolicySet) (name : StatementName) (text : List ℕ) (allow : Bool) (q : Query) → HasValidRequest schema → IsIdle schema set name
    → IsQuery (if allow then query_plan schema set (without_statement set name) else query_plan schema (without_statement set name) set) q → ClosesBy schema q text
    → IsChecked text (if allow then pair_of_sets schema set (without_statement set name) else pair_of_sets schema (without_statement set name) set) Accepted
accepted_by schema set name text true q some idle is closes = (record { query = q; is = is; holds = closes }, (λ r valid allowed. (idle r valid).0 allowed, some))
accepted_by schema set name text false q some idle is closes = (record { query = q; is = is; holds = closes }, (λ r valid allowed. (idle r valid).1 allowed, some))

pub idle_proofs_are_accepted : IdleProofsAreAccepted
idle_proofs_are_accepted certified budgets one (name, s) text some (asked, idle, of) short =
    accepted_by one.schema one.set name (string_bytes text) s.allow of.query some idle of.is (closes_by one.schema of.query (string_bytes text) short of.holds)
