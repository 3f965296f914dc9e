-- What a comparison of two sets may answer, and a check of a certificate.
use Rattle.std.specs.Prelude.{◌≡◌, ◌≤◌, ℕ, List, slice_get, Bool, true, false, Option, Some, None, string_bytes}
use Rattle.policy_compile.specs.declared.outcome.Query.{Query}
use Rattle.policy_model.specs.declared.schema.Schema.{Schema}
use Rattle.proof_text.specs.Laws.{HoldsSmallNumbers}
use Rattle.proof_text.specs.Spelling.{certificate_text}
use Rattle.proof_text.specs.declared.limits.TheConstants.{MOST_NUMBER}
use Rattle.proof_text.specs.declared.read.ReadProof.{ReadProof}
use Rattle.refute_check.specs.Proofs.{Proof, proof_of}
use Rattle.tree_search.specs.declared.outcome.Budgets.{Budgets}
use Rattle.tree_search.specs.declared.outcome.Decided.{Decided}
use Rattle.tree_search.specs.declared.outcome.Decided.TheVariants as decided
use Rattle.staged_search.specs.declared.verdict.Verdict.{Verdict}
use Rattle.staged_search.specs.declared.verdict.Verdict.TheVariants as verdict
use Rattle.run_inputs.specs.declared.pair.Pair.{Pair}
use Rattle.run_inputs.specs.declared.refusal.Refusal.{Refusal}
use Rattle.run_inputs.specs.declared.shortage.Shortage.TheVariants.{Splits, States}
use Rattle.policy_model.specs.Requests.{IsWellKept}
use Rattle.compare_answers.specs.declared.answer.CheckAnswer.{CheckAnswer}
use Rattle.compare_answers.specs.declared.answer.CheckAnswer.TheVariants.{Accepted, NotClosing, BadProof}
use Rattle.compare_answers.specs.declared.answer.ComparisonAnswer.{ComparisonAnswer}
use Rattle.compare_answers.specs.declared.answer.ComparisonAnswer.TheVariants.{NotMore, Proved, More, Undecided}
use Rattle.refute_check.specs.Queries.{ClosesAll, FailsAll}
use Rattle.run_inputs.specs.PastLimits.{IsPlanPastLimit}
use Rattle.compare_answers.specs.Certified.{Certifies, ClosesBy, FailsAtLine, HasProofFault}
use Rattle.compare_answers.specs.Comparison.{Covers, CoversAll, HasQuery, IsWitness, NeedsSplits, NeedsStates, SomeQuery, plan_of}

-- a limit that the query is past
abbrev pub IsPastLimit : Pair → Refusal → Type 0
IsPastLimit pair = IsPlanPastLimit (plan_of pair)

-- a budget that is too small, or a comparison, which comes only where the query is within its limits, with a certificate where one is
-- asked for
abbrev pub IsComparison : Bool → Budgets → Pair → ComparisonAnswer → Type 0
IsComparison certified budgets pair (Undecided (Splits n)) = (n ≡ budgets.splits) × NeedsSplits pair n
IsComparison certified budgets pair (Undecided (States n s)) = (n ≡ budgets.states) × NeedsStates pair n s
IsComparison certified budgets pair NotMore = (certified ≡ false) × HasQuery pair × CoversAll pair
IsComparison certified budgets pair (Proved text) =
    (certified ≡ true) × SomeQuery pair (λ q. Certifies pair.schema q (string_bytes text)) × CoversAll pair
IsComparison certified budgets pair (More q) = HasQuery pair × IsWitness pair q

-- the certificate's first fault, or the line of its first node that fails; or that it closes the query, and then the second set allows
-- each valid request that the first allows, whoever wrote it
abbrev pub IsChecked : List ℕ → Pair → CheckAnswer → Type 0
IsChecked bytes pair (BadProof fault) = SomeQuery pair (λ q. HasProofFault pair.schema q bytes fault)
IsChecked bytes pair (NotClosing line) = SomeQuery pair (λ q. FailsAtLine pair.schema q bytes line)
IsChecked bytes pair Accepted = SomeQuery pair (λ q. ClosesBy pair.schema q bytes) × CoversAll pair

-- the answer to a refutation, with its certificate where one is asked for
abbrev pub IsRefutedAnswer : Bool → ℕ → Proof → ComparisonAnswer → Type 0
IsRefutedAnswer certified version proof NotMore = certified ≡ false
IsRefutedAnswer certified version proof (Proved text) =
    (certified ≡ true) × (string_bytes text ≡ certificate_text version proof) × HoldsSmallNumbers proof × (version ≤ MOST_NUMBER)
IsRefutedAnswer certified version proof _ = ⊥

-- the answer to what a search decided
abbrev pub IsDecisionAnswer : Bool → ℕ → Budgets → Decided → ComparisonAnswer → Type 0
IsDecisionAnswer certified version budgets (decided.Refuted r) answer = IsRefutedAnswer certified version (proof_of r.value) answer
IsDecisionAnswer certified version budgets (decided.Met q) answer = (answer ≡ More q) × IsWellKept q
IsDecisionAnswer certified version budgets decided.OutOfSplits answer = answer ≡ Undecided (Splits budgets.splits)
IsDecisionAnswer certified version budgets (decided.OutOfStates w) answer = answer ≡ Undecided (States budgets.states w.slot)

-- the verdict on two sets
abbrev pub IsVerdictOn : Pair → ComparisonAnswer → Type 0
IsVerdictOn pair NotMore = Covers pair
IsVerdictOn pair (More q) = IsWitness pair q
IsVerdictOn pair _ = ⊥

-- the answer to what a query that is decided in stages comes to within the budgets
abbrev pub IsStagedAnswer : Budgets → Verdict → ComparisonAnswer → Type 0
IsStagedAnswer budgets verdict.Nobody answer = answer ≡ NotMore
IsStagedAnswer budgets (verdict.Met q) answer = (answer ≡ More q) × IsWellKept q
IsStagedAnswer budgets verdict.OutOfSplits answer = answer ≡ Undecided (Splits budgets.splits)
IsStagedAnswer budgets (verdict.OutOfStates w) answer = answer ≡ Undecided (States budgets.states w.slot)

-- what it tells of the pair, where it is decided
abbrev pub IsToldBy : Verdict → Option ComparisonAnswer → Type 0
IsToldBy verdict.Nobody told = told ≡ Some NotMore
IsToldBy (verdict.Met q) told = (told ≡ Some (More q)) × IsWellKept q
IsToldBy verdict.OutOfSplits told = told ≡ None
IsToldBy (verdict.OutOfStates w) told = told ≡ None

-- the answer to a certificate that was read
abbrev pub IsVerdictAnswer : Schema → Query → ReadProof → CheckAnswer → Type 0
IsVerdictAnswer schema q read Accepted = ClosesAll schema q (proof_of read.refutation.value)
IsVerdictAnswer schema q read (NotClosing line) =
    (node : ℕ) × FailsAll schema q (proof_of read.refutation.value) node × (slice_get read.lines node ≡ Some line)
IsVerdictAnswer schema q read _ = ⊥
