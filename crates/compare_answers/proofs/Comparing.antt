-- What the search decides of a query, and what a certificate shows of it, says what the sets allow.
use Rattle.std.proofs.Common.{◌≡◌, ◌^◌, ◌≤◌, ℕ, Bool, List, [], ◌++◌, length, All, Option, Some, IfSome, false, slice_get, refl, ap, inl, inr, subst, sym, arith, Err}
use Rattle.std.specs.Prelude.{IsTrue, string_bytes}
use Rattle.std.proofs.Math.Pow.{pow_mono}
use Rattle.std.proofs.lemmas.Bool.{cases_Bool}
use Rattle.std.proofs.lemmas.List.Elements.{All-nil}
use Rattle.formula_tree.specs.Laws.{FewTestsFit}
use Rattle.formula_tree.specs.Values.{AreBelow, holds}
use Rattle.policy_model.specs.declared.request.Request.{Request}
use Rattle.policy_model.specs.declared.schema.Schema.{Schema}
use Rattle.policy_model.specs.declared.test.Test.{Test}
use Rattle.policy_model.specs.Requests.{HasValidRequest, IsValid}
use Rattle.policy_model.specs.Soundness.{TestSuits}
use Rattle.policy_compile.specs.declared.outcome.Query.{Query}
use Rattle.policy_compile.specs.Laws.{AsksPair}
use Rattle.policy_compile.specs.Meaning.{AnswersAs}
use Rattle.policy_compile.specs.Plans.{tests_in}
use Rattle.policy_compile.specs.Queries.{IsQuery, asked_tree}
use Rattle.policy_compile.proofs.Laws.{All-collects, below-numbered, holds-numbered, query-covers, query-holds, suit-query}
use Rattle.policy_compile.proofs.OneNumbering.{one-list}
use Rattle.query_reduction.specs.Values.{HasSameValue}
use Rattle.slot_theory.specs.Possible.{IsPossible}
use Rattle.refute_check.specs.Laws.{ClosedQueriesAreNo, MakesYes}
use Rattle.refute_check.specs.Proofs.{Proof, proof_of}
use Rattle.proof_text.specs.Faults.{proof_fault}
use Rattle.proof_text.specs.declared.fault.ProofAnswer.{ProofAnswer}
use Rattle.proof_text.specs.declared.fault.ProofAnswer.TheVariants as proof_answer
use Rattle.proof_text.specs.declared.fault.ProofFault.{ProofFault}
use Rattle.proof_text.specs.Laws.{ClosingProofsAreSmall, ClosingProofsHaveNoFault, HoldsSmallNumbers, limits_of}
use Rattle.proof_text.specs.Lines.{verdict_line}
use Rattle.proof_text.specs.Reads.{IsReadFrom, IsProofRead}
use Rattle.proof_text.specs.Spelling.{IsCertificateOf, certificate_text}
use Rattle.proof_text.specs.declared.limits.TheConstants.{MOST_NUMBER}
use Rattle.proof_text.specs.declared.read.ReadProof.{ReadProof}
use Rattle.tree_search.specs.declared.outcome.Budgets.{Budgets}
use Rattle.tree_search.specs.declared.outcome.Decided.{Decided}
use Rattle.tree_search.specs.declared.outcome.Decided.TheVariants as decided
use Rattle.tree_search.specs.Decisions.{IsDecision, IsRefutation}
use Rattle.tree_search.proofs.Laws.{makes-yes}
use Rattle.staged_search.specs.declared.verdict.Verdict.{Verdict}
use Rattle.staged_search.specs.declared.verdict.Verdict.TheVariants as verdict
use Rattle.staged_search.specs.Stages.{IsStagedVerdict}
use Rattle.formula_tree.specs.Trees as tree
use Rattle.request_json.specs.Laws.{WrittenRequestsAreReadAgain}
use Rattle.command_words.specs.declared.limits.TheConstants.{MOST_SPLITS}
use Rattle.run_inputs.specs.declared.pair.Pair.{Pair}
use Rattle.run_inputs.specs.Pairs.{IsFitting}
use Rattle.policy_model.specs.Requests.{IsWellKept}
use Rattle.compare_answers.specs.declared.answer.CheckAnswer.{CheckAnswer}
use Rattle.compare_answers.specs.declared.answer.CheckAnswer.TheVariants as check
use Rattle.compare_answers.specs.declared.answer.ComparisonAnswer.{ComparisonAnswer}
use Rattle.compare_answers.specs.declared.answer.ComparisonAnswer.TheVariants as answer
use Rattle.refute_check.specs.Queries.{ClosesAll}
use Rattle.compare_answers.specs.Certified.{Certifies, ClosesBy, FailsAtLine}
use Rattle.compare_answers.specs.Comparison.{Covers, FewTestsAreDecided, IsWitness, plan_of}
use Rattle.compare_answers.specs.Decided.{IsChecked, IsComparison, IsDecisionAnswer, IsRefutedAnswer, IsStagedAnswer, IsToldBy, IsVerdictOn, IsVerdictAnswer}

pub query_tests : (pair : Pair) (q : Query) → IsFitting pair → IsQuery (plan_of pair) q → All (TestSuits pair.schema) q.tests
query_tests pair q fitting is = All-collects (TestSuits pair.schema) [] (tests_in (plan_of pair)) q.tests is.tests (All-nil (TestSuits pair.schema)) (suit-query pair.schema pair.first pair.second fitting.first fitting.second)

pub query_below : (pair : Pair) (q : Query) → IsQuery (plan_of pair) q → AreBelow (length q.tests) (asked_tree q)
query_below pair q is = below-numbered q.tests (plan_of pair) (asked_tree q) is.tree

asks : (pair : Pair) (q : Query) (r : Request) (answers : ℕ → Bool) → IsFitting pair → IsQuery (plan_of pair) q → IsValid pair.schema r → AnswersAs answers r q.tests → AsksPair pair.schema pair.first pair.second r answers (asked_tree q)
asks pair q r answers fitting is valid say = record { first_fits = fitting.first; second_fits = fitting.second; valid = valid; tests = q.tests; say = say; numbered = is.tree }

-- a query that no valid request makes yes: the second set allows each valid request that the first allows
pub covers_if_unmet : (pair : Pair) (q : Query) → IsFitting pair → IsQuery (plan_of pair) q → ((r : Request) → IsValid pair.schema r → MakesYes q.tests (asked_tree q) r → ⊥) → Covers pair
covers_if_unmet pair q fitting is unmet r valid allowed =
    let some_yes : MakesYes q.tests tree.yes r = makes-yes q.tests tree.yes [] r (λ n b e. absurd (cc)) (λ n b t e at. absurd (cc)) refl in
    let total : ℕ → Bool = some_yes.0 in
    let say : AnswersAs total r q.tests = some_yes.1 in
    elim (cases_Bool (holds total (asked_tree q))) [
      | inl e ↦ absurd (unmet r valid (total, say, e))
      | inr e ↦ query-covers pair.schema pair.first pair.second r (asked_tree q) total (asks pair q r total fitting is valid say) e allowed
    ]

-- and one that a refutation closes
pub covers_if_closed : ClosedQueriesAreNo → (pair : Pair) (q : Query) (p : Proof) → IsFitting pair → IsQuery (plan_of pair) q → ClosesAll pair.schema q p → Covers pair
covers_if_closed law pair q p fitting is closes =
    covers_if_unmet pair q fitting is (λ r valid makes. law pair.schema q.tests (asked_tree q) p (query_below pair q is) closes r valid makes)

-- a request that makes the query yes is one that only the first set allows
pub witness_if_met : WrittenRequestsAreReadAgain → (pair : Pair) (q : Query) (r : Request) → IsFitting pair → IsQuery (plan_of pair) q → IsValid pair.schema r → MakesYes q.tests (asked_tree q) r → IsWellKept r → IsWitness pair r
witness_if_met written pair q r fitting is valid (total, answers, met) kept =
    let whole_says = holds-numbered total r q.tests answers (plan_of pair) (asked_tree q) is.tree in
    let both = (query-holds pair.schema r pair.first pair.second fitting.first fitting.second valid).0 (whole_says.0 met) in
    record { kept = kept; again = written pair.schema r kept valid; valid = valid; allowed = both.0; refused = both.1 }

-- the certificate of a refutation that closes the query is read again
certifies : ClosingProofsAreSmall → ClosingProofsHaveNoFault → (pair : Pair) (q : Query) (budgets : Budgets) (p : Proof) (text : List ℕ) → IsQuery (plan_of pair) q → pair.schema.version ≤ MOST_NUMBER → IsRefutation pair.schema q budgets.splits p → text ≡ certificate_text pair.schema.version p → HoldsSmallNumbers p → Certifies pair.schema q text
certifies sizes law pair q budgets p text is version h spelled small = record {
  proof = p;
  spelled = spelled;
  closes = h.closes;
  trimmed = h.trimmed;
  readable = λ short.
      let nests = h.nests in
      let few = is.few in
      let certificate : IsCertificateOf pair.schema.version (verdict_line ++ text) p = inr (ap (λ (t : List ℕ). verdict_line ++ t) spelled) in
      record {
        faultless = law pair.schema q.tests (asked_tree q) pair.schema.version p (verdict_line ++ text) h.closes (omega arith) small (omega arith) version certificate short;
        proof = p;
        spelled = certificate;
        small = sizes pair.schema q.tests (asked_tree q) pair.schema.version p (verdict_line ++ text) h.closes small (omega arith) version certificate short;
        closes = h.closes;
      };
}

refuted_if_closed : ClosedQueriesAreNo → ClosingProofsAreSmall → ClosingProofsHaveNoFault → (pair : Pair) → HasValidRequest pair.schema → (q : Query) (certified : Bool) (budgets : Budgets) (p : Proof) → IsFitting pair → IsQuery (plan_of pair) q → IsRefutation pair.schema q budgets.splits p → (a : ComparisonAnswer) → IsRefutedAnswer certified pair.schema.version p a → IsComparison certified budgets pair a
refuted_if_closed law sizes read pair some q certified budgets p fitting is h answer.NotMore v = (v, (q, is), (covers_if_closed law pair q p fitting is h.closes, some))
refuted_if_closed law sizes read pair some q certified budgets p fitting is h (answer.Proved text) (asked, spelled, small, version) =
    (asked, record { query = q; is = is; holds = certifies sizes read pair q budgets p (string_bytes text) is version h spelled small }, (covers_if_closed law pair q p fitting is h.closes, some))
refuted_if_closed law sizes read pair some q certified budgets p fitting is h _ v = absurd v

pub comparison_if_decided : ClosedQueriesAreNo → ClosingProofsAreSmall → ClosingProofsHaveNoFault → WrittenRequestsAreReadAgain → (pair : Pair) → HasValidRequest pair.schema → (q : Query) (certified : Bool) (budgets : Budgets) (d : Decided) → IsFitting pair → IsQuery (plan_of pair) q → IsDecision pair.schema q budgets d → (a : ComparisonAnswer) → IsDecisionAnswer certified pair.schema.version budgets d a → IsComparison certified budgets pair a
comparison_if_decided law sizes read written pair some q certified budgets (decided.Refuted r) fitting is h a v = refuted_if_closed law sizes read pair some q certified budgets (proof_of r.value) fitting is h a v
comparison_if_decided law sizes read written pair some q certified budgets (decided.Met r) fitting is h a v = subst (λ (x : ComparisonAnswer). IsComparison certified budgets pair x) (sym v.0) ((q, is), witness_if_met written pair q r fitting is h.valid h.meets v.1)
comparison_if_decided law sizes read written pair some q certified budgets decided.OutOfSplits fitting is h a v = subst (λ (x : ComparisonAnswer). IsComparison certified budgets pair x) (sym v) (refl, record { query = q; is = is; holds = h })
comparison_if_decided law sizes read written pair some q certified budgets (decided.OutOfStates w) fitting is h a v = subst (λ (x : ComparisonAnswer). IsComparison certified budgets pair x) (sym v) (refl, record { query = q; is = is; path = w.path; node = h.node; not_no = h.not_no; asked = h.asked; wider = (w.texts, h.texts) })

-- what makes a reduced query yes makes the query yes
yes-of-reduced : (schema : Schema) (q less : Query) (r : Request) → less.tests ≡ q.tests → HasSameValue schema q.tests (asked_tree q) (asked_tree less) → IsValid schema r → MakesYes less.tests (asked_tree less) r → MakesYes q.tests (asked_tree q) r
yes-of-reduced schema q less r tests same valid (total, say, met) =
    let say_too : AnswersAs total r q.tests = subst (λ (ts : List Test). AnswersAs total r ts) tests say in
    (total, say_too, subst (λ (b : Bool). IsTrue b) (sym (same r total valid say_too)) met)

-- and the other way round
yes-of-whole : (schema : Schema) (q less : Query) (r : Request) → less.tests ≡ q.tests → HasSameValue schema q.tests (asked_tree q) (asked_tree less) → IsValid schema r → MakesYes q.tests (asked_tree q) r → MakesYes less.tests (asked_tree less) r
yes-of-whole schema q less r tests same valid (total, say, met) =
    (total, subst (λ (ts : List Test). AnswersAs total r ts) (sym tests) say, subst (λ (b : Bool). IsTrue b) (same r total valid say) met)

-- what its reduced query tells is a verdict on a pair
pub told_if_staged : WrittenRequestsAreReadAgain → (pair : Pair) (q less : Query) (budgets : Budgets) (v : Verdict) → IsFitting pair → IsQuery (plan_of pair) q → less.tests ≡ q.tests → HasSameValue pair.schema q.tests (asked_tree q) (asked_tree less) → IsStagedVerdict pair.schema less budgets v → (told : Option ComparisonAnswer) → IsToldBy v told → IfSome told (IsVerdictOn pair)
told_if_staged written pair q less budgets verdict.Nobody fitting is tests same h told e =
    subst (λ (x : Option ComparisonAnswer). IfSome x (IsVerdictOn pair)) (sym e)
    (covers_if_unmet pair q fitting is (λ r valid makes. h r valid (yes-of-whole pair.schema q less r tests same valid makes)))
told_if_staged written pair q less budgets (verdict.Met r) fitting is tests same h told e =
    subst (λ (x : Option ComparisonAnswer). IfSome x (IsVerdictOn pair)) (sym e.0)
    (witness_if_met written pair q r fitting is h.valid (yes-of-reduced pair.schema q less r tests same h.valid h.meets) e.1)
told_if_staged written pair q less budgets verdict.OutOfSplits fitting is tests same h told e = subst (λ (x : Option ComparisonAnswer). IfSome x (IsVerdictOn pair)) (sym e) tt
told_if_staged written pair q less budgets (verdict.OutOfStates w) fitting is tests same h told e = subst (λ (x : Option ComparisonAnswer). IfSome x (IsVerdictOn pair)) (sym e) tt

-- what its query comes to in stages is a comparison of a pair
pub comparison_if_staged : WrittenRequestsAreReadAgain → (pair : Pair) → HasValidRequest pair.schema → (q : Query) (budgets : Budgets) (v : Verdict) → IsFitting pair → IsQuery (plan_of pair) q → IsStagedVerdict pair.schema q budgets v → (a : ComparisonAnswer) → IsStagedAnswer budgets v a → IsComparison false budgets pair a
comparison_if_staged written pair some q budgets verdict.Nobody fitting is h a e = subst (λ (x : ComparisonAnswer). IsComparison false budgets pair x) (sym e) (refl, (q, is), (covers_if_unmet pair q fitting is h, some))
comparison_if_staged written pair some q budgets (verdict.Met r) fitting is h a e = subst (λ (x : ComparisonAnswer). IsComparison false budgets pair x) (sym e.0) ((q, is), witness_if_met written pair q r fitting is h.valid h.meets e.1)
comparison_if_staged written pair some q budgets verdict.OutOfSplits fitting is h a e = subst (λ (x : ComparisonAnswer). IsComparison false budgets pair x) (sym e) (refl, record { query = q; is = is; holds = h })
comparison_if_staged written pair some q budgets (verdict.OutOfStates w) fitting is h a e = subst (λ (x : ComparisonAnswer). IsComparison false budgets pair x) (sym e) (refl, record { query = q; is = is; path = w.path; node = h.node; not_no = h.not_no; asked = h.asked; wider = (w.texts, h.texts) })

-- a verdict is a comparison, where the pair has a query
pub comparison_if_verdict : (pair : Pair) → HasValidRequest pair.schema → (q : Query) (budgets : Budgets) → IsQuery (plan_of pair) q → (a : ComparisonAnswer) → IsVerdictOn pair a → IsComparison false budgets pair a
comparison_if_verdict pair some q budgets is answer.NotMore v = (refl, (q, is), (v, some))
comparison_if_verdict pair some q budgets is (answer.More r) v = ((q, is), v)
comparison_if_verdict pair some q budgets is _ v = absurd v

-- what a certificate that was read says of the sets
pub checked_if_read : ClosedQueriesAreNo → (pair : Pair) → HasValidRequest pair.schema → (q : Query) (bytes : List ℕ) (read : ReadProof) → IsFitting pair → IsQuery (plan_of pair) q → IsReadFrom (limits_of q.tests pair.schema.version) bytes read → (a : CheckAnswer) → IsVerdictAnswer pair.schema q read a → IsChecked bytes pair a
checked_if_read law pair some q bytes read fitting is from check.Accepted v =
    let by : ClosesBy pair.schema q bytes = record { faultless = from.faultless; proof = proof_of read.refutation.value; spelled = from.spelled; small = from.small; closes = v } in
    (record { query = q; is = is; holds = by }, (covers_if_closed law pair q (proof_of read.refutation.value) fitting is v, some))
checked_if_read law pair some q bytes read fitting is from (check.NotClosing line) (node, fails, here) =
    let at : FailsAtLine pair.schema q bytes line = record {
      faultless = from.faultless;
      proof = proof_of read.refutation.value;
      spelled = from.spelled;
      small = from.small;
      node = node;
      fails = fails;
      line_is = subst (λ (ls : List ℕ). slice_get ls node ≡ Some line) from.lines here;
    } in
    record { query = q; is = is; holds = at }
checked_if_read law pair some q bytes read fitting is from _ v = absurd v

-- a query of few tests needs no more splits than there may be
pub few_tests_fit : (schema : Schema) (q : Query) → FewTestsFit (IsPossible schema q.tests) → FewTestsAreDecided schema q
few_tests_fit schema q fit pair under is few needs =
    let same : needs.query.tests ≡ q.tests = one-list [] (tests_in (plan_of pair)) needs.query.tests q.tests needs.is.tests is.tests in
    let fit_there : FewTestsFit (IsPossible pair.schema q.tests) = subst (λ (s : Schema). FewTestsFit (IsPossible s q.tests)) (sym under) fit in
    let fit_too : FewTestsFit (IsPossible pair.schema needs.query.tests) = subst (λ (ts : List Test). FewTestsFit (IsPossible pair.schema ts)) (sym same) fit_there in
    let below = below-numbered needs.query.tests (plan_of pair) (asked_tree needs.query) needs.is.tree in
    let few_too : length needs.query.tests ≤ 19 = subst (λ (ts : List Test). length ts ≤ 19) (sym same) few in
    let answers : 2 ^ length needs.query.tests ≤ 2 ^ 19 = pow_mono few_too in
    fit_too (asked_tree needs.query) (length needs.query.tests) MOST_SPLITS below (omega arith) needs.holds

-- the first fault of a certificate that isn't read is what is answered
pub bad-proof : (pair : Pair) (q : Query) (bytes : List ℕ) (tests : ℕ) (unread : ProofAnswer) (fault : ProofFault) → IsQuery (plan_of pair) q → IsProofRead (record { tests = tests; version = pair.schema.version }) bytes (Err unread) → unread ≡ proof_answer.Refused fault → tests ≡ length q.tests → IsChecked bytes pair (check.BadProof fault)
bad-proof pair q bytes tests unread fault is read refused count =
    let told : IsProofRead (record { tests = tests; version = pair.schema.version }) bytes (Err (proof_answer.Refused fault)) = subst (λ (a : ProofAnswer). IsProofRead (record { tests = tests; version = pair.schema.version }) bytes (Err a)) refused read in
    record { query = q; is = is; holds = subst (λ (n : ℕ). proof_fault (record { tests = n; version = pair.schema.version }) bytes ≡ Some fault) count told }
