-- What is printed of a summary with a certificate is accepted.
use Rattle.std.proofs.Common.{◌≡◌, ◌≤◌, ◌++◌, ◌∙◌, ℕ, List, [], length, All, Some, None, ap, arith, inl, inr, refl, subst, sym}
use Rattle.std.specs.Prelude.{string_bytes}
use Rattle.std.proofs.lemmas.List.{length-append}
use Rattle.command_words.specs.declared.limits.TheConstants.{MOST_FINDINGS}
use Rattle.formula_tree.specs.Trees as tree
use Rattle.policy_compile.specs.declared.outcome.Query.{Query}
use Rattle.policy_compile.specs.Limits.{QueriesAreWithinLimits}
use Rattle.policy_compile.specs.Plans.{tests_in}
use Rattle.policy_compile.specs.Queries.{IsQuery, asked_tree}
use Rattle.policy_model.specs.declared.request.Request.{Request}
use Rattle.policy_model.specs.declared.schema.Schema.{Schema}
use Rattle.policy_model.specs.declared.test.Test.{Test}
use Rattle.proof_text.specs.Faults.{fault_after}
use Rattle.proof_text.specs.Laws.{ClosingProofsAreSmall, ClosingProofsHaveNoFaultBehind, IsSmall, OneProofForEachText, limits_of}
use Rattle.proof_text.specs.LineForms.{bytes_after, ended_lines}
use Rattle.proof_text.specs.Spelling.{certificate_text}
use Rattle.proof_text.specs.declared.fault.ProofFault.{ProofFault}
use Rattle.proof_text.specs.declared.limits.TheConstants.{MOST_PROOF_BYTES}
use Rattle.proof_text.proofs.Ended.{behind_again}
use Rattle.read_predicates.specs.Laws.{FindingsAreWrittenApart}
use Rattle.refute_check.specs.Closing.{FailsAt, at_first}
use Rattle.refute_check.specs.Proofs.{Proof}
use Rattle.refute_check.proofs.Laws.{fails-not-closes}
use Rattle.strata.specs.Causes.{AreFew}
use Rattle.strata.specs.declared.names.TheConstants.{MOST_PREDICATES}
use Rattle.strata.specs.Laws.{StrataAreDetermined}
use Rattle.strata.specs.Strata.{AreStrata, IsStratum}
use Rattle.strata.specs.declared.stratum.Strata.{Strata}
use Rattle.strata.specs.declared.stratum.Stratum.{Stratum}
use Rattle.findings.specs.declared.region.Region.{Region}
use Rattle.findings.specs.CoverLaws.{SummariesStand, SummaryVerdictsAreEqual}
use Rattle.findings.specs.CoverQueries.{IsCoverQuery, cover_plan}
use Rattle.findings.specs.Regions.{region_plan}
use Rattle.findings.specs.StandingSummaries.{IsFirstFailing, SummaryStands}
use Rattle.findings.specs.Summaries.{findings_of}
use Rattle.findings.specs.declared.standing.SummaryVerdict.TheVariants.{Stands, Fails}
use Rattle.summary_search.specs.declared.outcome.Limits.{Limits}
use Rattle.summary_search.specs.declared.outcome.Outcome.{Outcome}
use Rattle.summary_search.specs.declared.outcome.Outcome.TheVariants as outcome
use Rattle.run_inputs.specs.declared.printed.Printed.{Printed}
use Rattle.run_inputs.specs.declared.status.Status.{Status}
use Rattle.run_inputs.specs.declared.status.Status.TheVariants as status
use Rattle.run_inputs.specs.Printing.{PrintsText}
use Rattle.run_inputs.specs.declared.refusal.Refusal.{Refusal}
use Rattle.run_inputs.specs.OneSets.{one_of}
use Rattle.run_inputs.specs.Refusals.{IsRefusedBy}
use Rattle.run_inputs.proofs.Laws.{no_one_fails, of_same_set}
use Rattle.summary_answers.specs.declared.answer.Found.{Found}
use Rattle.summary_answers.specs.declared.subject.Subject.{Subject}
use Rattle.summary_answers.specs.Dimensions.{dimension_slots}
use Rattle.summary_answers.specs.FindingTexts.{found_text}
use Rattle.summary_answers.specs.Found.{IsFoundOf, IsNotFound, IsNotSummarised, PrintsUnfound}
use Rattle.summary_answers.specs.Printed.{always_holds, limits_in}
use Rattle.summary_answers.specs.Subjects.{subject_of_set, subject_plan}
use Rattle.refute_check.specs.Queries.{FailsAll}
use Rattle.run_inputs.specs.CertificateLines.{accepted_line}
use Rattle.summary_answers.proofs.Laws.{found_have_findings}
use Rattle.certified_summaries.specs.Certified.{IsCoverSaid, large_query, short_of_splits, short_of_states, with_certificate}
use Rattle.certified_summaries.specs.CoverProofs.{CertifiesCover, CoverIsTooLarge, FailsBehindAt, OfCover, fault_of_cover}
use Rattle.certified_summaries.specs.Decides.{CertifiedSubjectsAreAccepted, HoldsOrFails, NameFew, PrintedSummariesAreAccepted}
use Rattle.certified_summaries.specs.Heads.{IsHead, head_lines}
use Rattle.certified_summaries.specs.Judged.{IsJudged, IsListJudged, IsSubjectChecked, all_holds, bad_certificate, failing_node, failing_pair, large_cover}
use Rattle.certified_summaries.specs.Made.{AreNarrow}
use Rattle.certified_summaries.proofs.Heads.{AreTextsApart, head-count, head-text, head-unbroken, head_contents, no-head_fault, one-head, printed-head}
use Rattle.certified_summaries.proofs.Laws.{not_made_fails}
use Rattle.policy_compile.proofs.OneNumbering.{few-enough, one-list, same-tree}

-- ---- what ends a summary early is no answer

no-answer : (p : Printed) (s : Status) → p.status ≡ s → ¬ (s ≡ status.Holds) → ¬ (s ≡ status.Fails) → HoldsOrFails p → ⊥
no-answer p s is one other (inl holds) = one (sym is ∙ holds)
no-answer p s is one other (inr fails) = other (sym is ∙ fails)

not-refused : (p : Printed) → p.status ≡ status.Refused → HoldsOrFails p → ⊥
not-refused p is answered = no-answer p status.Refused is (λ e. absurd (cc)) (λ e. absurd (cc)) answered

not-undecided : (p : Printed) → p.status ≡ status.Undecided → HoldsOrFails p → ⊥
not-undecided p is answered = no-answer p status.Undecided is (λ e. absurd (cc)) (λ e. absurd (cc)) answered

unfound-not : (names : List (List ℕ)) (limits : Limits) (o : Outcome) (p : Printed) → PrintsUnfound names limits o p → HoldsOrFails p → ⊥
unfound-not names limits (outcome.Found strata summary) p told answered = told
unfound-not names limits (outcome.TooManyPredicates d) p told answered = not-refused p told.1 answered
unfound-not names limits (outcome.Wide s texts) p told answered = not-undecided p told.1 answered
unfound-not names limits outcome.OutOfFindings p told answered = not-undecided p told.1 answered
unfound-not names limits (outcome.OutOfSplits strata f) p told answered = not-undecided p told.1 answered
unfound-not names limits (outcome.OutOfStates strata f w) p told answered = not-undecided p told.1 answered

refused-not : (Q : Refusal → Type 0) (p : Printed) → IsRefusedBy Q p → HoldsOrFails p → ⊥
refused-not Q p (r, is, told) answered = not-refused p told.1 answered

summarised-not : (names : List (List ℕ)) (limits : Limits) (subject : Subject) (p : Printed) → IsNotSummarised names limits subject p → HoldsOrFails p → ⊥
summarised-not names limits subject p (inl past) answered = refused-not _ p past answered
summarised-not names limits subject p (inr un) answered = unfound-not names limits un.came p un.prints answered

found-not : (names : List (List ℕ)) (limits : Limits) (subject : Subject) (p : Printed) → IsNotFound names limits subject p → HoldsOrFails p → ⊥
found-not names limits subject p (inl unknown) answered = not-refused p unknown.prints.1 answered
found-not names limits subject p (inr known) answered = summarised-not names limits subject p known.1 answered

-- a certificate of the cover of what was found is printed
record Certifies (limits : Limits) (subject : Subject) (found : Found) (p : Printed) : Type 0 where
  text : List ℕ
  of : OfCover subject.schema subject.region found.strata.dimensions (findings_of found.summary) (λ q. CertifiesCover subject.schema q text)
  prints : string_bytes p.text ≡ found_text found ++ text

certifies : (s : Status) (limits : Limits) (subject : Subject) (found : Found) (p : Printed) → IsCoverSaid s limits subject found p → HoldsOrFails p → Certifies limits subject found p
certifies s limits subject found p (large_query large told) answered = absurd (not-refused p told.1 answered)
certifies s limits subject found p (short_of_splits of told) answered = absurd (not-undecided p told.1 answered)
certifies s limits subject found p (short_of_states of told) answered = absurd (not-undecided p told.1 answered)
certifies s limits subject found p (with_certificate {text = text} of told) answered = record { text = text; of = of; prints = told.0 }

-- ---- covers of the same findings

module _ (schema : Schema) (region : Region) (ds : List Stratum) (fs : List (List ℕ)) (q r : Query) (is : IsCoverQuery (region_plan schema region) ds fs q) (other : IsCoverQuery (region_plan schema region) ds fs r) where
  cover-tests : q.tests ≡ r.tests
  cover-tests = one-list [] (tests_in (cover_plan (region_plan schema region) ds fs)) q.tests r.tests is.tests other.tests

  cover-tree : asked_tree q ≡ asked_tree r
  cover-tree = same-tree (cover_plan (region_plan schema region) ds fs) q.tests r.tests (asked_tree q) (asked_tree r) is.tests other.tests is.tree other.tree

  fails-too : (p : Proof) (node : ℕ) → FailsAll schema r p node → FailsAll schema q p node
  fails-too p node fails =
      subst (λ (t : tree.Tree). FailsAt schema q.tests t at_first p [] node) (sym cover-tree)
      (subst (λ (ts : List Test). FailsAt schema ts (asked_tree r) at_first p [] node) (sym cover-tests) fails)

  fault-too : (n : ℕ) (bytes : List ℕ) → fault_of_cover schema q n bytes ≡ fault_of_cover schema r n bytes
  fault-too n bytes = ap (λ (ts : List Test). fault_after (limits_of ts schema.version) n bytes) cover-tests

cover-small : (schema : Schema) (region : Region) (ds : List Stratum) (fs : List (List ℕ)) (q : Query) → IsCoverQuery (region_plan schema region) ds fs q → CoverIsTooLarge schema region ds fs → ⊥
cover-small schema region ds fs q is large = few-enough (tests_in (cover_plan (region_plan schema region) ds fs)) q.tests is.tests is.few large

-- ---- the certificate is read again

record Reads (schema : Schema) (q : Query) (front : ℕ) (bytes : List ℕ) (proof : Proof) : Type 0 where
  faultless : fault_of_cover schema q front bytes ≡ None
  spelled : bytes_after front bytes ≡ certificate_text schema.version proof

module _ (none : ClosingProofsHaveNoFaultBehind) (limits : Limits) (subject : Subject) (found : Found) (p : Printed) (by : Certifies limits subject found p) (few : length found.summary ≤ MOST_FINDINGS) (short : length (string_bytes p.text) ≤ MOST_PROOF_BYTES) where
  abbrev Ds : List Stratum
  Ds = found.strata.dimensions

  abbrev Holds : CertifiesCover subject.schema by.of.query by.text
  Holds = by.of.holds

  whole : string_bytes p.text ≡ ended_lines (head_contents Ds found.summary) ++ certificate_text subject.schema.version Holds.proof
  whole = by.prints ∙ ap (λ (t : List ℕ). t ++ by.text) (head-text found) ∙ ap (λ (t : List ℕ). ended_lines (head_contents Ds found.summary) ++ t) Holds.spelled

  reads : Reads subject.schema by.of.query (head_lines found.summary) (string_bytes p.text) Holds.proof
  reads =
      let unbroken = head-unbroken Ds found.summary few in
      let contents = head_contents Ds found.summary in
      let q = by.of.query in
      let version = subject.schema.version in
      let small = by.of.is.few in
      let text = ended_lines contents ++ certificate_text version Holds.proof in
      let fits : length text ≤ MOST_PROOF_BYTES = subst (λ (bs : List ℕ). length bs ≤ MOST_PROOF_BYTES) whole short in
      let faultless : fault_after (limits_of q.tests version) (length contents) text ≡ None =
      none subject.schema q.tests (asked_tree q) version Holds.proof contents Holds.closes Holds.nests Holds.small (omega arith) Holds.version unbroken fits in
      record {
        faultless =
            ap (fault_of_cover subject.schema q (head_lines found.summary)) whole ∙ ap (λ (n : ℕ). fault_of_cover subject.schema q n text) (sym (head-count Ds found.summary)) ∙ faultless;
        spelled =
            ap (bytes_after (head_lines found.summary)) whole ∙ ap (λ (n : ℕ). bytes_after n text) (sym (head-count Ds found.summary)) ∙
            behind_again contents (certificate_text version Holds.proof) unbroken;
      }

-- ---- it is accepted

module _ (none : ClosingProofsHaveNoFaultBehind) (sizes : ClosingProofsAreSmall) (law : OneProofForEachText) (stand : SummariesStand) (equal : SummaryVerdictsAreEqual) (names : List (List ℕ)) (limits : Limits) (subject : Subject) (found : Found) (p : Printed) (is : IsFoundOf names limits subject found) (by : Certifies limits subject found p) (few : length found.summary ≤ MOST_FINDINGS) (short : length (string_bytes p.text) ≤ MOST_PROOF_BYTES) where
  abbrev Of : List (List ℕ)
  Of = findings_of found.summary

  read-again : Reads subject.schema by.of.query (head_lines found.summary) (string_bytes p.text) by.of.holds.proof
  read-again = reads none limits subject found p by few short

  stands : SummaryStands subject.schema subject.region found.strata.dimensions found.summary
  stands = stand subject.schema subject.region found.strata found.summary (record { base = found.query; made = is.made; is = is.summary })

  no-failing : (place : ℕ) → IsFirstFailing subject.schema subject.region found.strata.dimensions found.summary place → ⊥
  no-failing place first =
      let same : Stands ≡ Fails place = equal subject.schema subject.region found.strata found.summary Stands (Fails place) stands first in
      absurd (cc)

  no-fault : (fault : ProofFault) → OfCover subject.schema subject.region found.strata.dimensions Of (λ q. fault_of_cover subject.schema q (head_lines found.summary) (string_bytes p.text) ≡ Some fault) → ⊥
  no-fault fault of =
      let same = fault-too subject.schema subject.region found.strata.dimensions Of by.of.query of.query by.of.is of.is (head_lines found.summary) (string_bytes p.text) in
      let nothing = read-again.faultless in
      let some = of.holds in
      absurd (cc)

  closing-small : IsSmall subject.schema.version by.of.holds.proof
  closing-small =
      let c = by.of.holds in
      let cover = by.of.is in
      let tests = cover.few in
      let text = certificate_text subject.schema.version c.proof in
      let size : length text ≤ MOST_PROOF_BYTES =
      omega (arith, short, ap length by.prints, ap length c.spelled, length-append (found_text found) by.text) in
      sizes subject.schema by.of.query.tests (asked_tree by.of.query) subject.schema.version c.proof text c.closes c.small (omega arith) c.version (inl refl) size

  no-failing_node : (line : ℕ) → OfCover subject.schema subject.region found.strata.dimensions Of (λ q. FailsBehindAt subject.schema q (head_lines found.summary) (string_bytes p.text) line) → ⊥
  no-failing_node line of =
      let at = of.holds in
      let c = by.of.holds in
      let spelled : certificate_text subject.schema.version at.proof ≡ certificate_text subject.schema.version c.proof = sym at.spelled ∙ read-again.spelled in
      let same : at.proof ≡ c.proof = law subject.schema.version (certificate_text subject.schema.version c.proof) at.proof c.proof at.small closing-small (inl (sym spelled)) (inl refl) in
      let there : FailsAll subject.schema by.of.query at.proof at.node = fails-too subject.schema subject.region found.strata.dimensions Of by.of.query of.query by.of.is of.is at.proof at.node at.fails in
      let moved : FailsAll subject.schema by.of.query c.proof at.node = subst (λ (x : Proof). FailsAll subject.schema by.of.query x at.node) same there in
      fails-not-closes subject.schema by.of.query.tests (asked_tree by.of.query) at_first c.proof [] at.node moved c.closes

  list-accepted : (q : Printed) → IsListJudged subject found.strata.dimensions (string_bytes p.text) found.summary q → PrintsText accepted_line status.Holds q
  list-accepted q (large_cover large told) = absurd (cover-small subject.schema subject.region found.strata.dimensions Of by.of.query by.of.is large)
  list-accepted q (bad_certificate {fault = fault} of told) = absurd (no-fault fault of)
  list-accepted q (failing_pair {place = place} of first told) = absurd (no-failing place first)
  list-accepted q (failing_node {line = line} stands_too of told) = absurd (no-failing_node line of)
  list-accepted q (all_holds of certified_by told) = told

  judged-accepted : AreTextsApart found.strata.dimensions → IsHead subject.schema found.strata.dimensions (string_bytes p.text) found.summary → (q : Printed) → IsJudged subject found.strata.dimensions (string_bytes p.text) q → PrintsText accepted_line status.Holds q
  judged-accepted apart head q (inl bad) = absurd (no-head_fault subject.schema found.strata.dimensions (string_bytes p.text) found.summary bad.fault head bad.is)
  judged-accepted apart head q (inr of) =
      let same : of.pairs ≡ found.summary = one-head subject.schema found.strata.dimensions apart (string_bytes p.text) of.pairs found.summary of.is head in
      list-accepted q (subst (λ (ps : List (List ℕ × Request)). IsListJudged subject found.strata.dimensions (string_bytes p.text) ps q) same of.holds)

-- ---- strata of the region are the same

same-tests : (subject : Subject) (q r : Query) → IsQuery (subject_plan subject) q → IsQuery (subject_plan subject) r → q.tests ≡ r.tests
same-tests subject q r is other = one-list [] (tests_in (subject_plan subject)) q.tests r.tests is.tests other.tests

strata-too : StrataAreDetermined → (names : List (List ℕ)) (subject : Subject) (q r : Query) (a b : Strata) → IsQuery (subject_plan subject) q → IsQuery (subject_plan subject) r → AreStrata subject.schema q (dimension_slots names) a → AreStrata subject.schema r (dimension_slots names) b → b ≡ a
strata-too law names subject q r a b is other one_strata other_strata =
    let same = same-tests subject r q other is in
    law subject.schema q (dimension_slots names) b a
    (record { on = other_strata.on; each = subst (λ (ts : List Test). All (IsStratum subject.schema ts) b.dimensions) same other_strata.each }) one_strata

-- the laws that are cited
pub record CitedLaws : Type 0 where
  pub within : QueriesAreWithinLimits
  pub determined : StrataAreDetermined
  pub apart : FindingsAreWrittenApart
  pub none : ClosingProofsHaveNoFaultBehind
  pub sizes : ClosingProofsAreSmall
  pub law : OneProofForEachText
  pub stand : SummariesStand
  pub equal : SummaryVerdictsAreEqual

pub subjects-accepted : CitedLaws → CertifiedSubjectsAreAccepted
subjects-accepted laws status_of names limits states subject p q stands few (inl not) answered short narrow checked = absurd (found-not names limits subject p not answered)
subjects-accepted laws status_of names limits states subject p q stands few (inr printed) answered short narrow (inl not) =
    let found = printed.found in
    let is = printed.is in
    let within = laws.within (subject_plan subject) found.query is.made.query in
    let few_named : NameFew names limits.predicates subject = λ r other. subst (λ (ts : List Test). AreFew limits.predicates ts (dimension_slots names)) (same-tests subject found.query r is.made.query other) is.strata.few in
    absurd (not_made_fails names limits.predicates states subject q is.known within.tests within.pieces few_named narrow not)
subjects-accepted laws status_of names limits states subject p q stands few (inr printed) answered short narrow (inr of) =
    let found = printed.found in
    let is = printed.is in
    let by = certifies (status_of found.summary) limits subject found p printed.printed answered in
    let small : length found.summary ≤ MOST_FINDINGS = omega (arith, is.few, few) in
    let same : of.strata ≡ found.strata = strata-too laws.determined names subject found.query of.query found.strata of.strata is.made.query of.is.made.query is.strata.are of.is.within.are in
    let judged : IsJudged subject found.strata.dimensions (string_bytes p.text) q = subst (λ (x : Strata). IsJudged subject x.dimensions (string_bytes p.text) q) same of.holds in
    let apart : AreTextsApart found.strata.dimensions = laws.apart subject.schema found.strata (record { region = subject.region; files = stands; base = found.query; made = is.made }) in
    let head = printed-head subject.schema found by.text (string_bytes p.text) small (found_have_findings names limits subject found is) is.again by.prints in
    judged-accepted laws.none laws.sizes laws.law laws.stand laws.equal names limits subject found p is by small short apart head q judged

-- ---- files

pub printed_summaries_are_accepted : CertifiedSubjectsAreAccepted → PrintedSummariesAreAccepted
printed_summaries_are_accepted law s c p few (inl refused) asked q holds short same narrow checked = absurd (refused-not _ p refused (inl holds))
printed_summaries_are_accepted law s c p few (inr given) asked q holds short same narrow (inl (r, not, told)) = absurd (no_one_fails c.set c.schema _ given r not)
printed_summaries_are_accepted law s c p few (inr given) asked q holds short same narrow (inr of) =
    let checks = of_same_set c.set c.schema _ _ given of in
    let narrows = of_same_set c.set c.schema _ _ given narrow in
    let subject = subject_of_set (one_of given.named given.set) in
    let named : IsSubjectChecked s.dimensions MOST_PREDICATES asked.states (string_bytes p.text) subject q = subst (λ (ns : List (List ℕ)). IsSubjectChecked ns MOST_PREDICATES asked.states (string_bytes p.text) subject q) same checks.holds in
    let fits : AreNarrow s.dimensions asked.states subject = subst (λ (ns : List (List ℕ)). AreNarrow ns asked.states subject) same narrows.holds in
    law always_holds s.dimensions (limits_in s) asked.states subject p q (record { bytes = c.set; stands = given.set_stands }) few given.holds.holds (inl holds) short fits named
