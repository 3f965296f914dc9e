-- A file is checked with one answer for two sets, and what a comparison prints is accepted.
use Rattle.std.proofs.Common.{◌≡◌, ◌≤◌, ◌<◌, ◌++◌, ◌+◌, ◌∙◌, ℕ, List, [], length, sum_by, Some, None, slice_get, ap, arith, inl, inr, refl, subst, sym}
use Rattle.std.specs.Prelude.{String, string_bytes, codes, true}
use Rattle.std.specs.declared.alloc.Global.{Global}
use Rattle.formula_tree.specs.Trees as tree
use Rattle.policy_model.specs.declared.test.Test.{Test}
use Rattle.policy_compile.specs.declared.outcome.Query.{Query}
use Rattle.policy_compile.specs.Plans.{tests_in}
use Rattle.policy_compile.specs.Plans as plan
use Rattle.policy_compile.specs.Queries.{IsQuery, asked_tree, test_pieces}
use Rattle.policy_compile.proofs.OneNumbering as numbering
use Rattle.policy_compile.proofs.OneNumbering.{few-enough, one-list}
use Rattle.formula_tree.specs.Answers.{Answers}
use Rattle.policy_model.specs.declared.schema.Schema.{Schema}
use Rattle.refute_check.specs.Closing.{Before, FailsAt, at_first, here, in_label, in_no, in_yes}
use Rattle.refute_check.specs.Proofs.{Proof, label, size, split}
use Rattle.refute_check.proofs.Laws.{fails-not-closes}
use Rattle.command_words.specs.Asked.{Comparing}
use Rattle.proof_text.specs.Faults.{proof_fault, skipped_count}
use Rattle.proof_text.specs.Laws.{OneProofForEachText, limits_of}
use Rattle.proof_text.specs.LineForms.{lines_of}
use Rattle.proof_text.specs.Lines.{verdict_line}
use Rattle.proof_text.specs.Spelling.{node_line_numbers}
use Rattle.proof_text.specs.declared.fault.ProofFault.{ProofFault}
use Rattle.proof_text.specs.declared.limits.TheConstants.{MOST_PROOF_BYTES}
use Rattle.run_inputs.specs.declared.printed.Printed.{Printed}
use Rattle.run_inputs.specs.declared.status.Status.TheVariants as status
use Rattle.run_inputs.specs.Printing.{PrintsText}
use Rattle.run_inputs.specs.declared.pair.Pair.{Pair}
use Rattle.run_inputs.specs.declared.refusal.Refusal.{Refusal}
use Rattle.run_inputs.specs.declared.refusal.Refusal.TheVariants as refusal
use Rattle.run_inputs.specs.Pairs.{Contents, SomePair, SomePairRun, pair_of}
use Rattle.run_inputs.specs.Refusals.{PrintsRefusal, IsRefusedBy, refusal_text}
use Rattle.run_inputs.proofs.Laws.{no_pair_fails, of_same}
use Rattle.compare_answers.specs.declared.answer.CheckAnswer.{CheckAnswer}
use Rattle.compare_answers.specs.declared.answer.CheckAnswer.TheVariants as answer
use Rattle.compare_answers.specs.declared.answer.ComparisonAnswer.{ComparisonAnswer}
use Rattle.compare_answers.specs.declared.answer.ComparisonAnswer.TheVariants as compared
use Rattle.refute_check.specs.Queries.{FailsAll}
use Rattle.compare_answers.specs.Certified.{ClosesBy, FailsAtLine, HasProofFault, fault_for}
use Rattle.compare_answers.specs.Checks.{ChecksAgree, PrintedProofsAreAccepted, SaysTheSame}
use Rattle.compare_answers.specs.Comparison.{SomeQuery, TooManyPieces, TooManyTests, plan_of}
use Rattle.compare_answers.specs.Decided.{IsChecked, IsComparison, IsPastLimit}
use Rattle.compare_answers.specs.Printed.{IsCheckOfPair, IsCheckPrinted, IsComparisonPrinted, IsPairPrinted, PrintsCheck, budgets_of}
use Rattle.compare_answers.specs.Texts.{check_status, check_text, comparison_status, comparison_text}

-- ---- a pair has one list of tests and one tree

same-tests : (pair : Pair) (q r : Query) → IsQuery (plan_of pair) q → IsQuery (plan_of pair) r → q.tests ≡ r.tests
same-tests pair q r is other = one-list [] (tests_in (plan_of pair)) q.tests r.tests is.tests other.tests

same-tree : (pair : Pair) (q r : Query) → IsQuery (plan_of pair) q → IsQuery (plan_of pair) r → asked_tree q ≡ asked_tree r
same-tree pair q r is other = numbering.same-tree (plan_of pair) q.tests r.tests (asked_tree q) (asked_tree r) is.tests other.tests is.tree other.tree

-- ---- a query is past no limit

-- the tests of a plan that are too many aren't few with too many pieces
one-limit : (pair : Pair) → TooManyTests pair → TooManyPieces pair → ⊥
one-limit pair tests pieces = few-enough (tests_in (plan_of pair)) pieces.tests pieces.collects pieces.few tests

within-pieces : (pair : Pair) (q : Query) → IsQuery (plan_of pair) q → TooManyPieces pair → ⊥
within-pieces pair q is past =
    let same : past.tests ≡ q.tests = one-list [] (tests_in (plan_of pair)) past.tests q.tests past.collects is.tests in
    let large : 65536 < sum_by test_pieces q.tests = subst (λ (ts : List Test). 65536 < sum_by test_pieces ts) same past.large in
    let small = is.small in
    omega arith

within-limits : (pair : Pair) (q : Query) → IsQuery (plan_of pair) q → (r : Refusal) → IsPastLimit pair r → ⊥
within-limits pair q is refusal.TooManyTests past = few-enough (tests_in (plan_of pair)) q.tests is.tests is.few past
within-limits pair q is refusal.TooManyPieces past = within-pieces pair q is past
within-limits pair q is _ past = past

same-limit : (pair : Pair) (r s : Refusal) → IsPastLimit pair r → IsPastLimit pair s → r ≡ s
same-limit pair refusal.TooManyTests refusal.TooManyTests past also = refl
same-limit pair refusal.TooManyPieces refusal.TooManyPieces past also = refl
same-limit pair refusal.TooManyTests refusal.TooManyPieces past also = absurd (one-limit pair past also)
same-limit pair refusal.TooManyPieces refusal.TooManyTests past also = absurd (one-limit pair also past)
same-limit pair refusal.TooManyTests _ past also = absurd also
same-limit pair refusal.TooManyPieces _ past also = absurd also
same-limit pair _ s past also = absurd past

-- ---- what is said of one query is said of the other

same-fault : (pair : Pair) (q r : Query) (bytes : List ℕ) → IsQuery (plan_of pair) q → IsQuery (plan_of pair) r → fault_for pair.schema q bytes ≡ fault_for pair.schema r bytes
same-fault pair q r bytes is other = ap (λ (ts : List Test). proof_fault (limits_of ts pair.schema.version) bytes) (same-tests pair q r is other)

fails-too : (pair : Pair) (q r : Query) (p : Proof) (node : ℕ) → IsQuery (plan_of pair) q → IsQuery (plan_of pair) r → FailsAll pair.schema q p node → FailsAll pair.schema r p node
fails-too pair q r p node is other fails =
    subst (λ (t : tree.Tree). FailsAt pair.schema r.tests t at_first p [] node) (same-tree pair q r is other)
    (subst (λ (ts : List Test). FailsAt pair.schema ts (asked_tree q) at_first p [] node) (same-tests pair q r is other) fails)

-- ---- one node fails first

module _ (schema : Schema) (tests : List Test) (asked : tree.Tree) where
  abbrev Fails : Before → Proof → Answers → ℕ → Type 0
  Fails before p path node = FailsAt schema tests asked before p path node

  one-failure : (before : Before) (p : Proof) (path : Answers) (i j : ℕ) → Fails before p path i → Fails before p path j → i ≡ j
  one-failure before p path i j (here broken) (here other) = refl
  one-failure before (split n y z) path i j (here broken) (in_yes own fails is) = absurd (broken own)
  one-failure before (split n y z) path i j (here broken) (in_no own first fails is) = absurd (broken own)
  one-failure before (label n given p) path i j (here broken) (in_label own fails is) = absurd (broken own)
  one-failure before (split n y z) path i j (in_yes own fails is) (here broken) = absurd (broken own)
  one-failure before (split n y z) path i j (in_yes {k = k} own fails is) (in_yes {k = m} other more also) = is ∙ ap (λ x. x + 1) (one-failure before y _ k m fails more) ∙ sym also
  one-failure before (split n y z) path i j (in_yes {k = k} own fails is) (in_no other first more also) = absurd (fails-not-closes schema tests asked before y _ k fails first)
  one-failure before (split n y z) path i j (in_no own first fails is) (here broken) = absurd (broken own)
  one-failure before (split n y z) path i j (in_no own first fails is) (in_yes {k = m} other more also) = absurd (fails-not-closes schema tests asked before y _ m more first)
  one-failure before (split n y z) path i j (in_no {k = k} own first fails is) (in_no {k = m} other again_first more also) = is ∙ ap (λ x. x + size y + 1) (one-failure _ z _ k m fails more) ∙ sym also
  one-failure before (label n given p) path i j (in_label own fails is) (here broken) = absurd (broken own)
  one-failure before (label n given p) path i j (in_label {k = k} own fails is) (in_label {k = m} other more also) = is ∙ ap (λ x. x + 1) (one-failure _ p given k m fails more) ∙ sym also

-- ---- answers of a check

-- what is said of the query by each answer
data Told (bytes : List ℕ) (pair : Pair) : CheckAnswer → Type 0 where
  by_fault : {fault : ProofFault} → SomeQuery pair (λ q. HasProofFault pair.schema q bytes fault) → Told bytes pair (answer.BadProof fault)
  by_line : {line : ℕ} → SomeQuery pair (λ q. FailsAtLine pair.schema q bytes line) → Told bytes pair (answer.NotClosing line)
  by_closing : SomeQuery pair (λ q. ClosesBy pair.schema q bytes) → Told bytes pair answer.Accepted

told : (bytes : List ℕ) (pair : Pair) (a : CheckAnswer) → IsChecked bytes pair a → Told bytes pair a
told bytes pair (answer.BadProof fault) v = by_fault v
told bytes pair (answer.NotClosing line) v = by_line v
told bytes pair answer.Accepted v = by_closing v.0

one-fault : (bytes : List ℕ) (pair : Pair) (a b : ProofFault) → SomeQuery pair (λ q. HasProofFault pair.schema q bytes a) → SomeQuery pair (λ q. HasProofFault pair.schema q bytes b) → a ≡ b
one-fault bytes pair a b this that =
    let same = same-fault pair this.query that.query bytes this.is that.is in
    let one = this.holds in
    let other = that.holds in
    cc

no-fault : (bytes : List ℕ) (pair : Pair) (q : Query) (fault : ProofFault) → IsQuery (plan_of pair) q → fault_for pair.schema q bytes ≡ None → SomeQuery pair (λ r. HasProofFault pair.schema r bytes fault) → ⊥
no-fault bytes pair q fault is none that =
    let same = same-fault pair q that.query bytes is that.is in
    let some = that.holds in
    absurd (cc)

module _ (law : OneProofForEachText) (bytes : List ℕ) (pair : Pair) where
  one-line : (k l : ℕ) → SomeQuery pair (λ q. FailsAtLine pair.schema q bytes k) → SomeQuery pair (λ q. FailsAtLine pair.schema q bytes l) → k ≡ l
  one-line k l this that =
      let one = this.holds in
      let other = that.holds in
      let proofs : one.proof ≡ other.proof = law pair.schema.version bytes one.proof other.proof one.small other.small one.spelled other.spelled in
      let moved : FailsAll pair.schema this.query other.proof one.node = subst (λ (p : Proof). FailsAll pair.schema this.query p one.node) proofs one.fails in
      let there : FailsAll pair.schema that.query other.proof one.node = fails-too pair this.query that.query other.proof one.node this.is that.is moved in
      let nodes : one.node ≡ other.node = one-failure pair.schema that.query.tests (asked_tree that.query) at_first other.proof [] one.node other.node there other.fails in
      let at_k : slice_get (node_line_numbers (skipped_count (lines_of bytes) + 2) other.proof) other.node ≡ Some k =
      subst (λ (n : ℕ). slice_get (node_line_numbers (skipped_count (lines_of bytes) + 2) other.proof) n ≡ Some k) nodes
      (subst (λ (p : Proof). slice_get (node_line_numbers (skipped_count (lines_of bytes) + 2) p) one.node ≡ Some k) proofs one.line_is) in
      let at_l = other.line_is in
      cc

  closes-or-fails : (k : ℕ) → SomeQuery pair (λ q. FailsAtLine pair.schema q bytes k) → SomeQuery pair (λ q. ClosesBy pair.schema q bytes) → ⊥
  closes-or-fails k this that =
      let one = this.holds in
      let other = that.holds in
      let proofs : one.proof ≡ other.proof = law pair.schema.version bytes one.proof other.proof one.small other.small one.spelled other.spelled in
      let moved : FailsAll pair.schema this.query other.proof one.node = subst (λ (p : Proof). FailsAll pair.schema this.query p one.node) proofs one.fails in
      let there : FailsAll pair.schema that.query other.proof one.node = fails-too pair this.query that.query other.proof one.node this.is that.is moved in
      fails-not-closes pair.schema that.query.tests (asked_tree that.query) at_first other.proof [] one.node there other.closes

  agree : (a b : CheckAnswer) → Told bytes pair a → Told bytes pair b → a ≡ b
  agree a b (by_fault {fault = f} this) (by_fault {fault = g} that) = ap answer.BadProof (one-fault bytes pair f g this that)
  agree a b (by_fault {fault = f} this) (by_line that) = absurd (no-fault bytes pair that.query f that.is that.holds.faultless this)
  agree a b (by_fault {fault = f} this) (by_closing that) = absurd (no-fault bytes pair that.query f that.is that.holds.faultless this)
  agree a b (by_line this) (by_fault {fault = g} that) = absurd (no-fault bytes pair this.query g this.is this.holds.faultless that)
  agree a b (by_line {line = k} this) (by_line {line = l} that) = ap answer.NotClosing (one-line k l this that)
  agree a b (by_line {line = k} this) (by_closing that) = absurd (closes-or-fails k this that)
  agree a b (by_closing this) (by_fault {fault = g} that) = absurd (no-fault bytes pair this.query g this.is this.holds.faultless that)
  agree a b (by_closing this) (by_line {line = l} that) = absurd (closes-or-fails l that this)
  agree a b (by_closing this) (by_closing that) = refl

-- ---- what is printed

-- one refusal has one line
one_refusal : (r s : Refusal) (p q : Printed) → r ≡ s → PrintsRefusal r p → PrintsRefusal s q → SaysTheSame p q
one_refusal r s p q same one other =
    (one.0 ∙ ap (λ (x : Refusal). refusal_text x) same ∙ sym other.0, one.1 ∙ sym other.1)

one_answer : (a b : CheckAnswer) (p q : Printed) → a ≡ b → PrintsText (check_text a) (check_status a) p → PrintsText (check_text b) (check_status b) q → SaysTheSame p q
one_answer a b p q same one other =
    (one.0 ∙ ap (λ (x : CheckAnswer). check_text x) same ∙ sym other.0, one.1 ∙ ap (λ (x : CheckAnswer). check_status x) same ∙ sym other.1)

-- what is said of a pair is said of its query
query_too : (bytes : List ℕ) (pair : Pair) (a : CheckAnswer) → IsChecked bytes pair a → (q : Query) × IsQuery (plan_of pair) q
query_too bytes pair (answer.BadProof fault) v = (v.query, v.is)
query_too bytes pair (answer.NotClosing line) v = (v.query, v.is)
query_too bytes pair answer.Accepted v = (v.0.query, v.0.is)

limit_or_answer : (bytes : List ℕ) (pair : Pair) (p q : Printed) → IsRefusedBy (IsPastLimit pair) p → PrintsCheck (IsChecked bytes pair) q → ⊥
limit_or_answer bytes pair p q (r, past, line) other =
    let of = query_too bytes pair other.answer other.holds in
    within-limits pair of.0 of.1 r past

pub checks_agree : OneProofForEachText → ChecksAgree
checks_agree law bytes pair one other (inl (r, past, line)) (inl (s, past_too, line_too)) =
    one_refusal r s one other (same-limit pair r s past past_too) line line_too
checks_agree law bytes pair one other (inl past) (inr said) = absurd (limit_or_answer bytes pair one other past said)
checks_agree law bytes pair one other (inr said) (inl past) = absurd (limit_or_answer bytes pair other one past said)
checks_agree law bytes pair one other (inr said) (inr said_too) =
    let same : said.answer ≡ said_too.answer =
    agree law bytes pair said.answer said_too.answer (told bytes pair said.answer said.holds) (told bytes pair said_too.answer said_too.holds) in
    one_answer said.answer said_too.answer one other same said.prints said_too.prints

-- ---- printed certificates

proved_text : (text : String Global) → comparison_text (compared.Proved text) ≡ verdict_line ++ string_bytes text
unfolding comparison_text
proved_text text = refl

accepted_text : check_text answer.Accepted ≡ codes "accepted\n"
accepted_text = refl

-- a comparison of the pair may be answered by the certificate
abbrev IsProvedBy : Comparing → String Global → Pair → Type 0
IsProvedBy asked text p = IsComparison asked.certified (budgets_of asked) p (compared.Proved text)

-- where a certificate is asked for, what is printed with `Holds` is one
record Proves (asked : Comparing) (pair : Pair) (p : Printed) : Type 0 where
  text : String Global
  proved : IsProvedBy asked text pair
  printed : string_bytes p.text ≡ verdict_line ++ string_bytes text

module _ (asked : Comparing) (pair : Pair) (p : Printed) (certified : asked.certified ≡ true) (holds : p.status ≡ status.Holds) where
  refused-not : (r : Refusal) → PrintsRefusal r p → ⊥
  refused-not r line = let refused = line.1 in cc

  proves-by : (a : ComparisonAnswer) → IsComparison asked.certified (budgets_of asked) pair a → PrintsText (comparison_text a) (comparison_status a) p → Proves asked pair p
  proves-by compared.NotMore v told = let plain = v.0 in absurd (cc)
  proves-by (compared.Proved text) v told = record { text = text; proved = v; printed = told.0 ∙ proved_text text }
  proves-by (compared.More q) v told = let fails = told.1 in absurd (cc)
  proves-by (compared.Undecided shortage) v told = let undecided = told.1 in absurd (cc)

  proves : IsPairPrinted asked.certified (budgets_of asked) pair p → Proves asked pair p
  proves (inl (r, past, line)) = absurd (refused-not r line)
  proves (inr said) = proves-by said.answer said.holds said.prints

-- a certificate that closes the query is accepted
module _ (law : OneProofForEachText) (printed : List ℕ) (pair : Pair) (accepts : IsChecked printed pair answer.Accepted) (q : Printed) where
  accepted-by : PrintsCheck (IsChecked printed pair) q → PrintsText (codes "accepted\n") status.Holds q
  accepted-by said =
      let same : said.answer ≡ answer.Accepted = agree law printed pair said.answer answer.Accepted (told printed pair said.answer said.holds) (told printed pair answer.Accepted accepts) in
      (said.prints.0 ∙ ap (λ (x : CheckAnswer). check_text x) same ∙ accepted_text, said.prints.1 ∙ ap (λ (x : CheckAnswer). check_status x) same)

  accepted : IsCheckOfPair printed pair q → PrintsText (codes "accepted\n") status.Holds q
  accepted (inl (r, past, line)) = absurd (within-limits pair accepts.0.query accepts.0.is r past)
  accepted (inr said) = accepted-by said

-- the pair that the files stand for, and what is printed of it
module _ (law : OneProofForEachText) (asked : Comparing) (c : Contents) (p q : Printed) (certified : asked.certified ≡ true) (holds : p.status ≡ status.Holds) (short : length (string_bytes p.text) ≤ MOST_PROOF_BYTES) where
  abbrev Says : Pair → Type 0
  Says pair = IsPairPrinted asked.certified (budgets_of asked) pair p

  abbrev Checks : Pair → Type 0
  Checks pair = IsCheckOfPair (string_bytes p.text) pair q

  accepted-pair : (given : SomePair c Says) → Checks (pair_of given.named given.one given.two) → PrintsText (codes "accepted\n") status.Holds q
  accepted-pair given checked =
      let pair : Pair = pair_of given.named given.one given.two in
      let by = proves asked pair p certified holds given.holds.holds in
      let few : length (verdict_line ++ string_bytes by.text) ≤ MOST_PROOF_BYTES = subst (λ (bs : List ℕ). length bs ≤ MOST_PROOF_BYTES) by.printed short in
      let of = by.proved.1 in
      let closes : ClosesBy pair.schema of.query (string_bytes p.text) = subst (λ (bs : List ℕ). ClosesBy pair.schema of.query bs) (sym by.printed) (of.holds.readable few) in
      accepted law (string_bytes p.text) pair (record { query = of.query; is = of.is; holds = closes }, by.proved.2) q checked

  accepted-files : SomePair c Says → IsCheckPrinted (string_bytes p.text) c q → PrintsText (codes "accepted\n") status.Holds q
  accepted-files given (inl (r, none, line)) = absurd (no_pair_fails c Says given r none)
  accepted-files given (inr of) =
      let same = of_same c (λ named one two. SomePairRun named one two Says) (λ named one two. SomePairRun named one two Checks) given of in
      accepted-pair given same.holds

  accepted-printed : IsComparisonPrinted asked c p → IsCheckPrinted (string_bytes p.text) c q → PrintsText (codes "accepted\n") status.Holds q
  accepted-printed (inl (r, none, line)) checked = let refused = line.1 in absurd (cc)
  accepted-printed (inr given) checked = accepted-files given checked

pub printed_proofs_are_accepted : OneProofForEachText → PrintedProofsAreAccepted
printed_proofs_are_accepted law asked c p q certified given holds short checked = accepted-printed law asked c p q certified holds short given checked
