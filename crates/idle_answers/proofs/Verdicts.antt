-- What the search decides of a query says whether the set needs a statement.
use Rattle.std.proofs.Common.{◌≡◌, ◌≤◌, ℕ, Bool, List, false, true, refl, inl, arith, subst, sym}
use Rattle.std.specs.Prelude.{Contains, string_bytes}
use Rattle.policy_model.specs.declared.schema.Schema.{Schema}
use Rattle.policy_model.specs.declared.set.PolicySet.{PolicySet}
use Rattle.policy_model.specs.declared.set.Statement.{Statement}
use Rattle.policy_model.specs.declared.set.StatementName.{StatementName}
use Rattle.policy_model.specs.Soundness.{SchemaFits}
use Rattle.policy_model.specs.StatementNames.{Named, named_set}
use Rattle.policy_compile.specs.declared.outcome.Query.{Query}
use Rattle.policy_compile.specs.Queries.{IsQuery, asked_tree}
use Rattle.proof_text.specs.Laws.{ClosingProofsAreSmall, ClosingProofsHaveNoFault, HoldsSmallNumbers}
use Rattle.proof_text.specs.Spelling.{certificate_text}
use Rattle.proof_text.specs.declared.limits.TheConstants.{MOST_NUMBER}
use Rattle.refute_check.specs.Proofs.{Proof, proof_of}
use Rattle.request_json.specs.Laws.{WrittenRequestsAreReadAgain}
use Rattle.run_inputs.specs.declared.one_set.OneSet.{OneSet}
use Rattle.run_inputs.specs.declared.shortage.Shortage.TheVariants as shortage
use Rattle.run_inputs.specs.OneSets.{FitsItsSchema}
use Rattle.set_questions.specs.Changes.{SchemaSet}
use Rattle.set_questions.specs.Idle.{IsIdle, IsNameIn, EachNamed}
use Rattle.set_questions.specs.Laws.{ChangeQueriesTell, DecidesUse}
use Rattle.set_questions.specs.Settling.{RefutesQuery, SettlesQuery}
use Rattle.set_questions.specs.Uses.{IsUseAt, IsUseOf, OfChange, change_plan}
use Rattle.set_questions.specs.declared.outcome.Use.{Use}
use Rattle.set_questions.specs.declared.outcome.Use.TheVariants as use_of
use Rattle.staged_search.specs.declared.verdict.Verdict.{Verdict}
use Rattle.staged_search.specs.declared.verdict.Verdict.TheVariants as verdict
use Rattle.staged_search.specs.Stages.{IsStagedVerdict}
use Rattle.tree_search.specs.declared.outcome.Budgets.{Budgets}
use Rattle.tree_search.specs.declared.outcome.Decided.{Decided}
use Rattle.tree_search.specs.declared.outcome.Decided.TheVariants as decided
use Rattle.tree_search.specs.Decisions.{IsDecision}
use Rattle.idle_answers.specs.declared.answer.UseAnswer.{UseAnswer}
use Rattle.idle_answers.specs.declared.answer.UseAnswer.TheVariants as answer
use Rattle.idle_answers.specs.Deciding.{IsAnswerByVerdict, IsIdleAnswer, AreChangesOf, IsStagedUseAnswer, IsAnswerToUse, settled_of}
use Rattle.idle_answers.specs.UseAnswers.{CertifiesChange, IsUseAnswer, IsUseAnswerAt}
use Rattle.idle_answers.specs.UseTexts.{is_undecided}

-- what is decided of a query settles it
pub settles : (schema : Schema) (query : Query) (budgets : Budgets) (d : Decided) → IsDecision schema query budgets d
    → SettlesQuery schema budgets.splits budgets.states query (settled_of d)
settles schema query budgets (decided.Refuted r) h = record { closes = h.closes; nests = h.nests }
settles schema query budgets (decided.Met q) h = record { valid = h.valid; answers = λ n b t e at. absurd (cc); meets = h.meets }
settles schema query budgets decided.OutOfSplits h = (h.plain, h.propagated)
settles schema query budgets (decided.OutOfStates w) h = record { node = h.node; not_no = h.not_no; asked = h.asked; texts = h.texts }

-- ---- a query that decides

-- the named statement of the set
there_is : (one : OneSet) (name : StatementName) → IsNameIn one.set name → (s : Statement) × Contains (named_set one.set) (name, s)
there_is one name (k, n, within, at, same) = (n.1, subst (λ (m : StatementName). Contains (named_set one.set) (m, n.1)) same (k, within, at))

-- the change query
pub itself_decides : ChangeQueriesTell → (one : OneSet) (name : StatementName) (q : Query) → FitsItsSchema one → IsNameIn one.set name
    → EachNamed one.set name (λ s. IsQuery (change_plan one.schema one.set (name, s)) q) → DecidesUse one.schema one.set name q
itself_decides law one name q fitting named is =
    let there = there_is one name named in
    law one.schema one.set (name, there.0) q fitting.fits there.1 (is there.0 there.1)

-- one that is made from changes of the set
pub fits_changes : (one : OneSet) (of : SchemaSet) → AreChangesOf one of → SchemaFits one.schema one.set → SchemaFits of.schema of.set
fits_changes one of is fits = subst (λ (x : Schema). SchemaFits x of.set) (sym is.0) (subst (λ (y : PolicySet). SchemaFits one.schema y) (sym is.1) fits)

pub changes_decide : (one : OneSet) (of : SchemaSet) (name : StatementName) (q : Query) → AreChangesOf one of → DecidesUse of.schema of.set name q → DecidesUse one.schema one.set name q
changes_decide one of name q is decides =
    subst (λ (x : Schema). DecidesUse x one.set name q) is.0 (subst (λ (y : PolicySet). DecidesUse of.schema y name q) is.1 decides)

-- the verdict on it answers on the statement
pub staged_if_tells : WrittenRequestsAreReadAgain → (budgets : Budgets) (one : OneSet) (name : StatementName) (q : Query) → DecidesUse one.schema one.set name q
    → (v : Verdict) → IsStagedVerdict one.schema q budgets v → (a : UseAnswer) → IsAnswerByVerdict budgets v a → IsStagedUseAnswer budgets one name q a
staged_if_tells written budgets one name q tells verdict.Nobody h a by =
    subst (λ (x : UseAnswer). IsStagedUseAnswer budgets one name q x) (sym by) (tells.idle (λ r met. h r met.valid met.meets))
staged_if_tells written budgets one name q tells (verdict.Met r) h a by =
    subst (λ (x : UseAnswer). IsStagedUseAnswer budgets one name q x) (sym by.0)
    (written one.schema r by.1 h.valid, tells.used r (record { valid = h.valid; answers = λ n b t e at. absurd (cc); meets = h.meets }))
staged_if_tells written budgets one name q tells verdict.OutOfSplits h a by =
    subst (λ (x : UseAnswer). IsStagedUseAnswer budgets one name q x) (sym by) (refl, (h.plain, h.propagated))
staged_if_tells written budgets one name q tells (verdict.OutOfStates w) h a by =
    subst (λ (x : UseAnswer). IsStagedUseAnswer budgets one name q x) (sym by) (
      refl,
      record {
        wide = record { path = w.path; slot = w.slot; texts = w.texts };
        slot = refl;
        fails = record { node = h.node; not_no = h.not_no; asked = h.asked; texts = h.texts };
      },
    )

-- which is an answer where no certificate is asked for: of whichever query, where it is decided
pub answer_if_decided : (budgets : Budgets) (one : OneSet) (name : StatementName) (q : Query) (a : UseAnswer) → is_undecided a ≡ false
    → IsStagedUseAnswer budgets one name q a → IsUseAnswerAt false budgets one name a
answer_if_decided budgets one name q (answer.Used r) decides h = λ s there. h
answer_if_decided budgets one name q answer.Idle decides h = λ s there. (refl, h)
answer_if_decided budgets one name q (answer.Proved text) decides h = absurd h
answer_if_decided budgets one name q (answer.Undecided short) decides h = absurd (cc)

-- and of the change query in any case
pub answer_if_itself : (budgets : Budgets) (one : OneSet) (name : StatementName) (q : Query)
    → EachNamed one.set name (λ s. IsQuery (change_plan one.schema one.set (name, s)) q) → (a : UseAnswer) → IsStagedUseAnswer budgets one name q a
    → IsUseAnswerAt false budgets one name a
answer_if_itself budgets one name q is (answer.Used r) h = λ s there. h
answer_if_itself budgets one name q is answer.Idle h = λ s there. (refl, h)
answer_if_itself budgets one name q is (answer.Proved text) h = absurd h
answer_if_itself budgets one name q is (answer.Undecided (shortage.Splits n)) h = λ s there. (h.0, record { query = q; is = is s there; holds = h.1 })
answer_if_itself budgets one name q is (answer.Undecided (shortage.States n t)) h = λ s there. (h.0, record { query = q; is = is s there; holds = h.1 })

-- ---- the change query

-- the certificate of a refutation of the change query is read again
certifies : ClosingProofsAreSmall → ClosingProofsHaveNoFault → (schema : Schema) (set : PolicySet) (named : Named) (p : Proof) (text : List ℕ)
    → schema.version ≤ MOST_NUMBER → text ≡ certificate_text schema.version p → HoldsSmallNumbers p → OfChange schema set named (λ q. RefutesQuery schema q p)
    → OfChange schema set named (CertifiesChange schema text)
certifies sizes law schema set named p text version spelled small of = record {
  query = of.query;
  is = of.is;
  holds = record {
    proof = p;
    spelled = spelled;
    closes = of.holds.closes;
    readable = λ short.
        let nests = of.holds.nests in
        let few = of.is.few in
        record {
          faultless = law schema of.query.tests (asked_tree of.query) schema.version p text of.holds.closes (omega arith) small (omega arith) version (inl spelled) short;
          small = sizes schema of.query.tests (asked_tree of.query) schema.version p text of.holds.closes small (omega arith) version (inl spelled) short;
        };
  };
}

idle_if_refuted : ClosingProofsAreSmall → ClosingProofsHaveNoFault → (certified : Bool) (budgets : Budgets) (one : OneSet) (named : Named) (p : Proof)
    → IsIdle one.schema one.set named.0 → OfChange one.schema one.set named (λ q. RefutesQuery one.schema q p)
    → (a : UseAnswer) → IsIdleAnswer certified one.schema.version p a → IsUseAnswer certified budgets one named a
idle_if_refuted sizes law certified budgets one named p idle of answer.Idle v = (v, idle)
idle_if_refuted sizes law certified budgets one named p idle of (answer.Proved text) (asked, spelled, small, version) =
    (asked, idle, certifies sizes law one.schema one.set named p (string_bytes text) version spelled small of)
idle_if_refuted sizes law certified budgets one named p idle of _ v = absurd v

answer_of_use : ClosingProofsAreSmall → ClosingProofsHaveNoFault → WrittenRequestsAreReadAgain → (certified : Bool) (budgets : Budgets) (one : OneSet) (named : Named) (u : Use)
    → IsUseOf one.schema budgets.splits budgets.states one.set named u → (a : UseAnswer) → IsAnswerToUse certified one.schema.version budgets u a
    → IsUseAnswer certified budgets one named a
answer_of_use sizes law written certified budgets one named (use_of.Used q) h a v = subst (λ (x : UseAnswer). IsUseAnswer certified budgets one named x) (sym v.0) (written one.schema q v.1 h.valid, h)
answer_of_use sizes law written certified budgets one named (use_of.Idle r) h a v = idle_if_refuted sizes law certified budgets one named (proof_of r.value) h.0 h.1 a v
answer_of_use sizes law written certified budgets one named use_of.OutOfSplits h a v = subst (λ (x : UseAnswer). IsUseAnswer certified budgets one named x) (sym v) (refl, h)
answer_of_use sizes law written certified budgets one named (use_of.OutOfStates w) h a v =
    subst (λ (x : UseAnswer). IsUseAnswer certified budgets one named x) (sym v)
    (refl, record { query = h.query; is = h.is; holds = record { wide = w; slot = refl; fails = h.holds } })

-- what is decided of the use of a statement answers on it
pub answer_if_told : ClosingProofsAreSmall → ClosingProofsHaveNoFault → WrittenRequestsAreReadAgain → (certified : Bool) (budgets : Budgets) (one : OneSet) (name : StatementName) (u : Use)
    → IsUseAt one.schema budgets.splits budgets.states one.set name u → (a : UseAnswer) → IsAnswerToUse certified one.schema.version budgets u a
    → IsUseAnswerAt certified budgets one name a
answer_if_told sizes law written certified budgets one name u h a v = λ s there. answer_of_use sizes law written certified budgets one (name, s) u (h s there) a v
