-- What findings of a change say of what is newly allowed.
use Rattle.std.proofs.Common.{◌≡◌, ◌⊎◌, ℕ, Bool, false, List, [], ◌∷◌, All, Any, inl, inr, refl, subst}
use Rattle.std.proofs.lemmas.Bool.{cases_Bool}
use Rattle.std.proofs.lemmas.List.Elements.{All-head, All-weaker}
use Rattle.formula_tree.specs.Trees as tree
use Rattle.formula_tree.specs.Values.{holds}
use Rattle.policy_model.specs.declared.request.Request.{Request}
use Rattle.policy_model.specs.declared.schema.Schema.{Schema}
use Rattle.policy_model.specs.Requests.{IsValid}
use Rattle.policy_model.proofs.Laws.{Any-nil}
use Rattle.policy_compile.specs.declared.outcome.Query.{Query}
use Rattle.policy_compile.specs.Laws.{AsksPair}
use Rattle.policy_compile.specs.Meaning.{AnswersAs}
use Rattle.policy_compile.specs.Queries.{IsQuery, asked_tree}
use Rattle.policy_compile.proofs.Laws.{holds-numbered, query-covers, query-holds}
use Rattle.refute_check.specs.Laws.{MakesYes}
use Rattle.strata.specs.declared.outcome.StrataFault.{StrataFault}
use Rattle.strata.specs.declared.outcome.StrataFault.TheVariants as cause
use Rattle.strata.specs.declared.stratum.Stratum.{Stratum}
use Rattle.tree_search.proofs.Laws.{makes-yes}
use Rattle.findings.specs.Findings.{IsOwn, LiesInFinding}
use Rattle.findings.specs.Laws.{SummariesCover}
use Rattle.findings.specs.Summaries.{findings_of}
use Rattle.summary_search.specs.declared.outcome.Limits.{Limits}
use Rattle.run_inputs.specs.declared.pair.Pair.{Pair}
use Rattle.run_inputs.specs.declared.printed.Printed.{Printed}
use Rattle.run_inputs.specs.declared.status.Status.TheVariants as status
use Rattle.run_inputs.specs.Pairs.{IsFitting}
use Rattle.compare_answers.specs.Comparison.{Covers, plan_of}
use Rattle.summary_answers.specs.declared.answer.Found.{Found}
use Rattle.summary_answers.specs.declared.subject.Subject.{Subject}
use Rattle.summary_answers.specs.declared.limits.TheConstants.{MOST_CHANGE_PREDICATES}
use Rattle.summary_answers.specs.Found.{IsFoundOf}
use Rattle.summary_answers.specs.Subjects.{subject_of_pair}
use Rattle.certified_summaries.specs.Judged.{IsCertifiedBy, IsListJudged, IsSubjectChecked, all_holds, bad_certificate, failing_node, failing_pair, large_cover}
use Rattle.certified_summaries.specs.Made.{IsNotMade, PrintsUnmade}
use Rattle.access_answers.specs.NewAccess.{AreOfAllNewAccess, IsNewlyAllowed}
use Rattle.access_answers.specs.NewAccessChecked.{HasAllNewAccess}

module _ (pair : Pair) (q : Query) (fitting : IsFitting pair) (is : IsQuery (plan_of pair) q) where
  -- where nothing is newly allowed, the second set covers the first
  covers-if-none : ((r : Request) → ¬ IsNewlyAllowed pair r) → Covers pair
  covers-if-none none r valid allowed =
      let some_yes : MakesYes q.tests tree.yes r = makes-yes q.tests tree.yes [] r (λ n b e. absurd (cc)) (λ n b t e at. absurd (cc)) refl in
      let total : ℕ → Bool = some_yes.0 in
      let say : AnswersAs total r q.tests = some_yes.1 in
      let whole = holds-numbered total r q.tests say (plan_of pair) (asked_tree q) is.tree in
      let asks : AsksPair pair.schema pair.first pair.second r total (asked_tree q) =
      record { first_fits = fitting.first; second_fits = fitting.second; valid = valid; tests = q.tests; say = say; numbered = is.tree } in
      elim (cases_Bool (holds total (asked_tree q))) [
        | inl e ↦
            let both = (query-holds pair.schema r pair.first pair.second fitting.first fitting.second valid).0 (whole.0 e) in
            absurd (none r (valid, both))
        | inr e ↦ query-covers pair.schema pair.first pair.second r (asked_tree q) total asks e allowed
      ]

  empty-if : (pairs : List (List ℕ × Request)) → All (λ p. IsNewlyAllowed pair p.1) pairs → Covers pair → pairs ≡ []
  empty-if [] new covers = refl
  empty-if (p ∷ pairs) new covers =
      let first = All-head (λ (p : List ℕ × Request). IsNewlyAllowed pair p.1) p pairs new in
      absurd (first.1.1 (covers p.1 first.0 first.1.0))

  -- findings whose requests are newly allowed, and that leave out nothing
  are-all : (ds : List Stratum) (pairs : List (List ℕ × Request)) → All (λ p. IsNewlyAllowed pair p.1) pairs
      → ((r : Request) → IsNewlyAllowed pair r → Any (LiesInFinding r ds) (findings_of pairs)) → AreOfAllNewAccess pair ds pairs
  are-all ds pairs new all = record {
    each = new;
    all = all;
    none = (
      (λ none. covers-if-none (λ r fresh. Any-nil (LiesInFinding r ds) (subst (λ (ps : List (List ℕ × Request)). Any (LiesInFinding r ds) (findings_of ps)) none (all r fresh)))),
      (λ covers. empty-if pairs new covers),
    );
  }

-- the own requests of findings are newly allowed
own-new : (pair : Pair) (ds : List Stratum) (pairs : List (List ℕ × Request)) → All (λ p. IsOwn pair.schema (subject_of_pair pair).region ds p.0 p.1) pairs
    → All (λ p. IsNewlyAllowed pair p.1) pairs
own-new pair ds pairs own =
    All-weaker (λ (p : List ℕ × Request). IsOwn pair.schema (subject_of_pair pair).region ds p.0 p.1) (λ p. IsNewlyAllowed pair p.1)
    (λ p o. (o.valid, o.allowed)) pairs own

-- what is found is of all new access
pub found-are : SummariesCover → (names : List (List ℕ)) (limits : Limits) (pair : Pair) → IsFitting pair → (found : Found)
    → IsFoundOf names limits (subject_of_pair pair) found → AreOfAllNewAccess pair found.strata.dimensions found.summary
found-are covers names limits pair fitting found is =
    let ds = found.strata.dimensions in
    let subject = subject_of_pair pair in
    are-all pair found.query fitting is.made.query ds found.summary (own-new pair ds found.summary is.summary.own)
    (λ r fresh. covers pair.schema subject.region found.strata found.summary (record { base = found.query; made = is.made; is = is.summary }) r fresh.0 fresh.1)

-- ---- a file that is accepted

module _ (names : List (List ℕ)) (states : ℕ) (bytes : List ℕ) (pair : Pair) (fitting : IsFitting pair) (p : Printed) (accepted : p.status ≡ status.Holds) where
  unmade-not : (fault : StrataFault) → PrintsUnmade names states fault p → ⊥
  unmade-not (cause.TooManyPredicates d) told = let refused = told.1 in absurd (cc)
  unmade-not (cause.Wide s texts) told = let undecided = told.1 in absurd (cc)
  unmade-not cause.NoMemory told = told

  not-made-not : IsNotMade names MOST_CHANGE_PREDICATES states (subject_of_pair pair) p → ⊥
  not-made-not (inl unknown) = let refused = unknown.prints.1 in absurd (cc)
  not-made-not (inr (known, inl (r, past, told))) = let refused = told.1 in absurd (cc)
  not-made-not (inr (known, inr un)) = unmade-not un.fault un.prints

  certified-by : (ds : List Stratum) (pairs : List (List ℕ × Request)) → IsListJudged (subject_of_pair pair) ds bytes pairs p
      → IsCertifiedBy (subject_of_pair pair) ds pairs
  certified-by ds pairs (large_cover large told) = let refused = told.1 in absurd (cc)
  certified-by ds pairs (bad_certificate of told) = let bad = told.1 in absurd (cc)
  certified-by ds pairs (failing_pair of first told) = let bad = told.1 in absurd (cc)
  certified-by ds pairs (failing_node stands of told) = let bad = told.1 in absurd (cc)
  certified-by ds pairs (all_holds of by told) = by

  pub has-all : IsSubjectChecked names MOST_CHANGE_PREDICATES states bytes (subject_of_pair pair) p → HasAllNewAccess names bytes pair
  has-all (inl none) = absurd (not-made-not none)
  has-all (inr of) = elim of.holds [
    | inl bad ↦ let faulty = bad.prints.1 in absurd (cc)
    | inr head ↦
        let ds = of.strata.dimensions in
        let by = certified-by ds head.pairs head.holds in
        record {
          query = of.query;
          strata = of.strata;
          made = of.is;
          pairs = head.pairs;
          head = head.is;
          stands = by.stands;
          says = are-all pair of.query fitting of.is.made.query ds head.pairs (own-new pair ds head.pairs by.stands.own)
              (λ r fresh. by.covers r fresh.0 fresh.1);
        }
  ]
