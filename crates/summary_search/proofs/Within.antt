-- What paths of one test or two tell of predicates.
use Rattle.std.proofs.Common.{◌≡◌, ℕ, List, [], ◌∷◌, true, false, Option, Some, None, sym, subst}
use Rattle.std.specs.Prelude.{MatchOption}
use Rattle.wildcard_lang.specs.declared.piece.Piece.{Piece}
use Rattle.wildcard_lang.specs.Places.{ShowWider}
use Rattle.policy_model.specs.declared.schema.Schema.{Schema}
use Rattle.policy_model.specs.declared.test.Slot.{Slot}
use Rattle.policy_model.specs.declared.test.Test.{Test}
use Rattle.policy_model.specs.Requests.{HasValidRequest}
use Rattle.policy_model.specs.Tests.{TestHolds}
use Rattle.strata.specs.declared.inclusion.Within.{Within}
use Rattle.strata.specs.declared.inclusion.Within.TheVariants as within
use Rattle.strata.specs.declared.predicate.Predicate.{Predicate}
use Rattle.strata.specs.declared.predicate.Predicate.TheVariants.{Every}
use Rattle.strata.specs.Asking.{AnswersMet, AnswersWithin}
use Rattle.strata.specs.Predicates.{SuitsSlot, test_of}
use Rattle.test_relations.specs.Relations.{TestLeads}
use Rattle.summary_search.specs.Questions.{DecidesEscape, DecidesPossible, opposite_answer}
use Rattle.summary_search.proofs.Answering.{by-test, no-test, not-not, of-test, one-answered, one-possible, two-no, two-possible, two-yes, test-on}
use Rattle.summary_search.proofs.Patterns.{asked-both, asked-met, asked-missed}

wider-same : (few more : List (List Piece)) (states : ℕ) (texts : List (List ℕ)) → few ≡ more → ShowWider few states texts → ShowWider more states texts
wider-same few more states texts same h = subst (λ (ps : List (List Piece)). ShowWider ps states texts) same h

module _ (schema : Schema) (states : ℕ) (s : Slot) where
  -- ---- what is met

  pub met-by-test : (p : Predicate) (t : Test) → test_of s p ≡ Some t → (w : Within) → DecidesPossible schema (t ∷ []) ((0, true) ∷ []) s states w → AnswersMet schema states s p w
  met-by-test p t e within.Yes h = record {
    request = h.request;
    valid = h.valid;
    meets = by-test (TestHolds h.request) s p t e (one-answered schema t true h);
  }
  met-by-test p t e within.No h = λ met. h (one-possible schema t true met.request met.valid (of-test (TestHolds met.request) s p t e met.meets))
  met-by-test p t e (within.TooMany texts) h = wider-same _ _ states texts (asked-met schema s p t e (test-on s p t e)) h

  -- every valid request meets `any`
  pub every-met : (p : Predicate) → p ≡ Every → HasValidRequest schema → AnswersMet schema states s p within.Yes
  every-met p is some = subst (λ (q : Predicate). AnswersMet schema states s q within.Yes) (sym is) (record { request = some.0; valid = some.1; meets = tt })

  -- ---- what lies below what

  led : (p q : Predicate) (u : Test) → test_of s q ≡ Some u → (t : Test) → test_of s p ≡ Some t → TestLeads schema t u → AnswersWithin schema states s p q within.Yes
  led p q u f t e leads r valid meets = by-test (TestHolds r) s q u f (leads r valid (of-test (TestHolds r) s p t e meets))

  pub below-led : (p q : Predicate) (u : Test) → test_of s q ≡ Some u → (one : Option Test) → one ≡ test_of s p → MatchOption one ⊥ (λ t. TestLeads schema t u) → AnswersWithin schema states s p q within.Yes
  below-led p q u f None e leads = absurd leads
  below-led p q u f (Some t) e leads = led p q u f t (sym e) leads

  pub below-every : (p q : Predicate) → q ≡ Every → AnswersWithin schema states s p q within.Yes
  below-every p q is = subst (λ (x : Predicate). AnswersWithin schema states s p x within.Yes) (sym is) (λ r valid meets. tt)

  below-both : (p q : Predicate) (t u : Test) → test_of s p ≡ Some t → test_of s q ≡ Some u → (w : Within) → DecidesEscape schema s states (Some t) u w → AnswersWithin schema states s p q (opposite_answer w)
  below-both p q t u e f within.Yes h = record {
    request = h.request;
    valid = h.valid;
    meets = by-test (TestHolds h.request) s p t e (two-yes schema t u h);
    misses = λ meets. two-no schema t u h (of-test (TestHolds h.request) s q u f meets);
  }
  below-both p q t u e f within.No h = λ r valid meets.
      by-test (TestHolds r) s q u f (not-not r u (λ fails. h (two-possible schema t u r valid (of-test (TestHolds r) s p t e meets) fails)))
  below-both p q t u e f (within.TooMany texts) h = wider-same _ _ states texts (asked-both schema s p q t u e f (test-on s p t e) (test-on s q u f)) h

  below-missed : (q : Predicate) (u : Test) → test_of s q ≡ Some u → (w : Within) → DecidesEscape schema s states None u w → AnswersWithin schema states s Every q (opposite_answer w)
  below-missed q u f within.Yes h = record {
    request = h.request;
    valid = h.valid;
    meets = tt;
    misses = λ meets. one-answered schema u false h (of-test (TestHolds h.request) s q u f meets);
  }
  below-missed q u f within.No h = λ r valid meets.
      by-test (TestHolds r) s q u f (not-not r u (λ fails. h (one-possible schema u false r valid fails)))
  below-missed q u f (within.TooMany texts) h = wider-same _ _ states texts (asked-missed schema s q u f (test-on s q u f)) h

  pub below-by-test : (p q : Predicate) (u : Test) → SuitsSlot schema s p → test_of s q ≡ Some u → (one : Option Test) → one ≡ test_of s p → (w : Within) → DecidesEscape schema s states one u w → AnswersWithin schema states s p q (opposite_answer w)
  below-by-test p q u suits f None e w h =
      subst (λ (x : Predicate). AnswersWithin schema states s x q (opposite_answer w)) (sym (no-test schema s p suits (sym e))) (below-missed q u f w h)
  below-by-test p q u suits f (Some t) e w h = below-both p q t u (sym e) f w h
