-- The set of findings allows what lies in some of them.
use Rattle.std.proofs.Common.{◌≢◌, ◌↔◌, ℕ, suc, List, [], ◌∷◌, map, length, Bool, true, false, All, Any, AllPairs, Option, Some, None, refl, sym, subst, inl, inr, arith}
use Rattle.std.specs.Prelude.{⊤}
use Rattle.std.proofs.lemmas.Bool.{cases_lt}
use Rattle.std.proofs.lemmas.List.{get_or_past}
use Rattle.std.proofs.lemmas.List.Elements.{All-head, All-nil, All-tail}
use Rattle.wildcard_lang.specs.declared.piece.Piece.TheVariants.{Many}
use Rattle.wildcard_lang.specs.Matching.{Matches, is_done, no_pieces, takes_more}
use Rattle.policy_model.specs.declared.principal.Entry.{Entry}
use Rattle.policy_model.specs.declared.principal.Entry.TheVariants as entry
use Rattle.policy_model.specs.declared.request.Request.{Request}
use Rattle.policy_model.specs.declared.schema.Schema.{Schema}
use Rattle.policy_model.specs.declared.set.Document.{Document}
use Rattle.policy_model.specs.declared.test.Slot.{Slot}
use Rattle.policy_model.specs.declared.test.Test.{Test}
use Rattle.policy_model.specs.Conditions.{ConditionHolds}
use Rattle.policy_model.specs.Principals.{EntryHolds}
use Rattle.policy_model.specs.Requests.{IsValid}
use Rattle.policy_model.specs.Sets.{Allows, Applies, Decides, MatcherHolds, OptionalHolds, SomeDecides}
use Rattle.policy_model.specs.Soundness.{TestSuits}
use Rattle.policy_model.proofs.Laws.{Any-here, Any-later, Any-nil, Any-split}
use Rattle.policy_compile.specs.Laws.{TestsOfSetQueriesSuit}
use Rattle.strata.specs.declared.predicate.Predicate.{Predicate}
use Rattle.strata.specs.declared.predicate.Predicate.TheVariants.{Every, Principal, Word, Meets}
use Rattle.strata.specs.declared.stratum.Stratum.{Stratum}
use Rattle.strata.specs.Covers.{predicate_at}
use Rattle.strata.specs.Predicates.{SuitsSlot}
use Rattle.strata.specs.Strata.{IsStratum}
use Rattle.strata.proofs.Laws.{stratum-suits}
use Rattle.findings.specs.Findings.{LiesInFinding}
use Rattle.policy_emit.specs.declared.part.Part.{Part}
use Rattle.policy_emit.specs.declared.part.Part.TheVariants as part
use Rattle.policy_emit.specs.Emitted.{conditions_in, emitted_document, emitted_set, emitted_statement, entry_in, pattern_in, predicate_of}
use Rattle.policy_emit.specs.Laws.{EmittedSetsAllowFindings}
use Rattle.policy_emit.specs.Written.{entry_element, one_item}
use Rattle.policy_emit.proofs.Lying.{AllSuit, AreApart, HasPart, Lacks, MeetsPart, lies-by-parts, others-all, predicate-has}
use Rattle.policy_emit.proofs.Placing.{ordered-all, ordered-back}

one : {X : Type 0} (P : X → Type 0) (x : X) → Any P (x ∷ []) ↔ P x
one P x = (λ h. elim (Any-split P x [] h) [ inl own ↦ own | inr later ↦ absurd (Any-nil P later) ], λ h. Any-here P x [] h)

-- ---- the elements of a statement

star-matches : (t : List ℕ) → Matches (Many ∷ []) t
star-matches [] = is_done refl no_pieces
star-matches (c ∷ t) = takes_more refl refl (star-matches t)

abbrev Suits : Schema → Part → Option Predicate → Type 0
Suits schema p asked = HasPart (SuitsSlot schema) p asked

module _ (r : Request) where
  entry-meets : (e : Entry) → OptionalHolds (EntryHolds r) (entry_element e) ↔ EntryHolds r e
  entry-meets entry.All = (λ h. tt, λ h. tt)
  entry-meets (entry.Kind kind) = one (EntryHolds r) (entry.Kind kind)
  entry-meets (entry.Account account) = one (EntryHolds r) (entry.Account account)
  entry-meets (entry.Exact kind id) = one (EntryHolds r) (entry.Exact kind id)

  principal-meets : (schema : Schema) (asked : Option Predicate) → Suits schema part.Principal asked → OptionalHolds (EntryHolds r) (entry_element (entry_in asked)) ↔ MeetsPart r part.Principal asked
  principal-meets schema None suits = (λ h. tt, λ h. tt)
  principal-meets schema (Some Every) suits = (λ h. tt, λ h. tt)
  principal-meets schema (Some (Principal e)) suits = entry-meets e
  principal-meets schema (Some (Word pattern)) suits = absurd suits
  principal-meets schema (Some (Meets c)) suits = absurd suits

  star-meets : (t : List ℕ) → Any (λ p. Matches p t) ((Many ∷ []) ∷ []) ↔ ⊤
  star-meets t = (λ h. tt, λ h. Any-here (λ p. Matches p t) (Many ∷ []) [] (star-matches t))

  action-meets : (schema : Schema) (asked : Option Predicate) → Suits schema part.Action asked → MatcherHolds (λ p. Matches p r.action) (one_item (pattern_in asked)) ↔ MeetsPart r part.Action asked
  action-meets schema None suits = star-meets r.action
  action-meets schema (Some Every) suits = star-meets r.action
  action-meets schema (Some (Principal e)) suits = absurd suits
  action-meets schema (Some (Word pattern)) suits = one (λ p. Matches p r.action) pattern
  action-meets schema (Some (Meets c)) suits = absurd suits

  resource-meets : (schema : Schema) (asked : Option Predicate) → Suits schema part.Resource asked → MatcherHolds (λ p. Matches p r.resource) (one_item (pattern_in asked)) ↔ MeetsPart r part.Resource asked
  resource-meets schema None suits = star-meets r.resource
  resource-meets schema (Some Every) suits = star-meets r.resource
  resource-meets schema (Some (Principal e)) suits = absurd suits
  resource-meets schema (Some (Word pattern)) suits = one (λ p. Matches p r.resource) pattern
  resource-meets schema (Some (Meets c)) suits = absurd suits

-- ---- a statement

module _ (schema : Schema) (r : Request) (valid : IsValid schema r) (ds : List Stratum) (suit : AllSuit schema ds) (apart : AreApart ds) where
  applies : (f : List ℕ) → Applies schema (emitted_statement schema ds f) r ↔ LiesInFinding r ds f
  applies f =
      let lies = lies-by-parts schema r valid ds f suit apart in
      let who = principal-meets r schema (predicate_of part.Principal ds f) (predicate-has (SuitsSlot schema) part.Principal ds f suit) in
      let what = action-meets r schema (predicate_of part.Action ds f) (predicate-has (SuitsSlot schema) part.Action ds f suit) in
      let where_to = resource-meets r schema (predicate_of part.Resource ds f) (predicate-has (SuitsSlot schema) part.Resource ds f suit) in (
        λ h. lies.1 (record { who = who.0 h.principal; what = what.0 h.action; where_to = where_to.0 h.resource; keys = ordered-back (ConditionHolds schema r) (conditions_in schema ds f) (others-all schema ds f apart) h.conditions }),
        λ h. (let parts = lies.0 h in record { principal = who.1 parts.who; action = what.1 parts.what; resource = where_to.1 parts.where_to; conditions = ordered-all (ConditionHolds schema r) (conditions_in schema ds f) parts.keys }),
      )

  some-applies : (fs : List (List ℕ)) → Any (Decides schema true r) (map (emitted_statement schema ds) fs) ↔ Any (LiesInFinding r ds) fs
  some-applies [] = (λ h. absurd (Any-nil (Decides schema true r) h), λ h. absurd (Any-nil (LiesInFinding r ds) h))
  some-applies (f ∷ fs) = (
    λ h. elim (Any-split (Decides schema true r) (emitted_statement schema ds f) (map (emitted_statement schema ds) fs) h) [
      | inl own ↦ Any-here (LiesInFinding r ds) f fs ((applies f).0 own.1)
      | inr later ↦ Any-later (LiesInFinding r ds) f fs ((some-applies fs).0 later)
    ],
    λ h. elim (Any-split (LiesInFinding r ds) f fs h) [
      | inl own ↦ Any-here (Decides schema true r) (emitted_statement schema ds f) (map (emitted_statement schema ds) fs) (refl, (applies f).1 own)
      | inr later ↦ Any-later (Decides schema true r) (emitted_statement schema ds f) (map (emitted_statement schema ds) fs) ((some-applies fs).1 later)
    ],
  )

  none-denies : (fs : List (List ℕ)) → Any (Decides schema false r) (map (emitted_statement schema ds) fs) → ⊥
  none-denies [] h = Any-nil (Decides schema false r) h
  none-denies (f ∷ fs) h = elim (Any-split (Decides schema false r) (emitted_statement schema ds f) (map (emitted_statement schema ds) fs) h) [
    | inl own ↦ (let wrong = own.0 in absurd (cc))
    | inr later ↦ none-denies fs later
  ]

  pub allows-findings : (fs : List (List ℕ)) → Allows schema (emitted_set schema ds fs) r ↔ Any (LiesInFinding r ds) fs
  allows-findings fs =
      let granting = λ (allow : Bool) (d : Document). Any (Decides schema allow r) d.statements in
      let document = emitted_document schema ds fs in (
        λ h. (some-applies fs).0 ((one (granting true) document).0 h.granted),
        λ h. record {
          granted = (one (granting true) document).1 ((some-applies fs).1 h);
          guarded = All-nil (SomeDecides schema true r);
          not_denied = λ some. none-denies fs ((one (granting false) document).0 some);
          not_denied_by_guard = λ some. Any-nil (SomeDecides schema false r) some;
        },
      )

-- ---- strata that are made for a set

suits-at : (schema : Schema) (s : Slot) (ps : List Predicate) → All (SuitsSlot schema s) ps → (n : ℕ) → SuitsSlot schema s (predicate_at ps n)
suits-at schema s ps all n = elim (cases_lt n (length ps)) [
  | inl within ↦ all n Every within
  | inr past ↦ subst (SuitsSlot schema s) (sym (get_or_past ps n Every past)) tt
]

all-suit : (schema : Schema) (tests : List Test) → All (TestSuits schema) tests → (ds : List Stratum) → All (IsStratum schema tests) ds → AllSuit schema ds
all-suit schema tests suit [] all = tt
all-suit schema tests suit (d ∷ ds) all = (
  λ n. suits-at schema d.slot d.predicates (stratum-suits schema tests d suit (All-head (IsStratum schema tests) d ds all)) n,
  all-suit schema tests suit ds (All-tail (IsStratum schema tests) d ds all),
)

abbrev Differ : Slot → Slot → Type 0
Differ s t = s ≢ t

pairs-head : (s : Slot) (ds : List Stratum) → AllPairs Differ (s ∷ map (λ x. x.slot) ds) → All (Differ s) (map (λ x. x.slot) ds)
pairs-head s ds pairs = λ i d within. pairs 0 (suc i) d (omega arith) (omega (arith, within))

pairs-tail : (s : Slot) (ds : List Stratum) → AllPairs Differ (s ∷ map (λ x. x.slot) ds) → AllPairs Differ (map (λ x. x.slot) ds)
pairs-tail s ds pairs = λ i j d less within. pairs (suc i) (suc j) d (omega (arith, less)) (omega (arith, within))

lacking : (s : Slot) (ds : List Stratum) → All (Differ s) (map (λ x. x.slot) ds) → Lacks s ds
lacking s [] all = tt
lacking s (d ∷ ds) all = (All-head (Differ s) d.slot (map (λ x. x.slot) ds) all, lacking s ds (All-tail (Differ s) d.slot (map (λ x. x.slot) ds) all))

pub all-apart : (ds : List Stratum) → AllPairs Differ (map (λ x. x.slot) ds) → AreApart ds
all-apart [] pairs = tt
all-apart (d ∷ ds) pairs = (lacking d.slot ds (pairs-head d.slot ds pairs), all-apart ds (pairs-tail d.slot ds pairs))

pub sets-allow-findings : TestsOfSetQueriesSuit → EmittedSetsAllowFindings
sets-allow-findings suit = λ schema set base strata fs made r valid.
    let ds = strata.dimensions in
    let suits = all-suit schema base.tests (suit schema set base.tests made.fits made.query.tests) ds made.are.each in
    let apart = all-apart ds (subst (λ (slots : List Slot). AllPairs Differ slots) (sym made.are.on) made.differ) in
    allows-findings schema r valid ds suits apart fs
