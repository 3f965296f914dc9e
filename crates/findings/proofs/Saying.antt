-- What the predicates say, as the table grows and as answers are joined.
use Rattle.std.proofs.Common.{◌≡◌, ◌≢◌, ◌↔◌, ℕ, zero, suc, ◌<◌, Bool, true, false, List, [], ◌∷◌, ◌++◌, Option, Some, None, Ok, Err, IfOk, length, get_or, inl, inr, refl, sym, ap, subst, ◌∙◌}
use Rattle.std.specs.Prelude.{Contains, MatchBool, MatchOption, Result, slice_get}
use Rattle.std.proofs.lemmas.Bool.{cases_eq}
use Rattle.std.proofs.lemmas.Option.{slice_get-get_or}
use Rattle.formula_tree.specs.Answers.{Answers, answer_of}
use Rattle.formula_tree.proofs.Laws.{answer_of-besides, answer_of-last}
use Rattle.policy_model.specs.declared.request.Request.{Request}
use Rattle.policy_model.specs.declared.schema.Schema.{Schema}
use Rattle.policy_model.specs.declared.test.Slot.{Slot}
use Rattle.policy_model.specs.declared.test.Slot.TheVariants as slot
use Rattle.policy_model.specs.declared.test.Test.{Test}
use Rattle.policy_model.specs.Tests.{TestHolds}
use Rattle.slot_theory.specs.Possible.{AnswersPath}
use Rattle.strata.specs.declared.predicate.Predicate.{Predicate}
use Rattle.strata.specs.declared.predicate.Predicate.TheVariants.{Every, Principal, Word, Meets}
use Rattle.strata.specs.declared.stratum.Stratum.{Stratum}
use Rattle.strata.specs.Covers.{predicate_at}
use Rattle.strata.specs.Predicates.{MeetsPredicate, test_of}
use Rattle.findings.specs.declared.known.KnownAnswers.{KnownAnswers}
use Rattle.findings.specs.Queries.{numbers_below}
use Rattle.findings.specs.Steps.{predicate_number_at}
use Rattle.findings.specs.KnownAnswers.{AddsFinerAt, AddsTestAnswer, AnswersOther, AnswersTests, AreOwnAnswers, AreInsideAnswers, JoinsAnswers, AreGivenByEach, AreGivenInDimension, IsAnswerTable, PassesOrFails, answers_in}

-- ---- lists that grow

other-index : {T : Type 0} (xs : List T) (x d : T) (k : ℕ) → k ≢ length xs → get_or (xs ++ x ∷ []) k d ≡ get_or xs k d
other-index [] x d zero ne = absurd (ne refl)
other-index [] x d (suc k) ne = refl
other-index (y ∷ xs) x d zero ne = refl
other-index (y ∷ xs) x d (suc k) ne = other-index xs x d k (λ e. ne (ap suc e))

last-index : {T : Type 0} (xs : List T) (x d : T) → get_or (xs ++ x ∷ []) (length xs) d ≡ x
last-index [] x d = refl
last-index (y ∷ xs) x d = last-index xs x d

-- what holds at each index, also of the default behind the end, holds at each where one more item is there
each-pushed : {T : Type 0} (P : ℕ → T → Type 0) (d : T) (xs ys : List T) (x : T) (n : ℕ) → length xs ≡ n → ys ≡ xs ++ x ∷ [] → ((k : ℕ) → P k (get_or xs k d)) → P n x → (k : ℕ) → P k (get_or ys k d)
each-pushed {T} P d xs ys x n count is before here k = elim (cases_eq k (length xs)) [
  | inl same ↦ (
      let read : get_or ys k d ≡ x = ap (λ (zs : List T). get_or zs k d) is ∙ ap (λ (j : ℕ). get_or (xs ++ x ∷ []) j d) same ∙ last-index xs x d in
      let at : k ≡ n = same ∙ count in
      subst (P k) (sym read) (subst (λ (j : ℕ). P j x) (sym at) here))
  | inr other ↦ (
      let read : get_or ys k d ≡ get_or xs k d = ap (λ (zs : List T). get_or zs k d) is ∙ other-index xs x d k other in
      subst (P k) (sym read) (before k))
]

-- ---- what one predicate says

-- a test is passed where its predicate is met
test-meets : (s : Slot) (p : Predicate) (t : Test) (r : Request) → test_of s p ≡ Some t → (MeetsPredicate s p r ↔ TestHolds r t)
test-meets slot.Principal Every t r is = absurd (cc)
test-meets slot.Action Every t r is = absurd (cc)
test-meets slot.Resource Every t r is = absurd (cc)
test-meets (slot.Key key) Every t r is = absurd (cc)
test-meets s (Principal e) t r is = subst (λ (o : Option Test). MatchOption o ⊥ (TestHolds r) ↔ TestHolds r t) (sym is) (λ h. h, λ h. h)
test-meets s (Word w) t r is = subst (λ (o : Option Test). MatchOption o ⊥ (TestHolds r) ↔ TestHolds r t) (sym is) (λ h. h, λ h. h)
test-meets s (Meets c) t r is = subst (λ (o : Option Test). MatchOption o ⊥ (TestHolds r) ↔ TestHolds r t) (sym is) (λ h. h, λ h. h)

turned : (b : Bool) {P Q : Type 0} → (P ↔ Q) → MatchBool b P (¬ P) → MatchBool b Q (¬ Q)
turned true same h = same.0 h
turned false same h = λ q. h (same.1 q)

-- nothing is answered
no-answers : (tests : List Test) (r : Request) → AnswersPath tests [] r
no-answers tests r n b t at is = absurd (cc)

pub tests-none : (schema : Schema) (met : Bool) (one : Test) (tests : List Test) (path : Answers) → path ≡ [] → AnswersTests schema one met tests path
tests-none schema met one tests path empty = subst (AnswersTests schema one met tests) (sym empty) (λ r valid stands. no-answers tests r)

pub tests-next : (schema : Schema) (met : Bool) (one : Test) (tests : List Test) (old new : Answers) (i n : ℕ) (t : Test) (b : Bool) → AnswersTests schema one met tests old → i < length tests → t ≡ get_or tests i t → n ≡ i →
    AnswersOther schema one met t b → AddsTestAnswer old n b new → AnswersTests schema one met tests new
tests-next schema met one tests old new i n t b before within at number says adds r valid stands k c u answered there = elim (adds k c answered) [
  | inl was ↦ before r valid stands k c u was there
  | inr this ↦ (
      let here : slice_get tests i ≡ Some t = slice_get-get_or tests i t within ∙ ap Some (sym at) in
      let own : slice_get tests i ≡ Some u = subst (λ (j : ℕ). slice_get tests j ≡ Some u) (this.0 ∙ number) there in
      let same : t ≡ u = cc in
      subst (λ (x : Test). PassesOrFails c x r) same (subst (λ (x : Bool). PassesOrFails x t r) (sym this.1) (says r valid stands)))
]

none-given : (schema : Schema) (met : Bool) (s : Slot) (p : Predicate) (tests : List Test) → AreGivenByEach schema met s p tests []
none-given schema met s p tests r valid stands = no-answers tests r

pub says-none : (schema : Schema) (met : Bool) (s : Slot) (p : Predicate) (tests : List Test) (path : Answers) → path ≡ [] → AreGivenByEach schema met s p tests path
says-none schema met s p tests path empty = subst (AreGivenByEach schema met s p tests) (sym empty) (none-given schema met s p tests)

pub says-test : (schema : Schema) (met : Bool) (s : Slot) (p : Predicate) (tests : List Test) (path : Answers) (t : Test) → test_of s p ≡ Some t → AnswersTests schema t met tests path → AreGivenByEach schema met s p tests path
says-test schema met s p tests path t is says r valid stands = says r valid (turned met (test-meets s p t r is) stands)

pub says-read : {E : Type 0} (schema : Schema) (met : Bool) (s : Slot) (p : Predicate) (tests : List Test) (r : Result Answers E) (t : Test) → test_of s p ≡ Some t → IfOk r (AnswersTests schema t met tests) → IfOk r (AreGivenByEach schema met s p tests)
says-read schema met s p tests (Ok path) t is says = says-test schema met s p tests path t is says
says-read schema met s p tests (Err e) t is says = says

-- ---- the table

pub none-say : (schema : Schema) (met : Bool) (d : Stratum) (tests : List Test) (paths : List Answers) → paths ≡ [] → AreGivenInDimension schema met d tests paths
none-say schema met d tests paths empty = subst (AreGivenInDimension schema met d tests) (sym empty) (λ n. none-given schema met d.slot (predicate_at d.predicates n) tests)

pub paths-say : (schema : Schema) (met : Bool) (d : Stratum) (tests : List Test) (old new : List Answers) (path : Answers) (n : ℕ) → length old ≡ n → new ≡ old ++ path ∷ [] → AreGivenInDimension schema met d tests old →
    AreGivenByEach schema met d.slot (predicate_at d.predicates n) tests path → AreGivenInDimension schema met d tests new
paths-say schema met d tests old new path n count grows before here =
    each-pushed (λ k p. AreGivenByEach schema met d.slot (predicate_at d.predicates k) tests p) [] old new path n count grows before here

pub table-none : (schema : Schema) (met : Bool) (ds : List Stratum) (tests : List Test) (table : List (List Answers)) → table ≡ [] → IsAnswerTable schema met ds tests table
table-none schema met ds tests table empty = subst (IsAnswerTable schema met ds tests) (sym empty) (λ i d at n. none-given schema met d.slot (predicate_at d.predicates n) tests)

pub table-says : (schema : Schema) (met : Bool) (ds : List Stratum) (tests : List Test) (old new : List (List Answers)) (paths : List Answers) (n : ℕ) (d : Stratum) → length old ≡ n → new ≡ old ++ paths ∷ [] → IsAnswerTable schema met ds tests old →
    slice_get ds n ≡ Some d → AreGivenInDimension schema met d tests paths → IsAnswerTable schema met ds tests new
table-says schema met ds tests old new paths n d count grows before at here =
    each-pushed (λ k ps. (e : Stratum) → slice_get ds k ≡ Some e → AreGivenInDimension schema met e tests ps) [] old new paths n count grows before
    (λ e there. (let same : d ≡ e = cc in subst (λ (x : Stratum). AreGivenInDimension schema met x tests paths) same here))

-- ---- answers that are added

pub adds-none : (old : Answers) (test : ℕ) (answer : Bool) → AddsTestAnswer old test answer old
adds-none old test answer n b h = inl h

pub adds-last : (old new : Answers) (test : ℕ) (answer : Bool) → answer_of old test ≡ None → new ≡ old ++ (test, answer) ∷ [] → AddsTestAnswer old test answer new
adds-last old new test answer fresh is n b h =
    let has : answer_of (old ++ (test, answer) ∷ []) n ≡ Some b = subst (λ (p : Answers). answer_of p n ≡ Some b) is h in
    elim (cases_eq n test) [
      | inl same ↦ (
          let own : answer_of (old ++ (test, answer) ∷ []) test ≡ Some b = subst (λ (k : ℕ). answer_of (old ++ (test, answer) ∷ []) k ≡ Some b) same has in
          let last = answer_of-last old test answer fresh in
          let is_b : b ≡ answer = cc in
          inr (same, is_b))
      | inr other ↦ inl (sym (answer_of-besides old test answer n other) ∙ has)
    ]

pub joins-none : (old more : Answers) → JoinsAnswers old more old
joins-none old more n b h = inl h

pub met-none : (known : KnownAnswers) (f : List ℕ) (path : Answers) → path ≡ [] → AreInsideAnswers known f path
met-none known f path empty = subst (AreInsideAnswers known f) (sym empty) (λ n b h. absurd (cc))

pub finer-none : (known : KnownAnswers) (d : Stratum) (f : List ℕ) (i : ℕ) (old : Answers) → AddsFinerAt known d f i old old
finer-none known d f i old n b h = inl h

pub finer-next : (known : KnownAnswers) (d : Stratum) (f : List ℕ) (i : ℕ) (start old new : Answers) (lower : ℕ) → AddsFinerAt known d f i start old → Contains (numbers_below d (predicate_number_at f i)) lower → JoinsAnswers old (answers_in known.missed i lower) new → AddsFinerAt known d f i start new
finer-next known d f i start old new lower before among joins n b h = elim (joins n b h) [
  | inl was ↦ before n b was
  | inr more ↦ inr (record { lower = lower; among = among; has = more })
]

pub lying-first : (known : KnownAnswers) (ds : List Stratum) (f : List ℕ) (path : Answers) → AreInsideAnswers known f path → AreOwnAnswers known ds f path
lying-first known ds f path are n b h = inl (are n b h)

pub lying-next : (known : KnownAnswers) (ds : List Stratum) (f : List ℕ) (old new : Answers) (i : ℕ) (d : Stratum) → AreOwnAnswers known ds f old → slice_get ds i ≡ Some d → AddsFinerAt known d f i old new → AreOwnAnswers known ds f new
lying-next known ds f old new i d before at adds n b h = elim (adds n b h) [
  | inl was ↦ before n b was
  | inr finer ↦ inr (record { dimension = i; stratum = d; at = at; finer = finer })
]
