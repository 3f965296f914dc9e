-- The limits of queries depend on which tests are read, and not on their order.
use Rattle.std.proofs.Common.{◌≡◌, ◌≤◌, List, [], ◌∷◌, ◌++◌, length, sym, subst, inl, inr, ◌⊎◌, arith}
use Rattle.std.specs.Prelude.{Contains, sum_by}
use Rattle.std.specs.List.{list_any}
use Rattle.std.proofs.lemmas.Bool.{cases_Bool}
use Rattle.std.proofs.lemmas.List.{append-nil}
use Rattle.std.proofs.lemmas.List.Elements.{All-contains, All-contains_itself, All-nil, Contains-append_left, Contains-push}
use Rattle.std.proofs.lemmas.Map.Views.{Contains-from_any}
use Rattle.policy_model.specs.contracts.test.TestPartialEq.TheImpl as test
use Rattle.policy_model.specs.declared.test.Test.{Test}
use Rattle.policy_compile.specs.declared.outcome.Query.{Query}
use Rattle.policy_compile.specs.Building.{IsBeginningOf}
use Rattle.policy_compile.specs.Limits.{AskTheSameTests, IsWithinLimits, MeetLimitsAlike}
use Rattle.policy_compile.specs.Numbering.{Collects, HasTooMany, nothing, again, anew}
use Rattle.policy_compile.specs.Plans.{Plan, tests_in}
use Rattle.policy_compile.specs.Queries.{HasTooManyPieces, IsQuery, test_pieces}
use Rattle.policy_compile.proofs.Asking.{not_had}
use Rattle.policy_compile.proofs.Collecting.{Collects-begins}
use Rattle.policy_compile.proofs.Distinct.{IsApart, apart-more, length-within, split, sum-within}
use Rattle.policy_compile.proofs.Equal.{tests-Decides}
use Rattle.policy_compile.proofs.Ranges.{All-collects}

-- a test is had, or it isn't
had-or-new : (had : List Test) (t : Test) → Contains had t ⊎ ¬ Contains had t
had-or-new had t = elim (cases_Bool (list_any (test.eq-value.it t) had)) [
  | inl e ↦ inl (Contains-from_any (λ x y h. (tests-Decides x y).0 h) t had e)
  | inr e ↦ inr (not_had test.eq-value.it tests-Decides had t e)
]

-- what is had after tests were read
record Got (had read : List Test) : Type 0 where
  got : List Test
  collects : Collects had read got

got-after : (had read : List Test) → Got had read
got-after had [] = record { got = had; collects = nothing }
got-after had (t ∷ read) = elim (had-or-new had t) [
  | inl old ↦ let rest = got-after had read in record { got = rest.got; collects = again old rest.collects }
  | inr new ↦ let rest = got-after (had ++ t ∷ []) read in record { got = rest.got; collects = anew new rest.collects }
]

-- nothing is had twice
pub apart-collects : (had read got : List Test) → Collects had read got → IsApart had → IsApart got
apart-collects had [] got nothing apart = apart
apart-collects had (t ∷ read) got (again old rest) apart = apart-collects had read got rest apart
apart-collects had (t ∷ read) got (anew new rest) apart = apart-collects (had ++ t ∷ []) read got rest (apart-more had t apart new)

-- what was had is had
still-had : (had read got : List Test) → Collects had read got → (t : Test) → Contains had t → Contains got t
still-had had read got collects t at =
    let begins : IsBeginningOf had got = Collects-begins had read got collects in
    subst (λ (ts : List Test). Contains ts t) (sym begins.is) (Contains-append_left had begins.rest t at)

-- what was read is had
pub had-read : (had read got : List Test) → Collects had read got → (t : Test) → Contains read t → Contains got t
had-read had [] got nothing t at = absurd (let none = at.1 in omega arith)
had-read had (u ∷ read) got (again old rest) t at = elim (split u read t at) [
  | inl same ↦ still-had had read got rest t (subst (λ (v : Test). Contains had v) same old)
  | inr more ↦ had-read had read got rest t more
]
had-read had (u ∷ read) got (anew new rest) t at = elim (split u read t at) [
  | inl same ↦ still-had (had ++ u ∷ []) read got rest t (subst (λ (v : Test). Contains (had ++ u ∷ []) v) same (Contains-push had u))
  | inr more ↦ had-read (had ++ u ∷ []) read got rest t more
]

-- what is had was read
pub read-had : (read got : List Test) → Collects [] read got → (t : Test) → Contains got t → Contains read t
read-had read got collects t at = All-contains (Contains read) got t (All-collects (Contains read) [] read got collects (All-nil (Contains read)) (All-contains_itself read)) at

-- ---- the limits

-- the tests of the first plan are among those of the second
abbrev AsksWithin : Plan → Plan → Type 0
AsksWithin p q = (t : Test) → Contains (tests_in p) t → Contains (tests_in q) t

-- tests that are got of the first are got of the second
got-within : (p q : Plan) (front rest got other : List Test) → AsksWithin p q → tests_in p ≡ front ++ rest → Collects [] front got → Collects [] (tests_in q) other → (t : Test) → Contains got t → Contains other t
got-within p q front rest got other within is collects whole t at =
    let own : Contains (tests_in p) t = subst (λ (ts : List Test). Contains ts t) (sym is) (Contains-append_left front rest t (read-had front got collects t at)) in
    had-read [] (tests_in q) other whole t (within t own)

whole-within : (p q : Plan) (got other : List Test) → AsksWithin p q → Collects [] (tests_in p) got → Collects [] (tests_in q) other → (t : Test) → Contains got t → Contains other t
whole-within p q got other within collects whole t at = had-read [] (tests_in q) other whole t (within t (read-had (tests_in p) got collects t at))

many-within : (p q : Plan) → AsksWithin p q → HasTooMany [] (tests_in p) → HasTooMany [] (tests_in q)
many-within p q within h =
    let whole = got-after [] (tests_in q) in
    let more : length h.got ≤ length whole.got = length-within h.got whole.got (apart-collects [] h.front h.got h.collects tt)
    (got-within p q h.front h.rest h.got whole.got within h.is h.collects whole.collects) in
    record { front = tests_in q; rest = []; got = whole.got; is = sym (append-nil (tests_in q)); collects = whole.collects; many = omega (arith, more, h.many) }

large-within : (p q : Plan) → AsksWithin p q → AsksWithin q p → HasTooManyPieces p → HasTooManyPieces q
large-within p q within back h =
    let whole = got-after [] (tests_in q) in
    let fewer : length whole.got ≤ length h.tests = length-within whole.got h.tests (apart-collects [] (tests_in q) whole.got whole.collects tt)
    (whole-within q p whole.got h.tests back whole.collects h.collects) in
    let larger : sum_by test_pieces h.tests ≤ sum_by test_pieces whole.got = sum-within test_pieces h.tests whole.got (apart-collects [] (tests_in p) h.tests h.collects tt)
    (whole-within p q h.tests whole.got within h.collects whole.collects) in
    record { tests = whole.got; collects = whole.collects; few = omega (arith, fewer, h.few); large = omega (arith, larger, h.large) }

-- plans with the same tests meet limits alike
pub same-limits : (p q : Plan) → AskTheSameTests p q → MeetLimitsAlike p q
same-limits p q same =
    let there : AsksWithin p q = λ t at. (same t).0 at in
    let back : AsksWithin q p = λ t at. (same t).1 at in
    record {
      tests = (many-within p q there, many-within q p back);
      pieces = (large-within p q there back, large-within q p back there);
    }

-- a query is past no limit
query-tests : (p : Plan) (q : Query) → IsQuery p q → ¬ HasTooMany [] (tests_in p)
query-tests p q is h =
    let fewer : length h.got ≤ length q.tests = length-within h.got q.tests (apart-collects [] h.front h.got h.collects tt)
    (got-within p p h.front h.rest h.got q.tests (λ t at. at) h.is h.collects is.tests) in
    let few = is.few in
    let many = h.many in
    omega arith

query-pieces : (p : Plan) (q : Query) → IsQuery p q → ¬ HasTooManyPieces p
query-pieces p q is h =
    let smaller : sum_by test_pieces h.tests ≤ sum_by test_pieces q.tests = sum-within test_pieces h.tests q.tests (apart-collects [] (tests_in p) h.tests h.collects tt)
    (whole-within p p h.tests q.tests (λ t at. at) h.collects is.tests) in
    let small = is.small in
    let large = h.large in
    omega arith

pub query-within : (p : Plan) (q : Query) → IsQuery p q → IsWithinLimits p
query-within p q is = record { tests = query-tests p q is; pieces = query-pieces p q is }
