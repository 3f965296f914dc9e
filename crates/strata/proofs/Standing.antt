-- How a predicate stands to those that are kept, as questions on it are answered.
use Rattle.std.proofs.Common.{◌≡◌, ◌≢◌, ℕ, zero, suc, ◌+◌, ◌<◌, ◌≤◌, List, [], ◌∷◌, ◌++◌, length, get_or, take, drop, All, Bool, true, false, true≢false, ◌&&◌, IsTrue, ◌↔◌, Contains, Option, Some, None, refl, sym, ap, ◌∙◌, subst, inl, inr, ◌⊎◌, arith}
use Rattle.std.specs.Prelude.{Any, Result, Ok, Err, IsErrAnd}
use Rattle.std.proofs.lemmas.Bool.{and_from, and_parts, cases_lt}
use Rattle.std.proofs.lemmas.List.{get_or_read, take-append-drop, take_all, take_more}
use Rattle.std.proofs.lemmas.List.Elements.{All-contains, All-take, Contains-append_left, Contains-append_right, Contains-push, Contains-push_cases}
use Rattle.wildcard_lang.specs.Places.{ShowWider}
use Rattle.policy_model.specs.declared.schema.Schema.{Schema}
use Rattle.policy_model.specs.declared.test.Slot.{Slot}
use Rattle.policy_model.specs.Requests.{HasValidRequest}
use Rattle.strata.specs.declared.inclusion.Within.{Within}
use Rattle.strata.specs.declared.inclusion.Within.TheVariants as within
use Rattle.strata.specs.declared.kept.Kept.{Kept}
use Rattle.strata.specs.declared.outcome.StrataFault.{StrataFault}
use Rattle.strata.specs.declared.outcome.StrataFault.TheVariants.{TooManyPredicates, Wide, NoMemory}
use Rattle.strata.specs.declared.predicate.Predicate.{Predicate}
use Rattle.strata.specs.declared.predicate.Predicate.TheVariants.{Every}
use Rattle.strata.specs.declared.rows.Row.{Row}
use Rattle.strata.specs.Asking.{AnswersMet, AnswersWithin, pair_patterns}
use Rattle.strata.specs.Below.{AreKeptAmong, IsMetUnder, MeetTheSame, keeps_none}
use Rattle.strata.specs.Covers.{predicate_at}
use Rattle.strata.specs.Predicates.{SuitsSlot}
use Rattle.strata.specs.Rows.{AreAnswered, IsRow, RowsDecideOrder, DecidesBelow}
use Rattle.strata.specs.Settling.{AreKeptSoFar, FailsAmong, FailsWide, IsRowOf, IsWidePair, KeepsOf, KeepsOneMore, SettlesTo, DecidesMet, DecidesWithin}
use Rattle.strata.proofs.Answering.{answered-none, answered-push, below-says, says-below, told-none, told-push}
use Rattle.strata.proofs.Ordering.{below-self, kept-named}
use Rattle.strata.proofs.Keeping.{kept-among, new-covers, new-keeps, same-covers, same-keeps, unmet-covers, unmet-keeps}

-- ---- what is asked

-- where some request is valid, some valid one meets `any`
pub any-met : (schema : Schema) (s : Slot) (p : Predicate) → p ≡ Every → HasValidRequest schema → IsTrue true ↔ IsMetUnder schema s p
any-met schema s p is some = (λ _. subst (IsMetUnder schema s) (sym is) (record { request = some.0; valid = some.1; meets = tt }), λ _. refl)

-- what an answer comes to, where the predicate isn't `any`
pub settles-met : (schema : Schema) (states : ℕ) (s : Slot) (p : Predicate) (answer : Within) (r : Result Bool StrataFault) → p ≢ Every → AnswersMet schema states s p answer → SettlesTo s answer r → DecidesMet schema states s p r
settles-met schema states s p answer (Err NoMemory) differ says is = tt
settles-met schema states s p within.Yes (Ok b) differ says is = (λ _. says, λ _. (cc))
settles-met schema states s p within.No (Ok b) differ says is = (λ on. absurd (cc), λ met. absurd (says met))
settles-met schema states s p (within.TooMany texts) (Ok b) differ says is = absurd (cc)
settles-met schema states s p within.Yes (Err (Wide t xs)) differ says is = absurd (cc)
settles-met schema states s p within.No (Err (Wide t xs)) differ says is = absurd (cc)
settles-met schema states s p (within.TooMany texts) (Err (Wide t xs)) differ says is =
    (cc, record { differ = differ; wider = (let same : texts ≡ xs = cc in subst (ShowWider (pair_patterns schema s p Every) states) same says) })
settles-met schema states s p within.Yes (Err (TooManyPredicates d)) differ says is = absurd (cc)
settles-met schema states s p within.No (Err (TooManyPredicates d)) differ says is = absurd (cc)
settles-met schema states s p (within.TooMany texts) (Err (TooManyPredicates d)) differ says is = absurd (cc)

-- and of two predicates that differ
pub settles-within : (schema : Schema) (states : ℕ) (s : Slot) (p q : Predicate) (answer : Within) (r : Result Bool StrataFault) → p ≢ q → AnswersWithin schema states s p q answer → SettlesTo s answer r → DecidesWithin schema states s p q r
settles-within schema states s p q answer (Err NoMemory) differ says is = tt
settles-within schema states s p q within.Yes (Ok b) differ says is = (let on : true ≡ b = cc in subst (λ (a : Bool). DecidesBelow schema s p q a) on says)
settles-within schema states s p q within.No (Ok b) differ says is = (let off : false ≡ b = cc in subst (λ (a : Bool). DecidesBelow schema s p q a) off says)
settles-within schema states s p q (within.TooMany texts) (Ok b) differ says is = absurd (cc)
settles-within schema states s p q within.Yes (Err (Wide t xs)) differ says is = absurd (cc)
settles-within schema states s p q within.No (Err (Wide t xs)) differ says is = absurd (cc)
settles-within schema states s p q (within.TooMany texts) (Err (Wide t xs)) differ says is =
    (cc, record { differ = differ; wider = (let same : texts ≡ xs = cc in subst (ShowWider (pair_patterns schema s p q) states) same says) })
settles-within schema states s p q within.Yes (Err (TooManyPredicates d)) differ says is = absurd (cc)
settles-within schema states s p q within.No (Err (TooManyPredicates d)) differ says is = absurd (cc)
settles-within schema states s p q (within.TooMany texts) (Err (TooManyPredicates d)) differ says is = absurd (cc)

-- each predicate is below an equal one
pub equal-within : (schema : Schema) (states : ℕ) (s : Slot) (p q : Predicate) → p ≡ q → DecidesWithin schema states s p q (Ok true)
equal-within schema states s p q same = subst (λ (t : Predicate). DecidesWithin schema states s p t (Ok true)) same (below-self schema s p)

-- `any` and those that are named
pub any-in : (names : List Predicate) → Contains (Every ∷ names) Every
any-in names = (0, omega arith, refl)

pub in-more : (names : List Predicate) (p : Predicate) → Contains names p → Contains (Every ∷ names) p
in-more names p here = Contains-append_right (Every ∷ []) names p here

pub in-cases : (names : List Predicate) (p : Predicate) → Contains (Every ∷ names) p → (Every ≡ p) ⊎ Contains names p
in-cases names p (zero, l, e) = inl e
in-cases names p (suc k, l, e) = inr (k, omega arith, e)

-- a pair of predicates that is too wide is one of those that are named
pub pair-fails : (schema : Schema) (states : ℕ) (s : Slot) (p q : Predicate) (names : List Predicate) (e : StrataFault) → Contains (Every ∷ names) p → Contains (Every ∷ names) q → FailsWide (IsWidePair schema states s p q) s e → FailsAmong schema states s names e
pair-fails schema states s p q names (Wide t texts) here there h = (h.0, record { one = p; other = q; one_named = here; other_named = there; differ = h.1.differ; wider = h.1.wider })
pair-fails schema states s p q names (TooManyPredicates d) here there h = h
pair-fails schema states s p q names NoMemory here there h = tt

longer-in : (few names : List Predicate) → ((p : Predicate) → Contains few p → Contains names p) → (p : Predicate) → Contains (Every ∷ few) p → Contains (Every ∷ names) p
longer-in few names more p here = elim (in-cases few p here) [
  | inl any ↦ subst (Contains (Every ∷ names)) any (any-in names)
  | inr other ↦ in-more names p (more p other)
]

-- what is too wide among some is too wide among more
pub fails-more : (schema : Schema) (states : ℕ) (s : Slot) (few names : List Predicate) (e : StrataFault) → ((p : Predicate) → Contains few p → Contains names p) → FailsAmong schema states s few e → FailsAmong schema states s names e
fails-more schema states s few names (Wide t texts) more h = (
  h.0,
  record {
    one = h.1.one;
    other = h.1.other;
    one_named = longer-in few names more h.1.one h.1.one_named;
    other_named = longer-in few names more h.1.other h.1.other_named;
    differ = h.1.differ;
    wider = h.1.wider;
  },
)
fails-more schema states s few names (TooManyPredicates d) more h = h
fails-more schema states s few names NoMemory more h = tt

-- ---- rows

pub row-none : (schema : Schema) (s : Slot) (kept : List Predicate) (p : Predicate) (row : Row) → row.below ≡ [] → row.above ≡ [] → IsRow schema s kept 0 p row
row-none schema s kept p row below above = record {
  below = subst (λ (xs : List Bool). AreAnswered (λ q b. DecidesBelow schema s p q b) kept 0 xs) (sym below) (answered-none (λ q b. DecidesBelow schema s p q b) kept);
  above = subst (λ (xs : List Bool). AreAnswered (λ q b. DecidesBelow schema s q p b) kept 0 xs) (sym above) (answered-none (λ q b. DecidesBelow schema s q p b) kept);
}

-- an answer of one who answers for the schema
pub told-below : (now schema : Schema) (s : Slot) (p q : Predicate) (b : Bool) → now ≡ schema → DecidesBelow now s p q b → DecidesBelow schema s p q b
told-below now schema s p q b same h = subst (λ (x : Schema). DecidesBelow x s p q b) same h

pub told-wide : (now schema : Schema) (had states : ℕ) (s : Slot) (p q : Predicate) (e : StrataFault) → now ≡ schema → had ≡ states → FailsWide (IsWidePair now had s p q) s e → FailsWide (IsWidePair schema states s p q) s e
told-wide now schema had states s p q e same few h = subst (λ (x : Schema). FailsWide (IsWidePair x states s p q) s e) same (subst (λ (n : ℕ). FailsWide (IsWidePair now n s p q) s e) few h)

-- one more predicate was compared
pub row-push : (schema : Schema) (s : Slot) (kept : List Predicate) (i : ℕ) (p q : Predicate) (row : Row) (below above : Bool) (lows highs : List Bool) → IsRow schema s kept i p row → i < length kept → q ≡ get_or kept i q → DecidesBelow schema s p q below → DecidesBelow schema s q p above → lows ≡ row.below ++ below ∷ [] → highs ≡ row.above ++ above ∷ [] → IsRow schema s kept (i + 1) p (record { below = lows; above = highs })
row-push schema s kept i p q row below above lows highs h within at low high is_low is_high =
    let here : q ≡ predicate_at kept i = get_or_read kept i q within at Every in
    record {
      below = subst (λ (xs : List Bool). AreAnswered (λ t b. DecidesBelow schema s p t b) kept (i + 1) xs) (sym is_low) (answered-push (λ t b. DecidesBelow schema s p t b) kept i row.below below h.below (subst (λ (t : Predicate). DecidesBelow schema s p t below) here low));
      above = subst (λ (xs : List Bool). AreAnswered (λ t b. DecidesBelow schema s t p b) kept (i + 1) xs) (sym is_high) (answered-push (λ t b. DecidesBelow schema s t p b) kept i row.above above h.above (subst (λ (t : Predicate). DecidesBelow schema s t p above) here high));
    }

-- none of the first n predicates is met by the same requests as p
abbrev pub AreApart : Schema → Slot → List Predicate → ℕ → Predicate → Type 0
AreApart schema s kept n p = (j : ℕ) → j < n → MeetTheSame schema s (predicate_at kept j) p → ⊥

pub apart-push : (schema : Schema) (s : Slot) (kept : List Predicate) (i : ℕ) (p q : Predicate) (below above both : Bool) → AreApart schema s kept i p → i < length kept → q ≡ get_or kept i q → DecidesBelow schema s p q below → DecidesBelow schema s q p above → both ≡ (below && above) → both ≡ false → AreApart schema s kept (i + 1) p
apart-push schema s kept i p q below above both h within at low high is off j l same = elim (cases_lt j i) [
  | inl before ↦ h j before same
  | inr past ↦
      let last : j ≡ i = omega arith in
      let here : predicate_at kept j ≡ q = ap (predicate_at kept) last ∙ sym (get_or_read kept i q within at Every) in
      let own : MeetTheSame schema s q p = subst (λ (t : Predicate). MeetTheSame schema s t p) here same in
      let on : (below && above) ≡ true = and_from below above (below-says schema s p q below low own.above) (below-says schema s q p above high own.below) in
      true≢false (sym on ∙ (sym is ∙ off))
]

-- one of those that are kept is met by the same requests
pub row-same : (schema : Schema) (s : Slot) (kept : List Predicate) (i : ℕ) (p q : Predicate) (below above both : Bool) → i < length kept → q ≡ get_or kept i q → DecidesBelow schema s p q below → DecidesBelow schema s q p above → both ≡ (below && above) → both ≡ true → Any (λ t. MeetTheSame schema s t p) kept
row-same schema s kept i p q below above both within at low high is on =
    let parts = and_parts below above (sym is ∙ on) in
    (i, q, within, sym at, record { below = says-below schema s q p above high parts.1; above = says-below schema s p q below low parts.0 })

-- none of those that are kept is
pub row-end : (schema : Schema) (s : Slot) (kept : List Predicate) (n : ℕ) (p : Predicate) (row : Row) → n ≡ length kept → IsRow schema s kept n p row → AreApart schema s kept n p → IsRow schema s kept (length kept) p row × ¬ Any (λ q. MeetTheSame schema s q p) kept
row-end schema s kept n p row end h apart = (
  subst (λ (m : ℕ). IsRow schema s kept m p row) end h,
  λ some. apart some.0 (omega (arith, end, some.2)) (subst (λ (t : Predicate). MeetTheSame schema s t p) (get_or_read kept some.0 some.1 some.2 (sym some.3) Every) some.4),
)

pub row-fails : (schema : Schema) (states : ℕ) (s : Slot) (kept : List Predicate) (p : Predicate) (r : Result (Option Row) StrataFault) (e : StrataFault) → IsErrAnd r (λ f. f ≡ e) → FailsAmong schema states s (kept ++ p ∷ []) e → IsRowOf schema states s kept p r
row-fails schema states s kept p (Ok o) e is h = absurd is
row-fails schema states s kept p (Err f) e is h = subst (FailsAmong schema states s (kept ++ p ∷ [])) (sym is) h

-- ---- what is kept

pub so-far-none : (schema : Schema) (s : Slot) (kept : Kept) → kept.predicates ≡ [] → kept.rows ≡ [] → AreKeptSoFar schema s [] kept
so-far-none schema s kept none rows = record {
  keeps = subst (λ (ps : List Predicate). AreKeptAmong schema s [] ps) (sym none) keeps_none;
  covers = λ q here met. absurd (omega (arith, here.1));
  rows_decide = subst (λ (ps : List Predicate). RowsDecideOrder schema s ps kept.rows) (sym none) (subst (λ (xs : List Row). RowsDecideOrder schema s [] xs) (sym rows) (told-none schema s));
}

pub so-far-unmet : (schema : Schema) (s : Slot) (names : List Predicate) (kept : Kept) (p : Predicate) (b : Bool) → AreKeptSoFar schema s names kept → IsTrue b ↔ IsMetUnder schema s p → b ≡ false → AreKeptSoFar schema s (names ++ p ∷ []) kept
so-far-unmet schema s names kept p b h says off =
    let unmet : IsMetUnder schema s p → ⊥ = λ met. true≢false (sym (says.1 met) ∙ off) in
    record {
      keeps = unmet-keeps schema s names kept.predicates p h.keeps unmet;
      covers = unmet-covers schema s names kept.predicates p h.covers unmet;
      rows_decide = h.rows_decide;
    }

pub so-far-same : (schema : Schema) (s : Slot) (names : List Predicate) (kept : Kept) (p : Predicate) → AreKeptSoFar schema s names kept → Any (λ q. MeetTheSame schema s q p) kept.predicates → AreKeptSoFar schema s (names ++ p ∷ []) kept
so-far-same schema s names kept p h some = record {
  keeps = same-keeps schema s names kept.predicates p h.keeps some;
  covers = same-covers schema s names kept.predicates p h.covers some;
  rows_decide = h.rows_decide;
}

pub so-far-new : (schema : Schema) (s : Slot) (names : List Predicate) (kept new : Kept) (p : Predicate) (row : Row) → AreKeptSoFar schema s names kept → IsMetUnder schema s p → IsRow schema s kept.predicates (length kept.predicates) p row × ¬ Any (λ q. MeetTheSame schema s q p) kept.predicates → new.predicates ≡ kept.predicates ++ p ∷ [] → new.rows ≡ kept.rows ++ row ∷ [] → AreKeptSoFar schema s (names ++ p ∷ []) new
so-far-new schema s names kept new p row h met is predicates rows = record {
  keeps = subst (λ (ps : List Predicate). AreKeptAmong schema s (names ++ p ∷ []) ps) (sym predicates) (new-keeps schema s names kept.predicates p h.keeps h.covers met is.1);
  covers = λ q here own. subst (λ (ps : List Predicate). Any (λ k. MeetTheSame schema s k q) ps) (sym predicates) (new-covers schema s names kept.predicates p h.covers q here own);
  rows_decide = subst (λ (ps : List Predicate). RowsDecideOrder schema s ps new.rows) (sym predicates) (subst (λ (xs : List Row). RowsDecideOrder schema s (kept.predicates ++ p ∷ []) xs) (sym rows) (told-push schema s kept.predicates kept.rows p row h.rows_decide is.0));
}

-- what is kept and one more are among what is named and one more
pub among-more : (schema : Schema) (s : Slot) (names : List Predicate) (kept : Kept) (p : Predicate) → AreKeptSoFar schema s names kept → (q : Predicate) → Contains (kept.predicates ++ p ∷ []) q → Contains (names ++ p ∷ []) q
among-more schema s names kept p h q here = elim (Contains-push_cases kept.predicates p q here) [
  | inl before ↦ Contains-append_left names (p ∷ []) q (All-contains (Contains names) kept.predicates q (kept-among schema s names kept.predicates h.keeps) before)
  | inr last ↦ subst (Contains (names ++ p ∷ [])) last (Contains-push names p)
]

pub one-fails : (schema : Schema) (states : ℕ) (s : Slot) (names : List Predicate) (kept : Kept) (r : Result Unit StrataFault) (e : StrataFault) → IsErrAnd r (λ f. f ≡ e) → FailsAmong schema states s names e → KeepsOneMore schema states s names kept r
one-fails schema states s names kept (Ok u) e is h = absurd is
one-fails schema states s names kept (Err f) e is h = subst (FailsAmong schema states s names) (sym is) h

pub kept-fails : (schema : Schema) (states : ℕ) (s : Slot) (names : List Predicate) (r : Result Kept StrataFault) (e : StrataFault) → IsErrAnd r (λ f. f ≡ e) → FailsAmong schema states s names e → KeepsOf schema states s names r
kept-fails schema states s names (Ok kept) e is h = absurd is
kept-fails schema states s names (Err f) e is h = subst (FailsAmong schema states s names) (sym is) h

-- ---- one more predicate is looked at

pub met-fails : (schema : Schema) (states : ℕ) (s : Slot) (names : List Predicate) (kept : Kept) (p : Predicate) (r : Result Unit StrataFault) (e : StrataFault) → IsErrAnd r (λ f. f ≡ e) → FailsWide (IsWidePair schema states s p Every) s e → KeepsOneMore schema states s (names ++ p ∷ []) kept r
met-fails schema states s names kept p r e is h =
    one-fails schema states s (names ++ p ∷ []) kept r e is (pair-fails schema states s p Every (names ++ p ∷ []) e (in-more (names ++ p ∷ []) p (Contains-push names p)) (any-in (names ++ p ∷ [])) h)

-- what a row says under the schema that is answered for, of the predicates as they are kept
row-here : (now schema : Schema) (had states : ℕ) (s : Slot) (kept xs : List Predicate) (p : Predicate) (r : Result (Option Row) StrataFault) → now ≡ schema → had ≡ states → xs ≡ kept → IsRowOf now had s xs p r → IsRowOf schema states s kept p r
row-here now schema had states s kept xs p r same few is h =
    subst (λ (x : Schema). IsRowOf x states s kept p r) same (subst (λ (n : ℕ). IsRowOf now n s kept p r) few (subst (λ (ps : List Predicate). IsRowOf now had s ps p r) is h))

pub rows-fail : (now schema : Schema) (had states : ℕ) (s : Slot) (names : List Predicate) (kept new : Kept) (xs : List Predicate) (p : Predicate) (r : Result Unit StrataFault) (e : StrataFault) → IsErrAnd r (λ f. f ≡ e) → now ≡ schema → had ≡ states → xs ≡ kept.predicates → AreKeptSoFar schema s names kept → IsRowOf now had s xs p (Err e) → KeepsOneMore schema states s (names ++ p ∷ []) new r
rows-fail now schema had states s names kept new xs p r e is same few predicates so_far h =
    one-fails schema states s (names ++ p ∷ []) new r e is
    (fails-more schema states s (kept.predicates ++ p ∷ []) (names ++ p ∷ []) e (among-more schema s names kept p so_far) (row-here now schema had states s kept.predicates xs p (Err e) same few predicates h))

pub so-far-missed : (now schema : Schema) (had : ℕ) (s : Slot) (names : List Predicate) (kept : Kept) (xs : List Predicate) (p : Predicate) (found : Option Row) → now ≡ schema → xs ≡ kept.predicates → AreKeptSoFar schema s names kept → IsRowOf now had s xs p (Ok found) → found ≡ None → AreKeptSoFar schema s (names ++ p ∷ []) kept
so-far-missed now schema had s names kept xs p found same predicates so_far h none =
    so-far-same schema s names kept p so_far (subst (λ (o : Option Row). IsRowOf schema had s kept.predicates p (Ok o)) none (row-here now schema had had s kept.predicates xs p (Ok found) same refl predicates h))

pub so-far-found : (now schema : Schema) (had : ℕ) (s : Slot) (names : List Predicate) (kept new : Kept) (xs : List Predicate) (p copied : Predicate) (found : Option Row) (row : Row) (met : Bool) → now ≡ schema → xs ≡ kept.predicates → AreKeptSoFar schema s names kept → IsTrue met ↔ IsMetUnder schema s p → met ≡ true → IsRowOf now had s xs p (Ok found) → found ≡ Some row → copied ≡ p → new.predicates ≡ kept.predicates ++ copied ∷ [] → new.rows ≡ kept.rows ++ row ∷ [] → AreKeptSoFar schema s (names ++ p ∷ []) new
so-far-found now schema had s names kept new xs p copied found row met same predicates so_far says on h some copy longer rows =
    so-far-new schema s names kept new p row so_far (says.0 on)
    (subst (λ (o : Option Row). IsRowOf schema had s kept.predicates p (Ok o)) some (row-here now schema had had s kept.predicates xs p (Ok found) same refl predicates h))
    (longer ∙ ap (λ (q : Predicate). kept.predicates ++ q ∷ []) copy) rows

-- ---- all that are named

-- one more of the named ones
take-one : (names : List Predicate) (i : ℕ) (p : Predicate) → i < length names → p ≡ get_or names i p → take (i + 1) names ≡ take i names ++ p ∷ []
take-one names i p within is = take_more names i p within ∙ ap (λ (q : Predicate). take i names ++ q ∷ []) (sym is)

-- what is kept suits the slot as what is named does
pub each-suits : (schema : Schema) (s : Slot) (names : List Predicate) (i : ℕ) (kept : Kept) → All (SuitsSlot schema s) names → AreKeptSoFar schema s (take i names) kept → All (SuitsSlot schema s) kept.predicates
each-suits schema s names i kept suit so_far = kept-named (SuitsSlot schema s) schema s [] (take i names) kept.predicates so_far.keeps (All-take (SuitsSlot schema s) i names suit)

pub each-more : (now schema : Schema) (s : Slot) (names : List Predicate) (i : ℕ) (p : Predicate) (kept new : Kept) → i < length names → p ≡ get_or names i p → now ≡ schema → AreKeptSoFar schema s (take i names) kept →
    ((earlier : List Predicate) → AreKeptSoFar now s earlier kept → AreKeptSoFar now s (earlier ++ p ∷ []) new) → AreKeptSoFar schema s (take (i + 1) names) new
each-more now schema s names i p kept new within is same so_far step =
    subst (λ (ns : List Predicate). AreKeptSoFar schema s ns new) (sym (take-one names i p within is))
    (subst (λ (x : Schema). AreKeptSoFar x s (take i names ++ p ∷ []) new) same (step (take i names) (subst (λ (x : Schema). AreKeptSoFar x s (take i names) kept) (sym same) so_far)))

-- those so far and one more are among what is named
taken-in : (names : List Predicate) (i : ℕ) (q : Predicate) → Contains (take i names) q → Contains names q
taken-in names i q here = subst (λ (ns : List Predicate). Contains ns q) (take-append-drop i names) (Contains-append_left (take i names) (drop i names) q here)

pub each-fails : (now schema : Schema) (had states : ℕ) (s : Slot) (names : List Predicate) (i : ℕ) (p : Predicate) (kept new : Kept) (r : Result Kept StrataFault) (e : StrataFault) → IsErrAnd r (λ f. f ≡ e) → i < length names → p ≡ get_or names i p → now ≡ schema → had ≡ states →
    AreKeptSoFar schema s (take i names) kept → ((earlier : List Predicate) → AreKeptSoFar now s earlier kept → KeepsOneMore now had s (earlier ++ p ∷ []) new (Err e)) → KeepsOf schema states s names r
each-fails now schema had states s names i p kept new r e is within at same few so_far step =
    kept-fails schema states s names r e is (fails-more schema states s (take (i + 1) names) names e (taken-in names (i + 1)) here)
  where
    first : FailsAmong now had s (take i names ++ p ∷ []) e
    first = step (take i names) (subst (λ (x : Schema). AreKeptSoFar x s (take i names) kept) (sym same) so_far)

    second : FailsAmong schema states s (take i names ++ p ∷ []) e
    second = subst (λ (x : Schema). FailsAmong x states s (take i names ++ p ∷ []) e) same (subst (λ (n : ℕ). FailsAmong now n s (take i names ++ p ∷ []) e) few first)

    here : FailsAmong schema states s (take (i + 1) names) e
    here = subst (λ (ns : List Predicate). FailsAmong schema states s ns e) (sym (take-one names i p within at)) second

pub end-keeps : (schema : Schema) (s : Slot) (names : List Predicate) (i : ℕ) (kept : Kept) → length names ≤ i → AreKeptSoFar schema s (take i names) kept → AreKeptSoFar schema s names kept
end-keeps schema s names i kept past h = subst (λ (ns : List Predicate). AreKeptSoFar schema s ns kept) (take_all i names past) h
