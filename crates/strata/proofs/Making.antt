-- The strata of all slots.
use Rattle.std.proofs.Common.{◌≡◌, ℕ, zero, suc, ◌+◌, ◌<◌, ◌≤◌, ◌^◌, List, [], ◌∷◌, ◌++◌, length, get_or, map, All, Contains, Some, refl, sym, ap, ◌∙◌, subst, inl, inr, arith}
use Rattle.std.specs.Prelude.{Result, Ok, Err, IsErrAnd, slice_get}
use Rattle.std.proofs.lemmas.Bool.{cases_lt}
use Rattle.std.proofs.lemmas.List.{get_or-map, get_or_append_left, get_or_default, get_or_push, length-map, length_push, same_lists}
use Rattle.std.proofs.lemmas.Option.{get_or_from_slice_get}
use Rattle.policy_model.specs.declared.schema.Schema.{Schema}
use Rattle.policy_model.specs.declared.test.Slot.{Slot}
use Rattle.policy_model.specs.declared.test.Slot.TheVariants as slot
use Rattle.policy_model.specs.declared.test.Test.{Test}
use Rattle.policy_model.specs.Soundness.{SchemaIsSound, TestSuits}
use Rattle.policy_compile.specs.declared.outcome.Query.{Query}
use Rattle.slot_theory.specs.Slots.{SlotIsIn}
use Rattle.strata.specs.declared.kept.Kept.{Kept}
use Rattle.strata.specs.declared.outcome.StrataFault.{StrataFault}
use Rattle.strata.specs.declared.outcome.StrataFault.TheVariants.{TooManyPredicates, Wide, NoMemory}
use Rattle.strata.specs.declared.predicate.Predicate.{Predicate}
use Rattle.strata.specs.declared.predicate.Predicate.TheVariants.{Every}
use Rattle.strata.specs.declared.rows.Row.{Row}
use Rattle.strata.specs.declared.stratum.Strata.{Strata}
use Rattle.strata.specs.declared.stratum.Stratum.{Stratum}
use Rattle.strata.specs.Asking.{IsAskedIn}
use Rattle.strata.specs.Below.{AreKeptAmong}
use Rattle.strata.specs.Causes.{AreFew, AreStrataOf, HaveWidePair, IsFirstTooMany, NamesTooMany, NamesWide}
use Rattle.strata.specs.Making.{AreAllNamed, AreFewNamed, AreStrataAmong, IsStratumOf, MakesAll, MakesStratum, NamesAll, SuitSlots, named_at, slot_at}
use Rattle.strata.specs.Predicates.{AreNamed, SuitsSlot, read_in}
use Rattle.strata.specs.Rows.{AreMaximalByRows, RowsDecideOrder}
use Rattle.strata.specs.Settling.{AreKeptSoFar, FailsAmong}
use Rattle.strata.specs.Strata.{AreStrata, IsOrder, IsStratum}
use Rattle.strata.proofs.Gathering.{gathers-unique}
use Rattle.strata.proofs.Keeping.{kept-few}
use Rattle.strata.proofs.Ordering.{gathers-begins}
use Rattle.strata.proofs.Standing.{in-cases}
use Rattle.strata.proofs.Suiting.{named-suit}
use Rattle.strata.proofs.Telling.{told-order}

-- ---- what is named in all slots

at-some : {X : Type 0} (xs : List X) (d : ℕ) (x : X) → d < length xs → x ≡ get_or xs d x → slice_get xs d ≡ Some x
at-some [] d x l e = absurd (omega arith)
at-some (y ∷ xs) zero x l e = ap Some (sym e)
at-some (y ∷ xs) (suc d) x l e = at-some xs d x (omega arith) e

at-slot : (slots : List Slot) (d : ℕ) (s : Slot) → d < length slots → s ≡ get_or slots d s → s ≡ slot_at slots d
at-slot slots d s l e = e ∙ get_or_default slots d s slot.Principal l

pub named-none : (most : ℕ) (tests : List Test) (slots : List Slot) (all : List (List Predicate)) → all ≡ [] → AreAllNamed most tests slots 0 all
named-none most tests slots all none = record { count = ap (λ (xs : List (List Predicate)). length xs) none; each = λ d l. absurd (omega arith) }

pub named-push : (most : ℕ) (tests : List Test) (slots : List Slot) (n : ℕ) (all new : List (List Predicate)) (s : Slot) (names : List Predicate) → AreAllNamed most tests slots n all → n < length slots → s ≡ get_or slots n s → AreNamed s tests names → (most < length names → ⊥) → new ≡ all ++ names ∷ [] → AreAllNamed most tests slots (n + 1) new
named-push most tests slots n all new s names h within at named few longer =
    subst (λ (xs : List (List Predicate)). AreAllNamed most tests slots (n + 1) xs) (sym longer) (record {
      count = length_push all names ∙ ap (λ m. m + 1) h.count;
      each = λ d l. elim (cases_lt d n) [
        | inl before ↦ subst (λ (ns : List Predicate). AreFewNamed most tests (slot_at slots d) ns) (sym (get_or_append_left all (names ∷ []) [] d (omega (arith, h.count)))) (h.each d before)
        | inr past ↦
            let same : n ≡ d = omega arith in
            subst (λ (ns : List Predicate). AreFewNamed most tests (slot_at slots d) ns) (sym (get_or_push all names [] d (h.count ∙ same)))
            (subst (λ (m : ℕ). AreFewNamed most tests (slot_at slots m) names) same
            (record { named = subst (λ (t : Slot). AreNamed t tests names) (at-slot slots n s within at) named; few = few-of names few }))
      ];
    })
  where
    few-of : (ns : List Predicate) → (most < length ns → ⊥) → length ns ≤ most
    few-of ns not = elim (cases_lt most (length ns)) [ inl less ↦ absurd (not less) | inr more ↦ more ]

not-too-many : (most : ℕ) (tests : List Test) (s : Slot) (names : List Predicate) → AreFewNamed most tests s names → NamesTooMany most tests s → ⊥
not-too-many most tests s names few many =
    let same : names ≡ many.names = gathers-unique (Every ∷ []) (read_in s tests) names many.names few.named many.named in
    omega (arith, few.few, many.many, ap (λ (ns : List Predicate). length ns) same)

pub first-too-many : (most : ℕ) (tests : List Test) (slots : List Slot) (d : ℕ) (all : List (List Predicate)) (s : Slot) (names : List Predicate) → AreAllNamed most tests slots d all → d < length slots → s ≡ get_or slots d s → AreNamed s tests names → most < length names → IsFirstTooMany most tests slots d
first-too-many most tests slots d all s names h within at named many = record {
  slot = s;
  at = at-some slots d s within at;
  many = record { names = names; named = named; many = many };
  first = λ e t l there.
      not-too-many most tests t (named_at all e) (subst (λ (x : Slot). AreFewNamed most tests x (named_at all e)) (get_or_from_slice_get slots e t slot.Principal there) (h.each e l));
}

pub named-end : (most : ℕ) (tests : List Test) (slots : List Slot) (n : ℕ) (all : List (List Predicate)) → n ≤ length slots → length slots ≤ n → AreAllNamed most tests slots n all → AreAllNamed most tests slots (length slots) all
named-end most tests slots n all low high h = let same : n ≡ length slots = omega arith in subst (λ (m : ℕ). AreAllNamed most tests slots m all) same h

-- ---- one stratum

pub stratum-fails : (schema : Schema) (states : ℕ) (s : Slot) (names xs : List Predicate) (r : Result Stratum StrataFault) (e : StrataFault) → IsErrAnd r (λ f. f ≡ e) → xs ≡ names → FailsAmong schema states s xs e → MakesStratum schema states s names r
stratum-fails schema states s names xs (Ok x) e is same h = absurd is
stratum-fails schema states s names xs (Err f) e is same h = subst (FailsAmong schema states s names) (sym is) (subst (λ (ns : List Predicate). FailsAmong schema states s ns e) same h)

pub kept-fits : (schema : Schema) (s : Slot) (names xs : List Predicate) (kept : Kept) (rows : List Row) → rows ≡ kept.rows → xs ≡ names → length names < 2 ^ 32 → AreKeptSoFar schema s xs kept → length rows < 2 ^ 32
kept-fits schema s names xs kept rows same whole few h =
    omega (arith, ap (λ (ys : List Row). length ys) same, ap (λ (ns : List Predicate). length ns) whole, h.rows_decide.count, kept-few schema s [] xs kept.predicates h.keeps)

pub stratum-made : (schema : Schema) (s copied : Slot) (names xs : List Predicate) (kept : Kept) (rows : List Row) (lists : List (List ℕ)) → copied ≡ s → rows ≡ kept.rows → xs ≡ names → AreKeptSoFar schema s xs kept → AreMaximalByRows rows (length rows) lists → IsStratumOf schema s names (record { slot = copied; predicates = kept.predicates; below = lists; rows = kept.rows })
stratum-made schema s copied names xs kept rows lists copy same whole h told = record {
  slot = copy;
  kept = subst (λ (ns : List Predicate). AreKeptAmong schema s ns kept.predicates) whole h.keeps;
  order = told-order schema s kept.predicates kept.rows lists h.rows_decide (subst (λ (ys : List Row). AreMaximalByRows ys (length ys) lists) same told);
  rows_decide = h.rows_decide;
}

-- ---- all strata

pub made-none : (schema : Schema) (slots : List Slot) (all : List (List Predicate)) (made : List Stratum) → made ≡ [] → AreStrataAmong schema slots all 0 made
made-none schema slots all made none = record { count = ap (λ (xs : List Stratum). length xs) none; each = λ d x l. absurd (omega arith) }

pub made-push : (schema : Schema) (slots : List Slot) (all : List (List Predicate)) (n : ℕ) (made new : List Stratum) (s : Slot) (names : List Predicate) (x : Stratum) → AreStrataAmong schema slots all n made → n < length slots → n < length all → s ≡ get_or slots n s → names ≡ get_or all n names → IsStratumOf schema s names x → new ≡ made ++ x ∷ [] → AreStrataAmong schema slots all (n + 1) new
made-push schema slots all n made new s names x h within inside at own is longer =
    subst (λ (xs : List Stratum). AreStrataAmong schema slots all (n + 1) xs) (sym longer) (record {
      count = length_push made x ∙ ap (λ m. m + 1) h.count;
      each = λ d y l. elim (cases_lt d n) [
        | inl before ↦ subst (λ (z : Stratum). IsStratumOf schema (slot_at slots d) (named_at all d) z) (sym (get_or_append_left made (x ∷ []) y d (omega (arith, h.count)))) (h.each d y before)
        | inr past ↦
            let same : n ≡ d = omega arith in
            subst (λ (z : Stratum). IsStratumOf schema (slot_at slots d) (named_at all d) z) (sym (get_or_push made x y d (h.count ∙ same)))
            (subst (λ (m : ℕ). IsStratumOf schema (slot_at slots m) (named_at all m) x) same
            (subst (λ (t : Slot). IsStratumOf schema t (named_at all n) x) (at-slot slots n s within at)
            (subst (λ (ns : List Predicate). IsStratumOf schema s ns x) (own ∙ get_or_default all n names [] inside) is)))
      ];
    })

pub made-fails : (schema : Schema) (states : ℕ) (slots : List Slot) (all : List (List Predicate)) (n : ℕ) (s : Slot) (names : List Predicate) (r : Result Strata StrataFault) (e : StrataFault) → IsErrAnd r (λ f. f ≡ e) → n < length slots → n < length all → s ≡ get_or slots n s → names ≡ get_or all n names → FailsAmong schema states s names e → MakesAll schema states slots all r
made-fails schema states slots all n s names (Ok x) e is within inside at own h = absurd is
made-fails schema states slots all n s names (Err f) e is within inside at own h = by f (subst (FailsAmong schema states (slot_at slots n) (named_at all n)) (sym is) here)
  where
    here : FailsAmong schema states (slot_at slots n) (named_at all n) e
    here = subst (λ (t : Slot). FailsAmong schema states t (named_at all n) e) (at-slot slots n s within at) (subst (λ (ns : List Predicate). FailsAmong schema states s ns e) (own ∙ get_or_default all n names [] inside) h)

    by : (g : StrataFault) → FailsAmong schema states (slot_at slots n) (named_at all n) g → MakesAll schema states slots all (Err g)
    by NoMemory k = tt
    by (TooManyPredicates d) k = absurd k
    by (Wide t texts) k = record { index = n; within = within; fails = k }

pub made-end : (schema : Schema) (slots : List Slot) (all : List (List Predicate)) (n : ℕ) (made : List Stratum) → n ≤ length slots → length slots ≤ n → AreStrataAmong schema slots all n made → AreStrataAmong schema slots all (length slots) made
made-end schema slots all n made low high h = let same : n ≡ length slots = omega arith in subst (λ (m : ℕ). AreStrataAmong schema slots all m made) same h

-- ---- the outcome

pub all-asked : (schema : Schema) (slots : List Slot) → SchemaIsSound schema → All (SlotIsIn schema) slots → All (IsAskedIn schema) slots
all-asked schema slots sound within = λ k d l. record { sound = sound; slot = within k d l }

pub all-suit : (most : ℕ) (schema : Schema) (tests : List Test) (slots : List Slot) (all : List (List Predicate)) → most < 2 ^ 32 → All (TestSuits schema) tests → AreAllNamed most tests slots (length slots) all → SuitSlots schema slots all
all-suit most schema tests slots all fits suit h = record {
  count = h.count;
  suit = λ d l. named-suit schema (slot_at slots d) tests (named_at all d) suit (h.each d l).named;
  few = λ d l. omega (arith, (h.each d l).few, fits);
}

all-few : (most : ℕ) (tests : List Test) (slots : List Slot) (all : List (List Predicate)) → AreAllNamed most tests slots (length slots) all → AreFew most tests slots
all-few most tests slots all h k d l many =
    not-too-many most tests (slot_at slots k) (named_at all k) (h.each k l) (subst (NamesTooMany most tests) (get_or_default slots k d slot.Principal l) many)

strata-of : (most : ℕ) (schema : Schema) (query : Query) (slots : List Slot) (all : List (List Predicate)) (strata : Strata) → AreAllNamed most query.tests slots (length slots) all → AreStrataAmong schema slots all (length slots) strata.dimensions → AreStrata schema query slots strata
strata-of most schema query slots all strata h made = record {
  on = same_lists (map (λ (x : Stratum). x.slot) strata.dimensions) slots (length-map strata.dimensions (λ (x : Stratum). x.slot) ∙ made.count) each-slot;
  each = λ d x l.
      let is : IsStratumOf schema (slot_at slots d) (named_at all d) (get_or strata.dimensions d x) = made.each d x (omega (arith, made.count)) in
      own-stratum (slot_at slots d) (named_at all d) (get_or strata.dimensions d x) is (h.each d (omega (arith, made.count))).named;
}
  where
    each-slot : (k : ℕ) (d : Slot) → k < length (map (λ (x : Stratum). x.slot) strata.dimensions) → get_or (map (λ (x : Stratum). x.slot) strata.dimensions) k d ≡ get_or slots k d
    each-slot k d l =
        let within : k < length strata.dimensions = omega (arith, length-map strata.dimensions (λ (x : Stratum). x.slot)) in
        let some : Stratum = record { slot = d; predicates = []; below = []; rows = [] } in
        get_or-map (λ (x : Stratum). x.slot) strata.dimensions k some d within ∙
        ((made.each k some (omega (arith, made.count))).slot ∙ get_or_default slots k slot.Principal d (omega (arith, made.count)))

    own-stratum : (s : Slot) (names : List Predicate) (x : Stratum) → IsStratumOf schema s names x → AreNamed s query.tests names → IsStratum schema query.tests x
    own-stratum s names x is named = record {
      predicates = record {
        names = names;
        named = subst (λ (t : Slot). AreNamed t query.tests names) (sym is.slot) named;
        kept = subst (λ (t : Slot). AreKeptAmong schema t names x.predicates) (sym is.slot) is.kept;
      };
      order = subst (λ (t : Slot). IsOrder schema t x.predicates x.below) (sym is.slot) is.order;
      rows_decide = subst (λ (t : Slot). RowsDecideOrder schema t x.predicates x.rows) (sym is.slot) is.rows_decide;
    }

wide-named : (schema : Schema) (states : ℕ) (s : Slot) (tests : List Test) (names : List Predicate) (texts : List (List ℕ)) → AreNamed s tests names → HaveWidePair schema states s (Every ∷ names) texts → NamesWide schema tests states s texts
wide-named schema states s tests names texts named h = record {
  names = names;
  named = named;
  wide = record {
    one = h.one;
    other = h.other;
    one_named = among h.one h.one_named;
    other_named = among h.other h.other_named;
    differ = h.differ;
    wider = h.wider;
  };
}
  where
    among : (p : Predicate) → Contains (Every ∷ names) p → Contains names p
    among p here = elim (in-cases names p here) [
      | inr other ↦ other
      | inl any ↦
          let begins = gathers-begins Every [] (read_in s tests) names named in
          subst (λ (ns : List Predicate). Contains ns p) (sym begins.1) (subst (Contains (Every ∷ begins.0)) any (0, omega arith, refl))
    ]

pub outcome : (most : ℕ) (schema : Schema) (states : ℕ) (query : Query) (slots : List Slot) (all : List (List Predicate)) (r : Result Strata StrataFault) → AreAllNamed most query.tests slots (length slots) all → MakesAll schema states slots all r → AreStrataOf most schema states query slots r
outcome most schema states query slots all (Ok strata) h made = (strata-of most schema query slots all strata h made, all-few most query.tests slots all h)
outcome most schema states query slots all (Err NoMemory) h made = tt
outcome most schema states query slots all (Err (TooManyPredicates d)) h made = absurd made.fails
outcome most schema states query slots all (Err (Wide s texts)) h made =
    let fails : FailsAmong schema states (slot_at slots made.index) (named_at all made.index) (Wide s texts) = made.fails in
    let own : NamesWide schema query.tests states (slot_at slots made.index) texts =
    wide-named schema states (slot_at slots made.index) query.tests (named_at all made.index) texts (h.each made.index made.within).named fails.1 in (
      (made.index, made.within, get_or_default slots made.index s slot.Principal made.within ∙ sym fails.0),
      all-few most query.tests slots all h,
      subst (λ (t : Slot). NamesWide schema query.tests states t texts) (sym fails.0) own,
    )

-- the outcome where too many predicates are named, or there is no memory
pub no-outcome : (most : ℕ) (schema : Schema) (states : ℕ) (query : Query) (slots : List Slot) (tests : List Test) (ss : List Slot) (r : Result Strata StrataFault) (e : StrataFault) → IsErrAnd r (λ f. f ≡ e) → tests ≡ query.tests → ss ≡ slots → NamesAll most tests ss (Err e) → AreStrataOf most schema states query slots r
no-outcome most schema states query slots tests ss (Ok x) e is same whole h = absurd is
no-outcome most schema states query slots tests ss (Err f) e is same whole h =
    by f (subst (λ (x : StrataFault). NamesAll most query.tests slots (Err x)) (sym is) (subst (λ (ts : List Test). NamesAll most ts slots (Err e)) same (subst (λ (xs : List Slot). NamesAll most tests xs (Err e)) whole h)))
  where
    by : (x : StrataFault) → NamesAll most query.tests slots (Err x) → AreStrataOf most schema states query slots (Err x)
    by (TooManyPredicates d) k = k
    by (Wide s texts) k = absurd k
    by NoMemory k = tt

-- ---- one slot at a time

pub one-asked : (schema : Schema) (slots : List Slot) (d : ℕ) (s : Slot) → All (IsAskedIn schema) slots → d < length slots → s ≡ get_or slots d s → IsAskedIn schema s
one-asked schema slots d s each within at = subst (IsAskedIn schema) (sym at) (each d s within)

pub one-suits-now : (schema : Schema) (slots : List Slot) (all : List (List Predicate)) (d : ℕ) (s : Slot) (names : List Predicate) → SuitSlots schema slots all → d < length slots → s ≡ get_or slots d s → names ≡ get_or all d names → All (SuitsSlot schema s) names
one-suits-now schema slots all d s names h within at own =
    let inside : d < length all = omega (arith, h.count) in
    subst (λ (ns : List Predicate). All (SuitsSlot schema s) ns) (sym (own ∙ get_or_default all d names [] inside)) (subst (λ (t : Slot). All (SuitsSlot schema t) (named_at all d)) (sym (at-slot slots d s within at)) (h.suit d within))

pub one-few : (schema : Schema) (slots : List Slot) (all : List (List Predicate)) (d : ℕ) (names : List Predicate) → SuitSlots schema slots all → d < length slots → names ≡ get_or all d names → length names < 2 ^ 32
one-few schema slots all d names h within own =
    let inside : d < length all = omega (arith, h.count) in
    subst (λ (ns : List Predicate). length ns < 2 ^ 32) (sym (own ∙ get_or_default all d names [] inside)) (h.few d within)

pub one-fails-now : (now schema : Schema) (had states : ℕ) (s : Slot) (names : List Predicate) (e : StrataFault) → now ≡ schema → had ≡ states → FailsAmong now had s names e → FailsAmong schema states s names e
one-fails-now now schema had states s names e same few h = subst (λ (x : Schema). FailsAmong x states s names e) same (subst (λ (n : ℕ). FailsAmong now n s names e) few h)

pub one-made-now : (now schema : Schema) (s : Slot) (names : List Predicate) (x : Stratum) → now ≡ schema → IsStratumOf now s names x → IsStratumOf schema s names x
one-made-now now schema s names x same h = subst (λ (y : Schema). IsStratumOf y s names x) same h

-- ---- the same of lists as slices, under the schema that is answered for

pub asked-now : (now schema : Schema) (slots ss : List Slot) → now ≡ schema → ss ≡ slots → SchemaIsSound schema → All (SlotIsIn schema) slots → All (IsAskedIn now) ss
asked-now now schema slots ss same whole sound within =
    subst (λ (x : Schema). All (IsAskedIn x) ss) (sym same) (subst (λ (xs : List Slot). All (IsAskedIn schema) xs) (sym whole) (all-asked schema slots sound within))

named-whole : (most : ℕ) (tests ts : List Test) (slots ss : List Slot) (all : List (List Predicate)) → ts ≡ tests → ss ≡ slots → AreAllNamed most ts ss (length ss) all → AreAllNamed most tests slots (length slots) all
named-whole most tests ts slots ss all same whole h = subst (λ (xs : List Slot). AreAllNamed most tests xs (length xs) all) whole (subst (λ (xs : List Test). AreAllNamed most xs ss (length ss) all) same h)

pub suit-now : (most : ℕ) (now schema : Schema) (tests : List Test) (slots : List Slot) (ts : List Test) (ss again : List Slot) (all xs : List (List Predicate)) → now ≡ schema → ts ≡ tests → ss ≡ slots → again ≡ slots → xs ≡ all → most < 2 ^ 32 → All (TestSuits schema) tests → AreAllNamed most ts ss (length ss) all → SuitSlots now again xs
suit-now most now schema tests slots ts ss again all xs same first second third fourth fits suit h =
    subst (λ (x : Schema). SuitSlots x again xs) (sym same)
    (subst (λ (ys : List Slot). SuitSlots schema ys xs) (sym third)
    (subst (λ (ys : List (List Predicate)). SuitSlots schema slots ys) (sym fourth) (all-suit most schema tests slots all fits suit (named-whole most tests ts slots ss all first second h))))

pub outcome-now : (most : ℕ) (now schema : Schema) (states : ℕ) (query : Query) (slots : List Slot) (ts : List Test) (ss again : List Slot) (all xs : List (List Predicate)) (r : Result Strata StrataFault) → now ≡ schema → ts ≡ query.tests → ss ≡ slots → again ≡ slots → xs ≡ all → AreAllNamed most ts ss (length ss) all → MakesAll now states again xs r → AreStrataOf most schema states query slots r
outcome-now most now schema states query slots ts ss again all xs r same first second third fourth h made =
    outcome most schema states query slots all r (named-whole most query.tests ts slots ss all first second h)
    (subst (λ (x : Schema). MakesAll x states slots all r) same (subst (λ (ys : List Slot). MakesAll now states ys all r) third (subst (λ (ys : List (List Predicate)). MakesAll now states again ys r) fourth made)))
