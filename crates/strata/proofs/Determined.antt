-- The strata of the slots of a query are determined: there are no two.
use Rattle.std.proofs.Common.{◌≡◌, ℕ, zero, suc, ◌+◌, ◌<◌, ◌≤◌, List, [], ◌∷◌, ◌++◌, length, get_or, map, Bool, true, false, nat_le, Contains, refl, sym, ap, ◌∙◌, subst, inl, inr, ◌⊎◌, arith}
use Rattle.std.proofs.lemmas.Bool.{and_parts}
use Rattle.std.proofs.lemmas.Bool.Decides.{nat_tests}
use Rattle.std.proofs.lemmas.List.{get_or-map, get_or_default, length-map, same_lists}
use Rattle.std.proofs.lemmas.Option.{slice_get-get_or}
use Rattle.pattern_automata.specs.Closed.{rises_from}
use Rattle.policy_model.specs.declared.schema.Schema.{Schema}
use Rattle.policy_model.specs.declared.test.Slot.{Slot}
use Rattle.policy_model.specs.declared.test.Test.{Test}
use Rattle.strata.specs.declared.predicate.Predicate.{Predicate}
use Rattle.strata.specs.declared.predicate.Predicate.TheVariants.{Every}
use Rattle.strata.specs.declared.rows.Row.{Row}
use Rattle.strata.specs.declared.stratum.Stratum.{Stratum}
use Rattle.strata.specs.Below.{AreKeptAmong, Keeps, keeps_none, keeps_it, drops_it}
use Rattle.strata.specs.Covers.{AreMaximalBelow, predicate_at}
use Rattle.strata.specs.Laws.{StrataAreDetermined}
use Rattle.strata.specs.Predicates.{read_in}
use Rattle.strata.specs.Rows.{AreAnswered, IsRow, RowsDecideOrder, DecidesBelow}
use Rattle.strata.specs.Strata.{AreKeptOf, IsOrder, IsStratum}
use Rattle.strata.proofs.Gathering.{gathers-unique}
use Rattle.strata.proofs.Ordering.{apart-below}

-- ---- the predicates

-- nothing else is kept of the same
keeps-unique : (schema : Schema) (s : Slot) (earlier names a b : List Predicate) → Keeps schema s earlier names a → Keeps schema s earlier names b → a ≡ b
keeps-unique schema s earlier [] a b keeps_none keeps_none = refl
keeps-unique schema s earlier (p ∷ names) a b (keeps_it {kept = xs} h first) (keeps_it {kept = ys} k second) = ap (λ ps. p ∷ ps) (keeps-unique schema s (earlier ++ p ∷ []) names xs ys first second)
keeps-unique schema s earlier (p ∷ names) a b (keeps_it h first) (drops_it k second) = absurd (k h)
keeps-unique schema s earlier (p ∷ names) a b (drops_it h first) (keeps_it k second) = absurd (h k)
keeps-unique schema s earlier (p ∷ names) a b (drops_it h first) (drops_it k second) = keeps-unique schema s (earlier ++ p ∷ []) names a b first second

kept-same : (schema : Schema) (s : Slot) (tests : List Test) (a b : List Predicate) → AreKeptOf schema s tests a → AreKeptOf schema s tests b → a ≡ b
kept-same schema s tests a b first second =
    let same : second.names ≡ first.names = gathers-unique (Every ∷ []) (read_in s tests) second.names first.names second.named first.named in
    keeps-unique schema s [] first.names a b first.kept (subst (λ (ns : List Predicate). AreKeptAmong schema s ns b) same second.kept)

-- ---- those that are maximal strictly below

contains-cases : (x : ℕ) (xs : List ℕ) (j : ℕ) → Contains (x ∷ xs) j → (x ≡ j) ⊎ Contains xs j
contains-cases x xs j (zero, l, e) = inl e
contains-cases x xs j (suc k, l, e) = inr (k, omega arith, e)

contains-first : (x : ℕ) (xs : List ℕ) → Contains (x ∷ xs) x
contains-first x xs = (0, omega arith, refl)

contains-later : (x : ℕ) (xs : List ℕ) (j : ℕ) → Contains xs j → Contains (x ∷ xs) j
contains-later x xs j (k, l, e) = (suc k, omega arith, e)

-- the first of a rising list is the least
rises-least : (a : ℕ) (xs : List ℕ) (j : ℕ) → rises_from a xs ≡ true → Contains xs j → a ≤ j
rises-least a [] j rise (k, l, e) = absurd (omega arith)
rises-least a (x ∷ xs) j rise here =
    let both = and_parts (nat_le a x) (rises_from (x + 1) xs) rise in
    let least : a ≤ x = le-of a x both.0 in
    elim (contains-cases x xs j here) [
      | inl first ↦ omega arith
      | inr later ↦ omega (arith, rises-least (x + 1) xs j both.1 later)
    ]
  where
    le-of : (a b : ℕ) → nat_le a b ≡ true → a ≤ b
    le-of a b h = grind (arith, nat_tests)

-- two rising lists with the same numbers are equal
rises-same : (xs ys : List ℕ) (a b : ℕ) → rises_from a xs ≡ true → rises_from b ys ≡ true → ((j : ℕ) → Contains xs j → Contains ys j) → ((j : ℕ) → Contains ys j → Contains xs j) → xs ≡ ys
rises-same [] [] a b first second there here = refl
rises-same [] (y ∷ ys) a b first second there here = let none = here y (contains-first y ys) in absurd (omega (arith, none.1))
rises-same (x ∷ xs) [] a b first second there here = let none = there x (contains-first x xs) in absurd (omega (arith, none.1))
rises-same (x ∷ xs) (y ∷ ys) a b first second there here =
    let low = and_parts (nat_le a x) (rises_from (x + 1) xs) first in
    let high = and_parts (nat_le b y) (rises_from (y + 1) ys) second in
    let below : y ≤ x = at-least y ys x high.1 (there x (contains-first x xs)) in
    let above : x ≤ y = at-least x xs y low.1 (here y (contains-first y ys)) in
    let same : x ≡ y = omega arith in
    let rest : xs ≡ ys = rises-same xs ys (x + 1) (y + 1) low.1 high.1 (λ j at. behind y ys j (other-than x xs j y same low.1 at) (there j (contains-later x xs j at))) (λ j at. behind x xs j (other-than y ys j x (sym same) high.1 at) (here j (contains-later y ys j at))) in
    ap (λ n. n ∷ xs) same ∙ ap (λ ns. y ∷ ns) rest
  where
    at-least : (n : ℕ) (ns : List ℕ) (j : ℕ) → rises_from (n + 1) ns ≡ true → Contains (n ∷ ns) j → n ≤ j
    at-least n ns j rise at = elim (contains-cases n ns j at) [ inl own ↦ omega arith | inr later ↦ omega (arith, rises-least (n + 1) ns j rise later) ]

    other-than : (n : ℕ) (ns : List ℕ) (j m : ℕ) → n ≡ m → rises_from (n + 1) ns ≡ true → Contains ns j → m ≡ j → ⊥
    other-than n ns j m same rise at own = omega (arith, rises-least (n + 1) ns j rise at)

    behind : (n : ℕ) (ns : List ℕ) (j : ℕ) → (n ≡ j → ⊥) → Contains (n ∷ ns) j → Contains ns j
    behind n ns j differ at = elim (contains-cases n ns j at) [ inl own ↦ absurd (differ own) | inr later ↦ later ]

maximal-same : (schema : Schema) (s : Slot) (kept : List Predicate) (i : ℕ) (xs ys : List ℕ) → AreMaximalBelow schema s kept i xs → AreMaximalBelow schema s kept i ys → xs ≡ ys
maximal-same schema s kept i xs ys first second = rises-same xs ys 0 0 first.rise second.rise (λ j at. (second.exact j).1 ((first.exact j).0 at)) (λ j at. (first.exact j).1 ((second.exact j).0 at))

order-same : (schema : Schema) (s : Slot) (kept : List Predicate) (xs ys : List (List ℕ)) → IsOrder schema s kept xs → IsOrder schema s kept ys → xs ≡ ys
order-same schema s kept xs ys first second = same_lists xs ys (first.count ∙ sym second.count) (λ i d l. maximal-same schema s kept i (get_or xs i d) (get_or ys i d) (first.each i (get_or xs i d) (slice_get-get_or xs i d l)) (second.each i (get_or ys i d) (slice_get-get_or ys i d (omega (arith, first.count, second.count)))))

-- ---- the answers to all questions on the order

tells-same : (schema : Schema) (s : Slot) (p q : Predicate) (a b : Bool) → DecidesBelow schema s p q a → DecidesBelow schema s p q b → a ≡ b
tells-same schema s p q true true first second = refl
tells-same schema s p q true false first second = absurd (apart-below schema s p q second first)
tells-same schema s p q false true first second = absurd (apart-below schema s p q first second)
tells-same schema s p q false false first second = refl

answers-same : (P : Predicate → Bool → Type 0) (kept : List Predicate) (n : ℕ) (xs ys : List Bool) → ((q : Predicate) (a b : Bool) → P q a → P q b → a ≡ b) → AreAnswered P kept n xs → AreAnswered P kept n ys → xs ≡ ys
answers-same P kept n xs ys one first second = same_lists xs ys (first.count ∙ sym second.count) (λ k d l.
    let inside : k < length ys = omega (arith, first.count, second.count) in
    get_or_default xs k d false l ∙ one (predicate_at kept k) (get_or xs k false) (get_or ys k false) (first.each k (omega (arith, first.count))) (second.each k (omega (arith, first.count))) ∙ get_or_default ys k false d inside)

row-same : (schema : Schema) (s : Slot) (kept : List Predicate) (n : ℕ) (p : Predicate) (x y : Row) → IsRow schema s kept n p x → IsRow schema s kept n p y → x ≡ y
row-same schema s kept n p x y first second =
    let below : x.below ≡ y.below = answers-same (λ q b. DecidesBelow schema s p q b) kept n x.below y.below (λ q a b. tells-same schema s p q a b) first.below second.below in
    let above : x.above ≡ y.above = answers-same (λ q b. DecidesBelow schema s q p b) kept n x.above y.above (λ q a b. tells-same schema s q p a b) first.above second.above in
    λ i. record { below = below i; above = above i }

rows-same : (schema : Schema) (s : Slot) (kept : List Predicate) (xs ys : List Row) → RowsDecideOrder schema s kept xs → RowsDecideOrder schema s kept ys → xs ≡ ys
rows-same schema s kept xs ys first second = same_lists xs ys (first.count ∙ sym second.count) (λ i d l. row-same schema s kept i (predicate_at kept i) (get_or xs i d) (get_or ys i d) (first.each i d l) (second.each i d (omega (arith, first.count, second.count))))

-- ---- strata

stratum-same : (schema : Schema) (tests : List Test) (x y : Stratum) → x.slot ≡ y.slot → IsStratum schema tests x → IsStratum schema tests y → x ≡ y
stratum-same schema tests x y slot first second =
    let kept : y.predicates ≡ x.predicates = sym (kept-same schema x.slot tests x.predicates y.predicates first.predicates (subst (λ (s : Slot). AreKeptOf schema s tests y.predicates) (sym slot) second.predicates)) in
    let order : IsOrder schema x.slot x.predicates y.below = subst (λ (s : Slot). IsOrder schema s x.predicates y.below) (sym slot) (subst (λ (ps : List Predicate). IsOrder schema y.slot ps y.below) kept second.order) in
    let told : RowsDecideOrder schema x.slot x.predicates y.rows = subst (λ (s : Slot). RowsDecideOrder schema s x.predicates y.rows) (sym slot) (subst (λ (ps : List Predicate). RowsDecideOrder schema y.slot ps y.rows) kept second.rows_decide) in
    let same : x.predicates ≡ y.predicates = sym kept in
    let below : x.below ≡ y.below = order-same schema x.slot x.predicates x.below y.below first.order order in
    let rows : x.rows ≡ y.rows = rows-same schema x.slot x.predicates x.rows y.rows first.rows_decide told in
    λ i. record { slot = slot i; predicates = same i; below = below i; rows = rows i }

all-same : (schema : Schema) (tests : List Test) (slots : List Slot) (xs ys : List Stratum) → map (λ (x : Stratum). x.slot) xs ≡ slots → map (λ (x : Stratum). x.slot) ys ≡ slots →
    ((k : ℕ) (d : Stratum) → k < length xs → IsStratum schema tests (get_or xs k d)) → ((k : ℕ) (d : Stratum) → k < length ys → IsStratum schema tests (get_or ys k d)) → xs ≡ ys
all-same schema tests slots xs ys on again first second = same_lists xs ys count (λ k d l.
    let inside : k < length ys = omega (arith, count) in
    stratum-same schema tests (get_or xs k d) (get_or ys k d) (slot-same k d l inside) (first k d l) (second k d inside))
  where
    both : map (λ (x : Stratum). x.slot) xs ≡ map (λ (x : Stratum). x.slot) ys
    both = on ∙ sym again

    count : length xs ≡ length ys
    count = sym (length-map xs (λ (x : Stratum). x.slot)) ∙ ap (λ (ss : List Slot). length ss) both ∙ length-map ys (λ (x : Stratum). x.slot)

    slot-same : (k : ℕ) (d : Stratum) → k < length xs → k < length ys → (get_or xs k d).slot ≡ (get_or ys k d).slot
    slot-same k d l w = sym (get_or-map (λ (x : Stratum). x.slot) xs k d d.slot l) ∙ ap (λ (ss : List Slot). get_or ss k d.slot) both ∙ get_or-map (λ (x : Stratum). x.slot) ys k d d.slot w

pub strata-determined : StrataAreDetermined
strata-determined schema query slots x y first second =
    let same : x.dimensions ≡ y.dimensions = all-same schema query.tests slots x.dimensions y.dimensions first.on second.on first.each second.each in
    λ i. record { dimensions = same i }
