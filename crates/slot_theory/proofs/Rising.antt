-- Cores that grow and shrink.
use Rattle.std.proofs.Common.{◌≡◌, ◌≢◌, ℕ, zero, suc, ◌+◌, ◌<◌, ◌≤◌, List, [], ◌∷◌, length, get_or, take, drop, Bool, true, nat_le, IsSome, All, Contains, refl, sym, ◌∙◌, subst, arith}
use Rattle.std.specs.List.{filter, insert}
use Rattle.std.proofs.lemmas.Bool.{and_parts, and_from}
use Rattle.std.proofs.lemmas.Bool.Decides.{nat_tests}
use Rattle.std.proofs.lemmas.List.{get_or_default}
use Rattle.std.proofs.lemmas.List.Edits.{length-insert}
use Rattle.std.proofs.lemmas.List.Sums.{length-filter, count_by-le-length}
use Rattle.std.proofs.lemmas.List.Elements.{All-cons, All-head, All-tail, All-append, All-take, All-drop}
use Rattle.pattern_automata.specs.Closed.{rises_from}
use Rattle.formula_tree.specs.Answers.{Answers, answer_of}
use Rattle.policy_model.specs.declared.test.Slot.{Slot}
use Rattle.policy_model.specs.declared.test.Test.{Test}
use Rattle.slot_theory.specs.Slots.{slot_of, test_at}
use Rattle.slot_theory.specs.Cores.{IsCore, IsAnsweredOn, IsWith}

le-test : (a b : ℕ) → a ≤ b → nat_le a b ≡ true
le-test a b h = grind (arith, nat_tests)

test-le : (a b : ℕ) → nat_le a b ≡ true → a ≤ b
test-le a b h = grind (arith, nat_tests)

pub rises-insert : (xs : List ℕ) (i a n : ℕ) → rises_from a xs ≡ true → a ≤ n → i ≤ length xs → ((k : ℕ) → k < i → get_or xs k 0 < n) → (i < length xs → n < get_or xs i 0) → rises_from a (insert xs i n) ≡ true
rises-insert [] zero a n r h w before behind = and_from _ _ (le-test a n h) refl
rises-insert [] (suc i) a n r h w before behind = absurd (omega arith)
rises-insert (x ∷ xs) zero a n r h w before behind =
    let above : n < x = behind (omega arith) in
    let both = and_parts (nat_le a x) (rises_from (x + 1) xs) r in
    and_from _ _ (le-test a n h) (and_from _ _ (le-test (n + 1) x (omega arith)) both.1)
rises-insert (x ∷ xs) (suc i) a n r h w before behind =
    let below : x < n = before zero (omega arith) in
    let both = and_parts (nat_le a x) (rises_from (x + 1) xs) r in
    and_from _ _ both.0 (rises-insert xs i (x + 1) n both.1 (omega arith) (omega arith) (λ k l. before (suc k) (omega arith)) (λ l. behind (omega arith)))

-- numbers below a bound that rise are at most as many
pub few : (xs : List ℕ) (a n : ℕ) → rises_from a xs ≡ true → All (λ m. m < n) xs → a ≤ n → a + length xs ≤ n
few [] a n r w h = omega arith
few (x ∷ xs) a n r w h =
    let both = and_parts (nat_le a x) (rises_from (x + 1) xs) r in
    let below : x < n = All-head (λ m. m < n) x xs w in
    omega (arith, test-le a x both.0, few xs (x + 1) n both.1 (All-tail (λ m. m < n) x xs w) (omega arith))

-- a filter keeps no more than there is
pub filter-few : (p : ℕ → Bool) (xs : List ℕ) → length (filter p xs) ≤ length xs
filter-few p xs = omega (arith, length-filter p xs, count_by-le-length p xs)

pub All-insert : (P : ℕ → Type 0) (xs : List ℕ) (i n : ℕ) → All P xs → P n → All P (insert xs i n)
All-insert P xs i n a p = All-append P (take i xs) (n ∷ drop i xs) (All-take P i xs a) (All-cons P n (drop i xs) p (All-drop P i xs a))

-- a number that isn't in the core, and isn't below those before its index, is above them
pub above : (xs : List ℕ) (n i k : ℕ) → (Contains xs n → ⊥) → i ≤ length xs → ((j : ℕ) → j < i → get_or xs j 0 ≤ n) → k < i → get_or xs k 0 < n
above xs n i k new w before h =
    let differs : get_or xs k 0 ≢ n = λ e. new (k, omega arith, sym (get_or_default xs k 0 n (omega arith)) ∙ e) in
    omega (arith, before k h, differs)

some-length : (xs : List ℕ) → 0 < length xs → xs ≢ []
some-length [] h e = omega arith
some-length (x ∷ xs) h e = absurd (cc)

pub with-by : (core : List ℕ) (n index : ℕ) (numbers more : List ℕ) → rises_from 0 core ≡ true → (Contains core n → ⊥) → index ≤ length core → ((k : ℕ) → k < index → get_or core k 0 ≤ n) → (index < length core → n < get_or core index 0) →
    numbers ≡ core → more ≡ insert numbers index n → IsWith core n more
with-by core n index numbers more r new within before behind same is =
    let e : more ≡ insert core index n = rw same at is in
    record {
      index = index;
      within = within;
      is = e;
      rises = rw e (rises-insert core index 0 n r (omega arith) within (λ k h. above core n index k new within before h) behind);
    }

module _ (tests : List Test) (path : Answers) (s : Slot) (core : List ℕ) where
  -- the core with one more test is a core
  pub core-with : (n : ℕ) (more : List ℕ) → IsCore tests path core s → IsAnsweredOn tests path s n → n < length tests → IsWith core n more → IsCore tests path more s
  core-with n more is on within with =
      let e : more ≡ insert core with.index n = with.is in
      record {
        nonempty = rw e (some-length (insert core with.index n) (omega (arith, length-insert core with.index n with.within)));
        rises = with.rises;
        within = rw e (All-insert (λ m. m < length tests) core with.index n is.within within);
        answered = rw e (All-insert (λ m. IsSome (answer_of path m)) core with.index n is.answered on.answered);
        on_slot = rw e (All-insert (λ m. slot_of (test_at tests m) ≡ s) core with.index n is.on_slot on.on_slot);
      }

  pub length-with : (n : ℕ) (more : List ℕ) → IsWith core n more → length more ≡ length core + 1
  length-with n more with = rw with.is (length-insert core with.index n with.within)

  pub core-count : IsCore tests path core s → length core ≤ length tests
  core-count is = omega (arith, few core 0 (length tests) is.rises is.within (omega arith))

pub grown : (tests : List Test) (path : Answers) (s : Slot) (core view : List ℕ) (n : ℕ) (more : List ℕ) → IsCore tests path core s → n < length tests → view ≡ core → IsAnsweredOn tests path s n → IsWith view n more → IsCore tests path more s × (length more ≡ length core + 1)
grown tests path s core view n more is within e on with =
    let w : IsWith core n more = subst (λ (x : List ℕ). IsWith x n more) e with in
    (core-with tests path s core n more is on within w, length-with tests path s core n more w)
