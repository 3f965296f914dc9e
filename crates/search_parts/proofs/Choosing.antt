-- Answers that are chosen from a path: in the order of tests, and least for the sides of a split.
use Rattle.std.proofs.Common.{◌≡◌, ◌≢◌, ◌↔◌, ◌⊎◌, ◌<◌, ◌≤◌, ◌+◌, ◌==◌, ◌||◌, ℕ, [], ◌∷◌, ◌++◌, map, Bool, true, false, Option, None, Some, Result, Ok, Err, IfOk, IsTrue, All, if◌then◌else◌, nat_le, refl, sym, ◌∙◌, ap, subst, inl, inr, arith}
use Rattle.std.specs.Option.{is_some}
use Rattle.std.proofs.lemmas.Bool.{and_from, and_parts, cases_lt}
use Rattle.std.proofs.lemmas.Bool.Decides.{nat_tests}
use Rattle.std.proofs.lemmas.List.Elements.{All-head, All-nil, All-push, All-tail, All-weaker}
use Rattle.formula_tree.specs.Answers.{Answers, Contained, answer_of}
use Rattle.formula_tree.specs.Runs.{path_with}
use Rattle.formula_tree.specs.Trees.{Tree}
use Rattle.formula_tree.specs.Values.{value}
use Rattle.formula_tree.specs.declared.value.Three.TheVariants.{No}
use Rattle.formula_tree.proofs.Laws.{answer_of-besides, answer_of-last, cases_eq, contained-both, keeps-no}
use Rattle.tree_values.specs.Cuts.{IsLeastCut, IsNoOn}
use Rattle.tree_values.specs.Omitting.{path_without}
use Rattle.tree_values.specs.declared.cut.Sides.{Sides}
use Rattle.pattern_automata.specs.Closed.{rises_from}
use Rattle.search_parts.specs.declared.part.Needs.{Needs}
use Rattle.search_parts.specs.declared.part.Needs.TheVariants.{Just, Open, Unknown}
use Rattle.search_parts.specs.Least.{AreChosen, AreChosenBelow, AreKnownNeeds, IsCutDown, chosen_at}
use Rattle.search_parts.specs.Needs.{AreCutFor, AreLeast, AreNoWhereOpen, HasNeeds, HaveNeeds, IsNoWhereOpen, IsUnion, needs_list}
use Rattle.search_parts.proofs.Closing.{open-in}
use Rattle.search_parts.proofs.Needing.{cut-least}
use Rattle.search_parts.proofs.Omitting.{omitted-none, omitted-other, omitted-within}

-- ---- in the order of tests

le-test : (a b : ℕ) → a ≤ b → nat_le a b ≡ true
le-test a b h = grind (arith, nat_tests)

abbrev Below : ℕ → ℕ × Bool → Type 0
Below n a = a.0 < n

rises-push : (ps : Answers) (from n : ℕ) (b : Bool) → rises_from from (map (λ a. a.0) ps) ≡ true → from ≤ n → All (Below n) ps → rises_from from (map (λ a. a.0) (ps ++ (n, b) ∷ [])) ≡ true
rises-push [] from n b rise le below = and_from _ _ (le-test from n le) refl
rises-push (p ∷ ps) from n b rise le below =
    let both = and_parts (nat_le from p.0) (rises_from (p.0 + 1) (map (λ a. a.0) ps)) rise in
    let small : p.0 < n = All-head (Below n) p ps below in
    and_from _ _ both.0 (rises-push ps (p.0 + 1) n b both.1 (omega (arith, small)) (All-tail (Below n) p ps below))

-- what is below a number isn't that number's or a greater one's answer
behind-all : (ps : Answers) (end n : ℕ) → All (Below end) ps → end ≤ n → answer_of ps n ≡ None
behind-all [] end n below le = refl
behind-all (p ∷ ps) end n below le =
    let small : p.0 < end = All-head (Below end) p ps below in
    let apart : (p.0 == n) ≡ false = other-test p.0 n (λ e. omega (arith, small, le, e)) in
    rw apart (behind-all ps end n (All-tail (Below end) p ps below) le)
  where
    other-test : (k m : ℕ) → k ≢ m → (k == m) ≡ false
    other-test k m ne = grind (arith, nat_tests)

pub chosen-none : (path first second : Answers) → AreChosenBelow path first second 0 []
chosen-none path first second = record { here = λ n h. absurd (omega (arith, h)); behind = λ n h. refl; below = All-nil (Below 0); rise = refl }

module _ (path first second : Answers) (test : ℕ) (old : Answers) (are : AreChosenBelow path first second test old) where
  wider : All (Below (test + 1)) old
  wider = All-weaker (Below test) (Below (test + 1)) (λ a h. omega (arith, h)) old are.below

  before : (n : ℕ) → n < test + 1 → n ≢ test → n < test
  before n h ne = elim (cases_eq n test) [ inl e ↦ absurd (ne e) | inr apart ↦ less n test h apart ]
    where
      less : (a b : ℕ) → a < b + 1 → a ≢ b → a < b
      less a b h ne = grind (arith, nat_tests)

  pub chosen-passed : chosen_at path first second test ≡ None → AreChosenBelow path first second (test + 1) old
  chosen-passed none = record {
    here = λ n h.
        elim (cases_eq n test) [
          | inl e ↦ rw e (are.behind test (omega arith) ∙ sym none)
          | inr ne ↦ are.here n (before n h ne)
        ];
    behind = λ n h. are.behind n (omega (arith, h));
    below = wider;
    rise = are.rise;
  }

  pub chosen-more : (b : Bool) → chosen_at path first second test ≡ Some b → AreChosenBelow path first second (test + 1) (old ++ (test, b) ∷ [])
  chosen-more b is =
      let free : answer_of old test ≡ None = are.behind test (omega arith) in
      let more = All-push (Below (test + 1)) old (test, b) wider (omega arith) in
      record {
        here = λ n h.
            elim (cases_eq n test) [
              | inl e ↦ rw e (answer_of-last old test b free ∙ sym is)
              | inr ne ↦ answer_of-besides old test b n ne ∙ are.here n (before n h ne)
            ];
        behind = λ n h. behind-all (old ++ (test, b) ∷ []) (test + 1) n more h;
        below = more;
        rise = rises-push old 0 test b are.rise (omega arith) are.below;
      }

-- a path whose tests are below a number has chosen answers below it alone
module _ (path first second : Answers) (end i : ℕ) (above : All (Below end) path) (le : end ≤ i) (answers : Answers) (are : AreChosenBelow path first second i answers) where
  past : (n : ℕ) → end ≤ n → chosen_at path first second n ≡ None
  past n le = alike (is_some (answer_of first n) || is_some (answer_of second n)) (answer_of path n) (behind-all path end n above le)
    where
      alike : (b : Bool) (o : Option Bool) → o ≡ None → (if b then o else None) ≡ None
      alike true o e = e
      alike false o e = refl

  pub all-chosen : AreChosen path first second answers
  all-chosen n = elim (cases_lt n i) [ inl h ↦ are.here n h | inr h ↦ are.behind n h ∙ sym (past n (omega (arith, h, le))) ]

-- ---- what is chosen

module _ (path first second answers : Answers) (are : AreChosen path first second answers) where
  -- by one of the lists, and with the path's answer
  record IsPicked (n : ℕ) (b : Bool) : Type 0 where
    own : answer_of path n ≡ Some b
    either_has : (is_some (answer_of first n) || is_some (answer_of second n)) ≡ true

  picked-by : (k o : Bool) (p q : Option Bool) → q ≡ (if k then p else None) → (b : Bool) → q ≡ Some b → (p ≡ Some b) × (k ≡ true)
  picked-by true o p q e b is = (sym e ∙ is, refl)
  picked-by false o p q e b is = let bad : None ≡ Some b = sym e ∙ is in absurd (cc)

  picked : (n : ℕ) (b : Bool) → answer_of answers n ≡ Some b → IsPicked n b
  picked n b is =
      let both = picked-by (is_some (answer_of first n) || is_some (answer_of second n)) true (answer_of path n) (answer_of answers n) (are n) b is in
      record { own = both.0; either_has = both.1 }

  pub chosen-there : Contained answers path
  chosen-there n b is = (picked n b is).own

  first-picked : (o s : Option Bool) (c : Bool) → o ≡ Some c → (is_some o || is_some s) ≡ true
  first-picked (Some d) s c e = refl
  first-picked None s c e = absurd (cc)

  second-picked : (o s : Option Bool) (c : Bool) → s ≡ Some c → (is_some o || is_some s) ≡ true
  second-picked (Some d) s c e = refl
  second-picked None (Some d) c e = refl
  second-picked None None c e = absurd (cc)

  taken : (k : Bool) (p : Option Bool) → k ≡ true → (if k then p else None) ≡ p
  taken true p e = refl
  taken false p e = absurd (cc)

  pub has-first : (n : ℕ) (c b : Bool) → answer_of first n ≡ Some c → answer_of path n ≡ Some b → answer_of answers n ≡ Some b
  has-first n c b is own = are n ∙ taken (is_some (answer_of first n) || is_some (answer_of second n)) (answer_of path n) (first-picked (answer_of first n) (answer_of second n) c is) ∙ own

  pub has-second : (n : ℕ) (c b : Bool) → answer_of second n ≡ Some c → answer_of path n ≡ Some b → answer_of answers n ≡ Some b
  has-second n c b is own = are n ∙ taken (is_some (answer_of first n) || is_some (answer_of second n)) (answer_of path n) (second-picked (answer_of first n) (answer_of second n) c is) ∙ own

  either-of : (o s : Option Bool) → (is_some o || is_some s) ≡ true → ((c : Bool) × (o ≡ Some c)) ⊎ ((c : Bool) × (s ≡ Some c))
  either-of (Some c) s e = inl (c, refl)
  either-of None (Some c) e = inr (c, refl)
  either-of None None e = absurd (cc)

  -- what the sides need besides the split's answer, put together
  module _ (test : ℕ) (free : answer_of path test ≡ None) (inside_first : Contained first (path_with path test true)) (inside_second : Contained second (path_with path test false)) where
    of-path : (side : Answers) (a : Bool) → Contained side (path_with path test a) → (n : ℕ) (b : Bool) → n ≢ test → answer_of side n ≡ Some b → answer_of path n ≡ Some b
    of-path side a inside n b ne is = sym (answer_of-besides path test a n ne) ∙ inside n b is

    same-answer : (n : ℕ) (b c : Bool) → answer_of path n ≡ Some b → answer_of path n ≡ Some c → c ≡ b
    same-answer n b c e d = let both : Some c ≡ Some b = sym d ∙ e in cc

    apart : (n : ℕ) (b : Bool) → answer_of path n ≡ Some b → n ≢ test
    apart n b own e = let none : answer_of path n ≡ None = rw e free in let bad : None ≡ Some b = sym none ∙ own in absurd (cc)

    rest : (side : Answers) (n : ℕ) (b : Bool) → answer_of (path_without side test) n ≡ Some b → n ≢ test
    rest side n b is e = let none : answer_of (path_without side test) n ≡ None = rw e (omitted-none side test) in let bad : None ≡ Some b = sym none ∙ is in absurd (cc)

    pub chosen-union : IsUnion test first second answers
    chosen-union = record {
      has_first = λ n b is.
          let own = omitted-within first test n b is in
          has-first n b b own (of-path first true inside_first n b (rest first n b is) own);
      has_second = λ n b is.
          let own = omitted-within second test n b is in
          has-second n b b own (of-path second false inside_second n b (rest second n b is) own);
      only = λ n b is.
          let p = picked n b is in
          let ne = apart n b p.own in
          elim (either-of (answer_of first n) (answer_of second n) p.either_has) [
            | inl (c, e) ↦ inl (e ∙ ap Some (same-answer n b c p.own (of-path first true inside_first n c ne e)))
            | inr (c, e) ↦ inr (e ∙ ap Some (same-answer n b c p.own (of-path second false inside_second n c ne e)))
          ];
    }

-- the answers of a list of the path, chosen from it
pub chosen-same : (path list answers : Answers) → AreChosen path list [] answers → Contained list path → Contained list answers × Contained answers list
chosen-same path list answers are inside = (
  λ n b is. has-first path list [] answers are n b b is (inside n b is),
  λ n b is. back n b (picked path list [] answers are n b is).own (either-of path list [] answers are (answer_of list n) None (picked path list [] answers are n b is).either_has),
)
  where
    back : (n : ℕ) (b : Bool) → answer_of path n ≡ Some b → ((c : Bool) × (answer_of list n ≡ Some c)) ⊎ ((c : Bool) × (None ≡ Some c)) → answer_of list n ≡ Some b
    back n b own (inl (c, e)) = let both : Some c ≡ Some b = sym (inside n c e) ∙ own in e ∙ both
    back n b own (inr (c, e)) = absurd (cc)

first-shut : (a b : Bool) → (a || b) ≡ false → a ≡ false
first-shut true b e = absurd (cc)
first-shut false b e = refl

second-shut : (a b : Bool) → (a || b) ≡ false → b ≡ false
second-shut true b e = absurd (cc)
second-shut false b e = e

-- ---- lists with the same answers

has-more : (tree : Tree) (need : Needs) (few many : Answers) → Contained few many → HasNeeds tree need few → HasNeeds tree need many
has-more tree (Just needs) few many inside has = λ n b is. inside n b (has n b is)
has-more tree Open few many inside has = keeps-no few many tree inside has
has-more tree Unknown few many inside has = has

module _ (tree : Tree) (path : Answers) (test : ℕ) (yes no : Needs) (free : answer_of path test ≡ None) where
  have-more : (few many : Answers) → answer_of few test ≡ None → answer_of many test ≡ None → Contained few many → HaveNeeds tree test yes no few → HaveNeeds tree test yes no many
  have-more few many new new2 inside have = record {
    yes_side = has-more tree yes (path_with few test true) (path_with many test true) (contained-both few many test true inside new new2) have.yes_side;
    no_side = has-more tree no (path_with few test false) (path_with many test false) (contained-both few many test false inside new new2) have.no_side;
  }

  omitted-inside : (one other : Answers) (n : ℕ) → Contained one other → Contained (path_without one n) (path_without other n)
  omitted-inside one other n inside m b is =
      elim (cases_eq m n) [
        | inl e ↦ (let none : answer_of (path_without one n) m ≡ None = rw e (omitted-none one n) in let bad : None ≡ Some b = sym none ∙ is in absurd (cc))
        | inr ne ↦ omitted-other other n m ne ∙ inside m b (sym (omitted-other one n m ne) ∙ is)
      ]

  pub least-alike : (one other : Answers) → Contained one other → Contained other one → AreLeast tree path test yes no one → AreLeast tree path test yes no other
  least-alike one other forth back least =
      let there : Contained other path = λ n b is. least.there n b (back n b is) in
      let new = open-in one path test least.there free in
      let new2 = open-in other path test there free in
      record {
        there = there;
        enough = have-more one other new new2 forth least.enough;
        least = λ n b is have.
            least.least n b (back n b is)
            (have-more (path_without other n) (path_without one n) (open-in (path_without other n) other test (omitted-within other n) new2) (open-in (path_without one n) one test (omitted-within one n) new)
            (omitted-inside other one n back) have);
      }

  -- ---- what a side needs

  known-listed : (need : Needs) (q : Answers) → AreKnownNeeds tree q need → Contained (needs_list need) q
  known-listed (Just needs) q known = known
  known-listed Open q known = λ n b is. absurd (cc)
  known-listed Unknown q known = absurd known

  no-where : (need : Needs) (is_open : Bool) (own q : Answers) → IsTrue is_open ↔ (need ≡ Open) → AreKnownNeeds tree own need → (is_open ≡ true → value q tree ≡ No) → IsNoWhereOpen tree need q
  no-where (Just needs) is_open own q says known no_there = tt
  no-where Open is_open own q says known no_there = no_there (says.1 refl)
  no-where Unknown is_open own q says known no_there = absurd known

  no-there : (need : Needs) (is_open : Bool) (q : Answers) → IsTrue is_open ↔ (need ≡ Open) → IsNoWhereOpen tree need q → is_open ≡ true → value q tree ≡ No
  no-there need is_open q says holds e = subst (λ (m : Needs). IsNoWhereOpen tree m q) (says.0 e) holds

  known-no : (need : Needs) (q : Answers) → AreKnownNeeds tree q need → need ≡ Open → value q tree ≡ No
  known-no need q known e = subst (λ (m : Needs). AreKnownNeeds tree q m) e known

  module _ (yes_known : AreKnownNeeds tree (path_with path test true) yes) (no_known : AreKnownNeeds tree (path_with path test false) no) (needed : Answers) (are : AreChosen path (needs_list yes) (needs_list no) needed)
      (sides : Sides) (says_yes : IsTrue sides.yes ↔ (yes ≡ Open)) (says_no : IsTrue sides.no ↔ (no ≡ Open)) where
    union : IsUnion test (needs_list yes) (needs_list no) needed
    union = chosen-union path (needs_list yes) (needs_list no) needed are test free (known-listed yes (path_with path test true) yes_known) (known-listed no (path_with path test false) no_known)

    pub sides-no : IsNoOn tree path test sides
    sides-no = record {
      yes = λ e. known-no yes (path_with path test true) yes_known (says_yes.0 e);
      no = λ e. known-no no (path_with path test false) no_known (says_no.0 e);
    }

    still : (answers : Answers) → IsNoOn tree answers test sides → AreNoWhereOpen tree test yes no answers
    still answers on = (
      no-where yes sides.yes (path_with path test true) (path_with answers test true) says_yes yes_known on.yes,
      no-where no sides.no (path_with path test false) (path_with answers test false) says_no no_known on.no,
    )

    back-on : (answers : Answers) → AreNoWhereOpen tree test yes no answers → IsNoOn tree answers test sides
    back-on answers (first, second) = record {
      yes = no-there yes sides.yes (path_with answers test true) says_yes first;
      no = no-there no sides.no (path_with answers test false) says_no second;
    }

    least-of : (answers : Answers) → AreCutFor tree path test yes no answers → AreLeast tree path test yes no answers
    least-of answers cut = cut-least tree path test yes no free (known-listed yes (path_with path test true) yes_known) (known-listed no (path_with path test false) no_known) answers cut

    -- where neither side is open, all that is needed
    pub least-needs : (sides.yes || sides.no) ≡ false → AreLeast tree path test yes no needed
    least-needs none =
        let shut = first-shut sides.yes sides.no none in
        let shut2 = second-shut sides.yes sides.no none in
        least-of needed (record {
          needed = needed;
          union = union;
          needed_there = λ n b is. is;
          there = chosen-there path (needs_list yes) (needs_list no) needed are;
          still = still needed (record { yes = λ e. (let bad : false ≡ true = sym shut ∙ e in absurd (cc)); no = λ e. (let bad : false ≡ true = sym shut2 ∙ e in absurd (cc)) });
          least = λ n b is. inl is;
        })

    -- else what the cut leaves, in the order of tests
    least-cut : (answers : Answers) → IsCutDown tree path needed test sides answers → AreLeast tree path test yes no answers
    least-cut answers down =
        let cut = down.cut in
        let is = down.is in
        let same = down.same in
        let alike = chosen-same path cut answers same is.there in
        least-alike cut answers alike.0 alike.1 (least-of cut (record {
          needed = needed;
          union = union;
          needed_there = is.needed_there;
          there = is.there;
          still = still cut is.still;
          least = λ n b own. elim (is.least n b own) [ inl known ↦ inl known | inr never ↦ inr (λ both. never (back-on (path_without cut n) both)) ];
        }))

    pub least-result : {E : Type 0} (result : Result Answers E) → IfOk result (IsCutDown tree path needed test sides) → IfOk result (AreLeast tree path test yes no)
    least-result (Ok answers) is = least-cut answers is
    least-result (Err e) is = tt

    pub needed-inside : Contained needed path
    needed-inside = chosen-there path (needs_list yes) (needs_list no) needed are

pub cut-result : {E : Type 0} (tree : Tree) (path needed : Answers) (test : ℕ) (sides : Sides) (cut none : Answers) (result : Result Answers E) → none ≡ [] → IsLeastCut tree path needed test sides cut → IfOk result (AreChosen path cut none) → IfOk result (IsCutDown tree path needed test sides)
cut-result tree path needed test sides cut none (Ok answers) e is chosen =
    record { cut = cut; is = is; same = subst (λ (l : Answers). AreChosen path cut l answers) e chosen }
cut-result tree path needed test sides cut none (Err err) e is chosen = tt
