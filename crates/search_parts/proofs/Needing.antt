-- What parts need: where they close under exactly those answers of a path that have some.
use Rattle.std.proofs.Common.{◌≡◌, ◌≢◌, ◌<◌, ◌≤◌, ◌+◌, ℕ, List, [], ◌++◌, length, Bool, true, false, Option, Some, None, IsSome, All, slice_get, refl, sym, ◌∙◌, subst, inl, inr, arith}
use Rattle.std.proofs.lemmas.Option.{get_or_from_slice_get, slice_get_within}
use Rattle.std.proofs.lemmas.List.{length-append}
use Rattle.formula_tree.specs.Answers.{Answers, Contained, answer_of}
use Rattle.formula_tree.specs.Runs.{path_with}
use Rattle.formula_tree.specs.Trees.{Tree}
use Rattle.formula_tree.proofs.Laws.{answer_of-besides, answer_of-last, cases_eq, contained-both}
use Rattle.cnf_clauses.specs.Numbering.{clauses_of}
use Rattle.cnf_clauses.specs.Used.{RestOn}
use Rattle.nogoods.specs.Hits.{answers_at}
use Rattle.policy_model.specs.declared.schema.Schema.{Schema}
use Rattle.policy_model.specs.declared.test.Test.{Test}
use Rattle.slot_theory.specs.declared.outcome.SlotProof.{SlotProof}
use Rattle.slot_theory.specs.Cores.{Accepts}
use Rattle.slot_theory.proofs.Laws.{accepts_alike}
use Rattle.refute_check.specs.Closing.{Rise}
use Rattle.refute_check.specs.Proofs.{Proof, by_clauses, by_slot, label, labels, reuse, split}
use Rattle.search_parts.specs.declared.part.Needs.{Needs}
use Rattle.search_parts.specs.declared.part.Needs.TheVariants.{Just, Open, Unknown}
use Rattle.search_parts.specs.Needs.{AreAnswersTo, AreCutFor, AreLeast, AreNeeds, HasNeeds, IsNoWhereOpen, NeedsJust, needs_list}
use Rattle.tree_values.specs.Omitting.{path_without}
use Rattle.search_parts.specs.Parts.{ClosesByStore, EndInOrder}
use Rattle.search_parts.specs.Trimmed.{NoneCanBeLeftOut}
use Rattle.search_parts.proofs.Closing.{accepts-more, grew, grows, open-in}
use Rattle.search_parts.proofs.Omitting.{omitted-none, omitted-other, omitted-within}

-- ---- parts that need just some answers

-- a shorter path that has what is needed
pub just-shorter : (closes : Answers → Type 0) (path many needs : Answers) → Contained path many → NeedsJust closes many needs → Contained needs path → NeedsJust closes path needs
just-shorter closes path many needs inside just there = record {
  there = there;
  enough = λ few within has. just.enough few (λ n b is. inside n b (within n b is)) has;
  needed = λ few within closed. just.needed few (λ n b is. inside n b (within n b is)) closed;
}

same-answer : (path few : Answers) (n : ℕ) (b : Bool) (o : Option Bool) → Contained few path → answer_of path n ≡ Some b → answer_of few n ≡ o → IsSome o → answer_of few n ≡ Some b
same-answer path few n b (Some c) inside given e some = e ∙ (sym (inside n c e) ∙ given)
same-answer path few n b None inside given e some = absurd (cc)

module _ (schema : Schema) (tests : List Test) (tree : Tree) where
  abbrev C : List Answers → Proof → Answers → Type 0
  C store = ClosesByStore store schema tests tree

  core-needed : (path needs few : Answers) (core : List ℕ) → AreAnswersTo core path needs → Contained few path → All (λ n. IsSome (answer_of few n)) core → Contained needs few
  core-needed path needs few core are inside some n b is =
      let (k, small, at) = are.only n b is in
      same-answer path few n b (answer_of few n) inside (are.there n b is) refl (subst (λ (m : ℕ). IsSome (answer_of few m)) at (some k n small))

  pub slot-just : (store : List Answers) (path needs : Answers) (core : List ℕ) (proof : SlotProof) → Accepts schema tests path core proof → AreAnswersTo core path needs → NeedsJust (C store (by_slot core proof)) path needs
  slot-just store path needs core proof accepts are = record {
    there = are.there;
    enough = λ few inside has. accepts-more schema tests needs few core proof has (accepts_alike schema tests path needs core proof are.all accepts);
    needed = λ few inside closed. core-needed path needs few core are inside closed.conflict.core_is.answered;
  }

  pub clauses-just : (store : List Answers) (path used : Answers) (hints : List ℕ) → RestOn (clauses_of (length tests) tree) path hints used → Contained used path → NeedsJust (C store (by_clauses hints)) path used
  clauses-just store path used hints rest inside = record {
    there = inside;
    enough = λ few within has. (rest few within).0 has;
    needed = λ few within closed. (rest few within).1 closed;
  }

  pub reuse-just : (store : List Answers) (n : ℕ) (answers path : Answers) → slice_get store n ≡ Some answers → Contained answers path → NeedsJust (C store (reuse n)) path answers
  reuse-just store n answers path at inside =
      let own : answers_at store n ≡ answers = get_or_from_slice_get store n answers [] at in
      let small = slice_get_within store n answers at in
      record {
        there = inside;
        enough = λ few within has. record { within = small; there = subst (λ (a : Answers). Contained a few) (sym own) has };
        needed = λ few within closed. subst (λ (a : Answers). Contained a few) own closed.there;
      }

  pub label-just : (store : List Answers) (n : ℕ) (answers path : Answers) (p : Proof) → slice_get store n ≡ Some answers → Rise answers → Contained answers path → C store p answers → NeedsJust (C store (label n answers p)) path answers
  label-just store n answers path p at rise inside closes = record {
    there = inside;
    enough = λ few within has. (record { stored = at; rise = rise; there = has }, closes);
    needed = λ few within closed. closed.0.there;
  }

  -- ---- with more stored

  module _ (store more : List Answers) (k : ℕ) (p : Proof) (order : EndInOrder k p) (room : k + labels p ≤ length store) where
    pub just-grows : (path needs : Answers) → NeedsJust (C store p) path needs → NeedsJust (C (store ++ more) p) path needs
    just-grows path needs just = record {
      there = just.there;
      enough = λ few within has. grows schema tests tree store more k p few order room (just.enough few within has);
      needed = λ few within closed. just.needed few within (grew schema tests tree store more k p few order room closed);
    }

    pub needs-grow : (path : Answers) (needs : Needs) → AreNeeds store (C store p) p path needs → AreNeeds (store ++ more) (C (store ++ more) p) p path needs
    needs-grow path (Just needs) are = just-grows path needs are
    needs-grow path Open are = are
    needs-grow path Unknown are = omega (arith, are, length-append store more)

  -- ---- what a split needs of its path

  closes-with : (store : List Answers) (p : Proof) (path few : Answers) (needs : Needs) → AreNeeds store (C store p) p path needs → Contained few path → HasNeeds tree needs few → C store p few
  closes-with store p path few (Just needs) are inside has = are.enough few inside has
  closes-with store p path few Open are inside has = subst (λ (x : Proof). C store x few) (sym are) has
  closes-with store p path few Unknown are inside has = absurd has

  needs-of : (store : List Answers) (p : Proof) (path few other : Answers) (needs : Needs) → AreNeeds store (C store p) p path needs → HasNeeds tree needs other → Contained few path → C store p few → HasNeeds tree needs few
  needs-of store p path few other (Just needs) are known inside closes = are.needed few inside closes
  needs-of store p path few other Open are known inside closes = subst (λ (x : Proof). C store x few) are closes
  needs-of store p path few other Unknown are known inside closes = absurd known

  module _ (store : List Answers) (path : Answers) (n : ℕ) (y z : Proof) (first second : Needs) (small : n < length tests) (new : answer_of path n ≡ None) (are_first : AreNeeds store (C store y) y (path_with path n true) first) (are_second : AreNeeds store (C store z) z (path_with path n false) second) (answers : Answers) (least : AreLeast tree path n first second answers) where
    side-within : (few : Answers) (b : Bool) → Contained few path → Contained (path_with few n b) (path_with path n b)
    side-within few b inside = contained-both few path n b inside (open-in few path n inside new) new

    pub least-closes : C store (split n y z) answers
    least-closes = (
      (small, open-in answers path n least.there new),
      closes-with store y (path_with path n true) (path_with answers n true) first are_first (side-within answers true least.there) least.enough.yes_side,
      closes-with store z (path_with path n false) (path_with answers n false) second are_second (side-within answers false least.there) least.enough.no_side,
    )

    pub least-needed : NoneCanBeLeftOut (C store (split n y z)) answers
    least-needed m b is closes =
        let inside : Contained (path_without answers m) path = λ k c given. least.there k c (omitted-within answers m k c given) in
        least.least m b is (record {
          yes_side = needs-of store y (path_with path n true) (path_with (path_without answers m) n true) (path_with answers n true) first are_first least.enough.yes_side (side-within (path_without answers m) true inside) closes.1;
          no_side = needs-of store z (path_with path n false) (path_with (path_without answers m) n false) (path_with answers n false) second are_second least.enough.no_side (side-within (path_without answers m) false inside) closes.2;
        })

-- ---- least answers from a cut

listed : (tree : Tree) (needs : Needs) (answers : Answers) → Contained (needs_list needs) answers → IsNoWhereOpen tree needs answers → HasNeeds tree needs answers
listed tree (Just needs) answers has is_no = has
listed tree Open answers has is_no = is_no
listed tree Unknown answers has is_no = is_no

has-listed : (tree : Tree) (needs : Needs) (answers : Answers) → HasNeeds tree needs answers → Contained (needs_list needs) answers
has-listed tree (Just needs) answers has = has
has-listed tree Open answers has = λ n b is. absurd (cc)
has-listed tree Unknown answers has = absurd has

no-where-open : (tree : Tree) (needs : Needs) (answers : Answers) → HasNeeds tree needs answers → IsNoWhereOpen tree needs answers
no-where-open tree (Just needs) answers has = tt
no-where-open tree Open answers has = has
no-where-open tree Unknown answers has = has

-- what is needed on a side, from all that is needed but the split's answer
with-answer : (path needs answers : Answers) (n : ℕ) (b : Bool) → answer_of path n ≡ None → answer_of answers n ≡ None → Contained needs (path_with path n b) → Contained (path_without needs n) answers → Contained needs (path_with answers n b)
with-answer path needs answers n b new free inside has m c is =
    elim (cases_eq m n) [
      | inl e ↦
          let first : answer_of (path_with path n b) m ≡ Some b = rw e (answer_of-last path n b new) in
          let second : answer_of (path_with answers n b) m ≡ Some b = rw e (answer_of-last answers n b free) in
          second ∙ sym first ∙ inside m c is
      | inr ne ↦ answer_of-besides answers n b m ne ∙ has m c (omitted-other needs n m ne ∙ is)
    ]

-- an answer that was left out isn't there
left-out : (needs answers : Answers) (n m : ℕ) (b c : Bool) → m ≢ n → Contained needs (path_with (path_without answers m) n b) → answer_of needs m ≡ Some c → ⊥
left-out needs answers n m b c ne inside is =
    let none : answer_of (path_with (path_without answers m) n b) m ≡ None = answer_of-besides (path_without answers m) n b m ne ∙ omitted-none answers m in
    let bad : None ≡ Some c = sym none ∙ inside m c is in
    absurd (cc)

module _ (tree : Tree) (path : Answers) (n : ℕ) (first second : Needs) (new : answer_of path n ≡ None) (inside_first : Contained (needs_list first) (path_with path n true)) (inside_second : Contained (needs_list second) (path_with path n false)) (answers : Answers) where
  pub cut-least : AreCutFor tree path n first second answers → AreLeast tree path n first second answers
  cut-least cut =
      let free = open-in answers path n cut.there new in
      record {
        there = cut.there;
        enough = record {
          yes_side = listed tree first (path_with answers n true) (with-answer path (needs_list first) answers n true new free inside_first (λ m c is. cut.needed_there m c (cut.union.has_first m c is))) cut.still.0;
          no_side = listed tree second (path_with answers n false) (with-answer path (needs_list second) answers n false new free inside_second (λ m c is. cut.needed_there m c (cut.union.has_second m c is))) cut.still.1;
        };
        least = λ m b is have.
            let apart : m ≢ n = λ e. (let none : answer_of answers m ≡ None = rw e free in let bad : None ≡ Some b = sym none ∙ is in absurd (cc)) in
            elim (cut.least m b is) [
              | inl known ↦
                  elim (cut.union.only m b known) [
                    | inl one ↦ left-out (needs_list first) answers n m true b apart (has-listed tree first (path_with (path_without answers m) n true) have.yes_side) one
                    | inr other ↦ left-out (needs_list second) answers n m false b apart (has-listed tree second (path_with (path_without answers m) n false) have.no_side) other
                  ]
              | inr never ↦ never (no-where-open tree first (path_with (path_without answers m) n true) have.yes_side, no-where-open tree second (path_with (path_without answers m) n false) have.no_side)
            ];
      }
