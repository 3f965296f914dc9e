-- When a part closes by what is stored: with more stored, and between two paths.
use Rattle.std.proofs.Common.{◌≡◌, ◌<◌, ◌≤◌, ◌+◌, ℕ, zero, suc, List, [], ◌∷◌, ◌++◌, length, Bool, true, false, Option, Some, None, IsSome, All, get_or, slice_get, ◌⊎◌, refl, sym, ◌∙◌, subst, inl, inr, arith}
use Rattle.std.proofs.lemmas.List.{get_or_append_left, length-append}
use Rattle.formula_tree.specs.Answers.{Answers, Contained, answer_of}
use Rattle.formula_tree.specs.Runs.{path_with}
use Rattle.formula_tree.specs.Trees.{Tree}
use Rattle.formula_tree.proofs.Laws.{contained-both, keeps-no}
use Rattle.cnf_clauses.specs.Numbering.{clauses_of}
use Rattle.cnf_clauses.proofs.Cited.{replays_between}
use Rattle.nogoods.specs.Hits.{answers_at}
use Rattle.policy_model.specs.declared.schema.Schema.{Schema}
use Rattle.policy_model.specs.declared.test.Test.{Test}
use Rattle.slot_theory.specs.declared.outcome.SlotProof.{SlotProof}
use Rattle.slot_theory.specs.Acceptance.{AnswerCoreAlike}
use Rattle.slot_theory.specs.Cores.{Accepts}
use Rattle.slot_theory.proofs.Laws.{accepts_alike}
use Rattle.refute_check.specs.Proofs.{Proof, by_clauses, by_slot, by_value, label, labels, reuse, split}
use Rattle.search_parts.specs.Parts.{AreStored, ClosesByStore, EndInOrder}

-- ---- answers

cases_option : (o : Option Bool) → (o ≡ None) ⊎ ((b : Bool) × (o ≡ Some b))
cases_option None = inl refl
cases_option (Some b) = inr (b, refl)

-- what many answers leave open, fewer do
pub open-in : (few many : Answers) (n : ℕ) → Contained few many → answer_of many n ≡ None → answer_of few n ≡ None
open-in few many n inside new =
    elim (cases_option (answer_of few n)) [
      | inl e ↦ e
      | inr (b, e) ↦ let bad : None ≡ Some b = sym new ∙ inside n b e in absurd (cc)
    ]

alike-at : (path other : Answers) (n : ℕ) (o : Option Bool) → Contained path other → answer_of path n ≡ o → IsSome o → answer_of path n ≡ answer_of other n
alike-at path other n (Some b) inside e some = e ∙ sym (inside n b e)
alike-at path other n None inside e some = absurd (cc)

-- more answers answer a core alike
pub core-within : (core : List ℕ) (few many : Answers) → Contained few many → All (λ n. IsSome (answer_of few n)) core → AnswerCoreAlike core few many
core-within core few many inside path_with k d small =
    let n = get_or core k d in
    alike-at few many n (answer_of few n) inside refl (path_with k d small)

-- so does what lies between
pub accepts-more : (schema : Schema) (tests : List Test) (few many : Answers) (core : List ℕ) (proof : SlotProof) → Contained few many → Accepts schema tests few core proof → Accepts schema tests many core proof
accepts-more schema tests few many core proof inside accepts =
    accepts_alike schema tests few many core proof (core-within core few many inside accepts.conflict.core_is.answered) accepts

-- ---- lists that grow

pub get-front : (store more : List Answers) (n : ℕ) → n < length store → slice_get (store ++ more) n ≡ slice_get store n
get-front [] more n small = absurd (omega arith)
get-front (x ∷ store) more zero small = refl
get-front (x ∷ store) more (suc n) small = get-front store more n (omega arith)

module _ (schema : Schema) (tests : List Test) (tree : Tree) where
  abbrev C : List Answers → Proof → Answers → Type 0
  C store = ClosesByStore store schema tests tree

  -- ---- what is stored

  pub closes-stored : (store : List Answers) (p : Proof) (q : Answers) → C store p q → AreStored store p
  closes-stored store (split n y z) q (own, left, right) = (closes-stored store y (path_with q n true) left, closes-stored store z (path_with q n false) right)
  closes-stored store by_value q h = tt
  closes-stored store (by_slot core proof) q h = tt
  closes-stored store (by_clauses hints) q h = tt
  closes-stored store (label n answers p) q (own, inner) = (own.stored, closes-stored store p answers inner)
  closes-stored store (reuse n) q h = tt

  -- ---- with more stored

  module _ (store more : List Answers) where
    later : (n : ℕ) → n < length store → answers_at (store ++ more) n ≡ answers_at store n
    later n small = get_or_append_left store more [] n small

    longer : length store ≤ length (store ++ more)
    longer = omega (arith, length-append store more)

    pub grows : (k : ℕ) (p : Proof) (q : Answers) → EndInOrder k p → k + labels p ≤ length store → C store p q → C (store ++ more) p q
    grows k (split n y z) q order room (own, left, right) = (
      own,
      grows k y (path_with q n true) order.0 (omega (arith, room)) left,
      grows (k + labels y) z (path_with q n false) order.1 (omega (arith, room)) right,
    )
    grows k by_value q order room h = h
    grows k (by_slot core proof) q order room h = h
    grows k (by_clauses hints) q order room h = h
    grows k (label n answers p) q order room (own, inner) =
        let small : n < length store = omega (arith, room, order.1) in
        (record { stored = get-front store more n small ∙ own.stored; rise = own.rise; there = own.there }, grows k p answers order.0 (omega (arith, room)) inner)
    grows k (reuse n) q order room h =
        let small : n < length store = h.within in
        record { within = omega (arith, small, longer); there = subst (λ (a : Answers). Contained a q) (sym (later n small)) h.there }

    pub grew : (k : ℕ) (p : Proof) (q : Answers) → EndInOrder k p → k + labels p ≤ length store → C (store ++ more) p q → C store p q
    grew k (split n y z) q order room (own, left, right) = (
      own,
      grew k y (path_with q n true) order.0 (omega (arith, room)) left,
      grew (k + labels y) z (path_with q n false) order.1 (omega (arith, room)) right,
    )
    grew k by_value q order room h = h
    grew k (by_slot core proof) q order room h = h
    grew k (by_clauses hints) q order room h = h
    grew k (label n answers p) q order room (own, inner) =
        let small : n < length store = omega (arith, room, order.1) in
        (record { stored = sym (get-front store more n small) ∙ own.stored; rise = own.rise; there = own.there }, grew k p answers order.0 (omega (arith, room)) inner)
    grew k (reuse n) q order room h =
        let small : n < length store = omega (arith, room, order) in
        record { within = small; there = subst (λ (a : Answers). Contained a q) (later n small) h.there }

  -- ---- between two paths

  within : (few many answers : Answers) → Contained few many → Contained answers few → Contained answers many
  within few many answers inside there m b is = inside m b (there m b is)

  pub convex : (store : List Answers) (p : Proof) (few between many : Answers) → Contained few between → Contained between many → C store p few → C store p many → C store p between
  convex store (split n y z) few between many inside outside (own, left, right) (own2, left2, right2) =
      let last = own2.1 in
      let middle = open-in between many n outside last in
      let first = own.1 in (
        (own.0, middle),
        convex store y (path_with few n true) (path_with between n true) (path_with many n true)
            (contained-both few between n true inside first middle) (contained-both between many n true outside middle last) left left2,
        convex store z (path_with few n false) (path_with between n false) (path_with many n false)
            (contained-both few between n false inside first middle) (contained-both between many n false outside middle last) right right2,
      )
  convex store by_value few between many inside outside h g = keeps-no few between tree inside h
  convex store (by_slot core proof) few between many inside outside h g = accepts-more schema tests few between core proof inside h
  convex store (by_clauses hints) few between many inside outside h g =
      replays_between (clauses_of (length tests) tree) hints few between many inside outside h g
  convex store (label n answers p) few between many inside outside (own, inner) g =
      (record { stored = own.stored; rise = own.rise; there = within few between answers inside own.there }, inner)
  convex store (reuse n) few between many inside outside h g =
      record { within = h.within; there = within few between (answers_at store n) inside h.there }
