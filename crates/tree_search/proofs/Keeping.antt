-- Cores that are kept.
use Rattle.std.proofs.Common.{◌≡◌, ◌⊎◌, ℕ, suc, zero, List, [], ◌∷◌, ◌++◌, length, Some, None, refl, sym, ap, ◌∙◌, subst, inl, inr, slice_get, arith}
use Rattle.std.proofs.lemmas.List.{length_push}
use Rattle.std.proofs.lemmas.Option.{get_or_from_slice_get, slice_get_within}
use Rattle.formula_tree.specs.Answers.{Answers, Contained}
use Rattle.nogoods.specs.Hits.{IsHit}
use Rattle.formula_tree.specs.Trees.{Tree}
use Rattle.policy_model.specs.declared.schema.Schema.{Schema}
use Rattle.policy_model.specs.declared.test.Test.{Test}
use Rattle.slot_theory.specs.declared.outcome.SlotProof.{SlotProof}
use Rattle.slot_theory.specs.Cores.{Accepts}
use Rattle.search_parts.specs.declared.part.Needs.TheVariants.{Just}
use Rattle.search_parts.specs.declared.part.Part.{Part}
use Rattle.search_parts.specs.Making.{IsKeptCore, IsSlotPart, part_proof}
use Rattle.search_parts.proofs.Laws.{core-kept}
use Rattle.tree_search.specs.declared.cores.Cores.{Cores}
use Rattle.tree_search.specs.Cores.{AreKeptCores, AreNeedsWithin, IsKeptMore, IsKeptWith, IsNoCore}

some-same : {X : Type 0} (a b : X) → Some a ≡ Some b → a ≡ b
some-same a b e = cc

-- what is read from a list with one more is read from the list, or is that one
read-push : {X : Type 0} (xs : List X) (x a : X) (i : ℕ) → slice_get (xs ++ x ∷ []) i ≡ Some a → (slice_get xs i ≡ Some a) ⊎ ((i ≡ length xs) × (a ≡ x))
read-push [] x a zero e = inr (refl, some-same a x (sym e))
read-push [] x a (suc i) e = absurd (cc)
read-push (y ∷ ys) x a zero e = inl e
read-push (y ∷ ys) x a (suc i) e = elim (read-push ys x a i e) [ inl h ↦ inl h | inr h ↦ inr (ap suc h.0, h.1) ]

-- the answers of a stored list that is a hit
pub stored-there : (lists : List Answers) (number : ℕ) (answers path : Answers) → slice_get lists number ≡ Some answers → IsHit lists path number → Contained answers path
stored-there lists number answers path at hit = subst (λ (few : Answers). Contained few path) (get_or_from_slice_get lists number answers [] at) hit

module _ (schema : Schema) (tests : List Test) where
  -- no core is one of those kept
  pub none-kept : (cores : Cores) → IsNoCore cores → AreKeptCores schema tests cores
  none-kept cores none = record {
    count = rw (none.lists, none.parts) refl;
    each = λ i answers r at kept. let bad : None ≡ Some answers = rw none.lists at at in absurd (cc);
  }

  kept-more : (old : Cores) (part : Part) (new : Cores) → IsKeptMore old part new → ((answers : Answers) → part.needs ≡ Just answers → IsKeptCore schema tests answers (part_proof part)) → AreKeptCores schema tests old → AreKeptCores schema tests new
  kept-more old part new more core are = record {
    count = let first = length_push old.lists.lists more.answers in let second = length_push old.parts.items more.kept in let same = are.count in rw (more.lists, more.parts) (omega arith);
    each = λ i answers r at kept.
        elim (read-push old.lists.lists more.answers answers i (rw more.lists at at)) [
          | inl before ↦
              let low = slice_get_within old.lists.lists i answers before in
              elim (read-push old.parts.items more.kept r i (rw more.parts at kept)) [
                | inl there ↦ are.each i answers r before there
                | inr last ↦ let same = are.count in let bad : i ≡ length old.parts.items = last.0 in absurd (omega arith)
              ]
          | inr last ↦
              elim (read-push old.parts.items more.kept r i (rw more.parts at kept)) [
                | inl there ↦
                    let low = slice_get_within old.parts.items i r there in
                    let same = are.count in
                    let bad : i ≡ length old.lists.lists = last.0 in
                    absurd (omega arith)
                | inr there ↦ rw (last.1, there.1, more.same) (core more.answers more.own)
              ]
        ];
  }

  -- a part by a core that is kept is among them
  pub kept-with : (old : Cores) (part : Part) (new : Cores) → IsKeptWith old part new → ((answers : Answers) → part.needs ≡ Just answers → IsKeptCore schema tests answers (part_proof part)) → AreKeptCores schema tests old → AreKeptCores schema tests new
  kept-with old part new with core are = elim with.kept [
    | inl same ↦ subst (λ (c : Cores). AreKeptCores schema tests c) (sym same) are
    | inr more ↦ kept-more old part new more core are
  ]

  -- a part by a core needs answers of the path
  pub slot-within : (path other : Answers) (core : List ℕ) (proof : SlotProof) (part : Part) → IsSlotPart path core proof part → other ≡ path → AreNeedsWithin part.needs other
  slot-within path other core proof part is same = rw (is.is.needs, same) is.own.there

  just-same : (a b : Answers) → Just a ≡ Just b → a ≡ b
  just-same a b e = cc

  -- and is kept with them
  pub slot-kept : (tree : Tree) (path : Answers) (core : List ℕ) (proof : SlotProof) (part : Part) → IsSlotPart path core proof part → Accepts schema tests path core proof → (answers : Answers) → part.needs ≡ Just answers → IsKeptCore schema tests answers (part_proof part)
  slot-kept tree path core proof part is accepted answers own =
      subst (λ (a : Answers). IsKeptCore schema tests a (part_proof part)) (just-same is.answers answers (sym is.is.needs ∙ own)) (core-kept schema tests tree path core proof part is accepted)
