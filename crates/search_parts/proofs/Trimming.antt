-- Trimmed parts, by what is stored.
use Rattle.std.proofs.Common.{◌≡◌, ◌⊎◌, ◌<◌, ◌≤◌, ◌+◌, ℕ, List, [], ◌++◌, length, Bool, true, false, None, ◌∙◌, subst, inl, inr, arith}
use Rattle.std.proofs.lemmas.List.{get_or_append_left}
use Rattle.formula_tree.specs.Answers.{Answers, Contained, answer_of}
use Rattle.formula_tree.specs.Runs.{path_with}
use Rattle.formula_tree.specs.Trees.{Tree}
use Rattle.formula_tree.proofs.Laws.{contained-answered, contained-both}
use Rattle.nogoods.specs.Hits.{NoHit, answers_at}
use Rattle.policy_model.specs.declared.schema.Schema.{Schema}
use Rattle.policy_model.specs.declared.test.Test.{Test}
use Rattle.refute_check.specs.Closing.{Closes, at_first}
use Rattle.refute_check.specs.Proofs.{Proof, by_clauses, by_slot, by_value, label, labels, reuse, split}
use Rattle.search_parts.specs.declared.learning.TheConstants.{MOST_LEARNED}
use Rattle.search_parts.specs.Parts.{ClosesByStore, EndInOrder, IsTrimmedAlong, IsTrimmedBy, LabelSplits}
use Rattle.search_parts.specs.Renaming.{renamed_proof}
use Rattle.search_parts.specs.Trimmed.{IsTrimmed, NoneCanBeLeftOut, bare_splits, learned_splits}
use Rattle.search_parts.proofs.Closing.{closes-stored, convex, grew}
use Rattle.search_parts.proofs.Naming.{names-none}
use Rattle.search_parts.proofs.Renamed.{learned-labels, renamed-bare, renamed-closes, renamed-learned, renamed-trimmed}

module _ (schema : Schema) (tests : List Test) (tree : Tree) where
  abbrev C : List Answers → Proof → Answers → Type 0
  C store = ClosesByStore store schema tests tree

  abbrev Trimmed : List Answers → ℕ → Proof → Answers → Type 0
  Trimmed store = IsTrimmedBy store schema tests tree

  abbrev Along : List Answers → ℕ → Proof → Answers → Type 0
  Along store = IsTrimmedAlong store schema tests tree

  -- ---- with more stored

  pub trimmed-grows : (store more : List Answers) (k : ℕ) (p : Proof) (q : Answers) → EndInOrder k p → k + labels p ≤ length store → Trimmed store k p q → Trimmed (store ++ more) k p q
  trimmed-grows store more k (split n y z) q order room (needed, none, left, right) = (
    λ closes. needed (grew schema tests tree store more k y q order.0 (omega (arith, room)) closes),
    λ i small inside. none i small (subst (λ (a : Answers). Contained a q) (get_or_append_left store more [] i (omega (arith, small, room))) inside),
    trimmed-grows store more k y (path_with q n true) order.0 (omega (arith, room)) left,
    trimmed-grows store more (k + labels y) z (path_with q n false) order.1 (omega (arith, room)) right,
  )
  trimmed-grows store more k by_value q order room h = h
  trimmed-grows store more k (by_slot core proof) q order room h = h
  trimmed-grows store more k (by_clauses hints) q order room h = h
  trimmed-grows store more k (label n answers p) q order room (needed, inner) = (
    λ m b is closes. needed m b is (grew schema tests tree store more k p _ order.0 (omega (arith, room)) closes),
    trimmed-grows store more k p answers order.0 (omega (arith, room)) inner,
  )
  trimmed-grows store more k (reuse n) q order room h = h

  pub along-grows : (store more : List Answers) (k : ℕ) (p : Proof) (path : Answers) → EndInOrder k p → k + labels p ≤ length store → Along store k p path → Along (store ++ more) k p path
  along-grows store more k p path order room along few inside closes =
      trimmed-grows store more k p few order room (along few inside (grew schema tests tree store more k p few order room closes))

  -- ---- parts put together

  -- a shorter path
  pub along-shorter : (store : List Answers) (k : ℕ) (p : Proof) (path many : Answers) → Contained path many → Along store k p many → Along store k p path
  along-shorter store k p path many inside along few within = along few (λ n b is. inside n b (within n b is))

  -- a part that goes without the split above it
  pub along-skipped : (store : List Answers) (k : ℕ) (p : Proof) (path : Answers) (n : ℕ) (b : Bool) → Along store k p (path_with path n b) → Along store k p path
  along-skipped store k p path n b = along-shorter store k p path (path_with path n b) (contained-answered path n b)

  -- a split whose yes side doesn't close without it, where nothing that is stored was contained in its path
  pub along-split : (store : List Answers) (k : ℕ) (n : ℕ) (y z : Proof) (path : Answers) → answer_of path n ≡ None → C store y (path_with path n true) → ¬ C store y path → ((i : ℕ) → i < k → ¬ Contained (answers_at store i) path) →
      Along store k y (path_with path n true) → Along store (k + labels y) z (path_with path n false) → Along store k (split n y z) path
  along-split store k n y z path new closes needed none left right few inside (own, first, second) = (
    λ early. needed (convex schema tests tree store y few path (path_with path n true) inside (contained-answered path n true) early closes),
    λ i small there. none i small (λ m b is. inside m b (there m b is)),
    left (path_with few n true) (contained-both few path n true inside own.1 new) first,
    right (path_with few n false) (contained-both few path n false inside own.1 new) second,
  )

  -- a label none of whose answers can be left out
  pub along-label : (store : List Answers) (k : ℕ) (n : ℕ) (answers : Answers) (p : Proof) (path : Answers) → NoneCanBeLeftOut (C store p) answers → Along store k p answers → Along store k (label n answers p) path
  along-label store k n answers p path needed along few inside (own, inner) = (needed, along answers (λ m b is. is) inner)

  -- no stored list of the first so many is contained in a path that contains none of them all
  pub none-stored : (old more : List Answers) (path : Answers) → NoHit old path → (i : ℕ) → i < length old → ¬ Contained (answers_at (old ++ more) i) path
  none-stored old more path none i small inside =
      let hit = subst (λ (a : Answers). Contained a path) (get_or_append_left old more [] i small) inside in
      let late = none i small hit in
      absurd (omega (arith, small, late))

  -- ---- the whole refutation

  module _ (store : List Answers) (p : Proof) (order : EndInOrder 0 p) (room : labels p ≤ length store) (closes : C store p []) where
    -- with its labels numbered by their lines it closes by the rules of finished refutations
    pub whole-closes : Closes schema tests tree at_first (renamed_proof [] 0 p) []
    whole-closes = renamed-closes schema tests tree store p 0 0 [] [] order (names-none 0) (omega (arith, room)) closes

    -- and is trimmed
    pub whole-trimmed : Along store 0 p [] → LabelSplits p → labels p ≡ length store → (bare_splits p ≡ 0) ⊎ (MOST_LEARNED ≤ length store) → IsTrimmed schema tests tree (renamed_proof [] 0 p)
    whole-trimmed along splits count enough = record {
      learned =
          elim enough [
            | inl none ↦ inl (renamed-bare p [] 0 ∙ none)
            | inr many ↦ let all : learned_splits (renamed_proof [] 0 p) ≡ length store = renamed-learned p [] 0 ∙ learned-labels p splits ∙ count in inr (omega (arith, all, many))
          ];
      each = renamed-trimmed schema tests tree store p 0 0 [] [] order (closes-stored schema tests tree store p [] closes) (names-none 0) (omega (arith, room)) (along [] (λ n b is. is) closes);
    }
