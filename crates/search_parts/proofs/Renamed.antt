-- A part whose labels are numbered by their lines closes by the rules of a finished refutation exactly where it closes by what is
-- stored.
use Rattle.std.proofs.Common.{◌≡◌, ◌<◌, ◌≤◌, ◌+◌, ℕ, zero, suc, List, [], ◌∷◌, ◌++◌, length, true, false, Some, All, get_or, slice_get, drop, zip, refl, sym, ap, ◌∙◌, subst, arith}
use Rattle.std.proofs.lemmas.List.{drop-drop, get_or_default}
use Rattle.std.proofs.lemmas.Slice.Zip.{get_or-zip, length-zip}
use Rattle.formula_tree.specs.Answers.{Answers, Contained}
use Rattle.formula_tree.specs.Runs.{path_with}
use Rattle.formula_tree.specs.Trees.{Tree}
use Rattle.nogoods.specs.Hits.{answers_at}
use Rattle.policy_model.specs.declared.schema.Schema.{Schema}
use Rattle.policy_model.specs.declared.test.Test.{Test}
use Rattle.refute_check.specs.Closing.{Before, Closes, IsReuse, after_part}
use Rattle.refute_check.specs.Proofs.{Proof, by_clauses, by_slot, by_value, depth, ended_in, label, labels, reuse, split, splits}
use Rattle.search_parts.specs.Parts.{AreStored, ClosesByStore, EndInOrder, IsTrimmedBy, LabelSplits}
use Rattle.search_parts.specs.Renaming.{AreNames, before_by, line_names, renamed_proof}
use Rattle.search_parts.specs.Trimmed.{IsTrimmedAt, bare_splits, bare_in_label, learned_splits, one_if_split}
use Rattle.search_parts.proofs.Closing.{closes-stored}
use Rattle.search_parts.proofs.Naming.{line_names-are, line_names-length, names-behind, wider}

-- ---- lists of pairs

zip-empty : (xs : List ℕ) → zip {K = ℕ} {X = Answers} xs [] ≡ []
zip-empty [] = refl
zip-empty (x ∷ xs) = refl

zip-behind : (xs ys : List ℕ) (zs : List Answers) → zip (xs ++ ys) zs ≡ zip xs zs ++ zip ys (drop (length xs) zs)
zip-behind [] ys zs = refl
zip-behind (x ∷ xs) ys [] = sym (zip-empty ys)
zip-behind (x ∷ xs) ys (z ∷ zs) = ap (λ l. (x, z) ∷ l) (zip-behind xs ys zs)

zip-one : (store : List Answers) (n b : ℕ) (answers : Answers) → slice_get store n ≡ Some answers → zip (b ∷ []) (drop n store) ≡ (b, answers) ∷ []
zip-one [] n b answers at = absurd (cc)
zip-one (a ∷ store) zero b answers at = let same : a ≡ answers = cc in rw same refl
zip-one (a ∷ store) (suc n) b answers at = zip-one store n b answers at

-- ---- what numbers don't change

pub renamed-labels : (p : Proof) (names : List ℕ) (begun : ℕ) → labels (renamed_proof names begun p) ≡ labels p
renamed-labels (split n y z) names begun = rw (renamed-labels y names begun, renamed-labels z (names ++ line_names begun y) (begun + labels y)) refl
renamed-labels by_value names begun = refl
renamed-labels (by_slot core proof) names begun = refl
renamed-labels (by_clauses hints) names begun = refl
renamed-labels (label n answers p) names begun = rw (renamed-labels p names (begun + 1)) refl
renamed-labels (reuse n) names begun = refl

pub renamed-splits : (p : Proof) (names : List ℕ) (begun : ℕ) → splits (renamed_proof names begun p) ≡ splits p
renamed-splits (split n y z) names begun = rw (renamed-splits y names begun, renamed-splits z (names ++ line_names begun y) (begun + labels y)) refl
renamed-splits by_value names begun = refl
renamed-splits (by_slot core proof) names begun = refl
renamed-splits (by_clauses hints) names begun = refl
renamed-splits (label n answers p) names begun = renamed-splits p names (begun + 1)
renamed-splits (reuse n) names begun = refl

pub renamed-depth : (p : Proof) (names : List ℕ) (begun : ℕ) → depth (renamed_proof names begun p) ≡ depth p
renamed-depth (split n y z) names begun = rw (renamed-depth y names begun, renamed-depth z (names ++ line_names begun y) (begun + labels y)) refl
renamed-depth by_value names begun = refl
renamed-depth (by_slot core proof) names begun = refl
renamed-depth (by_clauses hints) names begun = refl
renamed-depth (label n answers p) names begun = rw (renamed-depth p names (begun + 1)) refl
renamed-depth (reuse n) names begun = refl

renamed-one : (p : Proof) (names : List ℕ) (begun : ℕ) → one_if_split (renamed_proof names begun p) ≡ one_if_split p
renamed-one (split n y z) names begun = refl
renamed-one by_value names begun = refl
renamed-one (by_slot core proof) names begun = refl
renamed-one (by_clauses hints) names begun = refl
renamed-one (label n answers p) names begun = refl
renamed-one (reuse n) names begun = refl

pub renamed-learned : (p : Proof) (names : List ℕ) (begun : ℕ) → learned_splits (renamed_proof names begun p) ≡ learned_splits p
renamed-learned (split n y z) names begun = rw (renamed-learned y names begun, renamed-learned z (names ++ line_names begun y) (begun + labels y)) refl
renamed-learned by_value names begun = refl
renamed-learned (by_slot core proof) names begun = refl
renamed-learned (by_clauses hints) names begun = refl
renamed-learned (label n answers p) names begun = rw (renamed-one p names (begun + 1), renamed-learned p names (begun + 1)) refl
renamed-learned (reuse n) names begun = refl

mutual
  pub renamed-bare : (p : Proof) (names : List ℕ) (begun : ℕ) → bare_splits (renamed_proof names begun p) ≡ bare_splits p
  renamed-bare (split n y z) names begun = rw (renamed-bare y names begun, renamed-bare z (names ++ line_names begun y) (begun + labels y)) refl
  renamed-bare by_value names begun = refl
  renamed-bare (by_slot core proof) names begun = refl
  renamed-bare (by_clauses hints) names begun = refl
  renamed-bare (label n answers p) names begun = bare-inside p names (begun + 1)
  renamed-bare (reuse n) names begun = refl

  bare-inside : (p : Proof) (names : List ℕ) (begun : ℕ) → bare_in_label (renamed_proof names begun p) ≡ bare_in_label p
  bare-inside (split n y z) names begun = rw (renamed-bare y names begun, renamed-bare z (names ++ line_names begun y) (begun + labels y)) refl
  bare-inside by_value names begun = refl
  bare-inside (by_slot core proof) names begun = refl
  bare-inside (by_clauses hints) names begun = refl
  bare-inside (label n answers p) names begun = bare-inside p names (begun + 1)
  bare-inside (reuse n) names begun = refl

-- where each label is a split's, each is a learned split
pub learned-labels : (p : Proof) → LabelSplits p → learned_splits p ≡ labels p
learned-labels (split n y z) are = rw (learned-labels y are.0, learned-labels z are.1) refl
learned-labels by_value are = refl
learned-labels (by_slot core proof) are = refl
learned-labels (by_clauses hints) are = refl
learned-labels (label n answers (split m y z)) are = omega (arith, learned-labels y are.0, learned-labels z are.1)
learned-labels (label n answers by_value) are = absurd are
learned-labels (label n answers (by_slot core proof)) are = absurd are
learned-labels (label n answers (by_clauses hints)) are = absurd are
learned-labels (label n answers (label m inner p)) are = absurd are
learned-labels (label n answers (reuse m)) are = absurd are
learned-labels (reuse n) are = refl

-- ---- what stands before a node

module _ (store : List Answers) where
  -- the labels of a part end with the lists that were stored for them
  pub ended-renamed : (p : Proof) (k begun : ℕ) (names : List ℕ) → EndInOrder k p → AreStored store p → ended_in (renamed_proof names begun p) ≡ zip (line_names begun p) (drop k store)
  ended-renamed (split n y z) k begun names order stored =
      let first = ended-renamed y k begun names order.0 stored.0 in
      let second = ended-renamed z (k + labels y) (begun + labels y) (names ++ line_names begun y) order.1 stored.1 in
      let place : drop (length (line_names begun y)) (drop k store) ≡ drop (k + labels y) store =
      drop-drop (length (line_names begun y)) k store ∙ ap (λ (m : ℕ). drop (k + m) store) (line_names-length begun y)
      in
      rw (first, second, zip-behind (line_names begun y) (line_names (begun + labels y) z) (drop k store), place) refl
  ended-renamed by_value k begun names order stored = refl
  ended-renamed (by_slot core proof) k begun names order stored = refl
  ended-renamed (by_clauses hints) k begun names order stored = refl
  ended-renamed (label n answers p) k begun names order stored =
      let first = ended-renamed p k (begun + 1) names order.0 stored.1 in
      let place : drop (length (line_names (begun + 1) p)) (drop k store) ≡ drop (k + labels p) store =
      drop-drop (length (line_names (begun + 1) p)) k store ∙ ap (λ (m : ℕ). drop (k + m) store) (line_names-length (begun + 1) p)
      in
      let at : slice_get store (k + labels p) ≡ Some answers = subst (λ (m : ℕ). slice_get store m ≡ Some answers) order.1 stored.0 in
      rw (first, zip-behind (line_names (begun + 1) p) (begun ∷ []) (drop k store), place, zip-one store (k + labels p) begun answers at) refl
  ended-renamed (reuse n) k begun names order stored = refl

  abbrev made : ℕ → List (ℕ × Answers) → Before
  made begun ended = record { begun = begun; ended = ended }

  -- after a part its labels stand before what follows
  pub after-renamed : (p : Proof) (k begun : ℕ) (names : List ℕ) → length names ≡ k → EndInOrder k p → AreStored store p → after_part (before_by store names begun) (renamed_proof names begun p) ≡ before_by store (names ++ line_names begun p) (begun + labels p)
  after-renamed p k begun names count order stored =
      let more : zip names store ++ ended_in (renamed_proof names begun p) ≡ zip (names ++ line_names begun p) store =
      ap (λ l. zip names store ++ l) (ended-renamed p k begun names order stored ∙ ap (λ (m : ℕ). zip (line_names begun p) (drop m store)) (sym count)) ∙ sym (zip-behind names (line_names begun p) store)
      in
      ap (λ (m : ℕ). made (begun + m) (zip names store ++ ended_in (renamed_proof names begun p))) (renamed-labels p names begun) ∙ ap (made (begun + labels p)) more

-- ---- a node that reuses a label

module _ (store : List Answers) (names : List ℕ) (begun k : ℕ) (are : AreNames 0 begun k names) (room : k ≤ length store) where
  pub pairs-count : length (zip names store) ≡ k
  pairs-count = omega (arith, length-zip names store, are.count_is, room)

  pub pair-at : (i : ℕ) (d : ℕ × Answers) → i < k → get_or (zip names store) i d ≡ (get_or names i 0, answers_at store i)
  pair-at i d small =
      let first : i < length names = omega (arith, small, are.count_is) in
      let second : i < length store = omega (arith, small, room) in
      get_or-zip names store i d first second ∙ ap (λ (m : ℕ). (m, get_or store i d.1)) (get_or_default names i d.0 0 first) ∙ ap (λ (a : Answers). (get_or names i 0, a)) (get_or_default store i d.1 [] second)

  pub reuse-forth : (n : ℕ) (path : Answers) → n < k → Contained (answers_at store n) path → IsReuse (before_by store names begun) (get_or names n 0) path
  reuse-forth n path small inside =
      let l : ℕ × Answers = (get_or names n 0, answers_at store n) in
      (n, l, omega (arith, small, pairs-count), pair-at n l small, (refl, inside))

  pub reuse-back : (n : ℕ) (path : Answers) → n < k → IsReuse (before_by store names begun) (get_or names n 0) path → Contained (answers_at store n) path
  reuse-back n path small (i, l, within, is, (same, inside)) =
      let little : i < k = omega (arith, within, pairs-count) in
      let pair : l ≡ (get_or names i 0, answers_at store i) = sym is ∙ pair-at i l little in
      let number : get_or names i 0 ≡ get_or names n 0 = sym (ap (λ (x : ℕ × Answers). x.0) pair) ∙ same in
      let place : i ≡ n = are.differ i n little small number in
      subst (λ (m : ℕ). Contained (answers_at store m) path) place (subst (λ (x : ℕ × Answers). Contained x.1 path) pair inside)

  pub none-reused : (path : Answers) → ((i : ℕ) → i < k → ¬ Contained (answers_at store i) path) → All (λ l. ¬ Contained l.1 path) (zip names store)
  none-reused path none i d within =
      let little : i < k = omega (arith, within, pairs-count) in
      subst (λ (x : ℕ × Answers). ¬ Contained x.1 path) (sym (pair-at i d little)) (none i little)

-- ---- closing

pub next-names : (y : Proof) (names : List ℕ) (begun k : ℕ) → AreNames 0 begun k names → AreNames 0 (begun + labels y) (k + labels y) (names ++ line_names begun y)
next-names y names begun k are = names-behind 0 begun (begun + labels y) k (labels y) names (line_names begun y) (omega arith) (omega arith) are (line_names-are begun y)

module _ (schema : Schema) (tests : List Test) (tree : Tree) (store : List Answers) where
  abbrev C : Proof → Answers → Type 0
  C = ClosesByStore store schema tests tree

  abbrev After : List ℕ → ℕ → Proof → Answers → Type 0
  After names begun = Closes schema tests tree (before_by store names begun)

  inside-names : (names : List ℕ) (begun k : ℕ) → AreNames 0 begun k names → AreNames 0 (begun + 1) k names
  inside-names names begun k are = wider 0 0 begun (begun + 1) k names (omega arith) (omega arith) are

  pub renamed-closes : (p : Proof) (k begun : ℕ) (names : List ℕ) (q : Answers) → EndInOrder k p → AreNames 0 begun k names → k + labels p ≤ length store → C p q → After names begun (renamed_proof names begun p) q
  renamed-closes (split n y z) k begun names q order are room (own, left, right) =
      let after = after-renamed store y k begun names are.count_is order.0 (closes-stored schema tests tree store y (path_with q n true) left) in (
        own,
        renamed-closes y k begun names (path_with q n true) order.0 are (omega (arith, room)) left,
        subst (λ (b : Before). Closes schema tests tree b (renamed_proof (names ++ line_names begun y) (begun + labels y) z) (path_with q n false)) (sym after)
            (renamed-closes z (k + labels y) (begun + labels y) (names ++ line_names begun y) (path_with q n false) order.1 (next-names y names begun k are) (omega (arith, room)) right),
      )
  renamed-closes by_value k begun names q order are room h = h
  renamed-closes (by_slot core proof) k begun names q order are room h = h
  renamed-closes (by_clauses hints) k begun names q order are room h = h
  renamed-closes (label n answers p) k begun names q order are room (own, inner) =
      (record { next = refl; rise = own.rise; there = own.there }, renamed-closes p k (begun + 1) names answers order.0 (inside-names names begun k are) (omega (arith, room)) inner)
  renamed-closes (reuse n) k begun names q order are room h = reuse-forth store names begun k are (omega (arith, room)) n q order h.there

  pub closes-renamed : (p : Proof) (k begun : ℕ) (names : List ℕ) (q : Answers) → EndInOrder k p → AreStored store p → AreNames 0 begun k names → k + labels p ≤ length store → After names begun (renamed_proof names begun p) q → C p q
  closes-renamed (split n y z) k begun names q order stored are room (own, left, right) =
      let after = after-renamed store y k begun names are.count_is order.0 stored.0 in (
        own,
        closes-renamed y k begun names (path_with q n true) order.0 stored.0 are (omega (arith, room)) left,
        closes-renamed z (k + labels y) (begun + labels y) (names ++ line_names begun y) (path_with q n false) order.1 stored.1 (next-names y names begun k are) (omega (arith, room))
            (subst (λ (b : Before). Closes schema tests tree b (renamed_proof (names ++ line_names begun y) (begun + labels y) z) (path_with q n false)) after right),
      )
  closes-renamed by_value k begun names q order stored are room h = h
  closes-renamed (by_slot core proof) k begun names q order stored are room h = h
  closes-renamed (by_clauses hints) k begun names q order stored are room h = h
  closes-renamed (label n answers p) k begun names q order stored are room (own, inner) =
      (record { stored = stored.0; rise = own.rise; there = own.there }, closes-renamed p k (begun + 1) names answers order.0 stored.1 (inside-names names begun k are) (omega (arith, room)) inner)
  closes-renamed (reuse n) k begun names q order stored are room h =
      let small : n < length store = omega (arith, order, room) in
      record { within = small; there = reuse-back store names begun k are (omega (arith, room)) n q order h }

  -- ---- trimmed

  pub renamed-trimmed : (p : Proof) (k begun : ℕ) (names : List ℕ) (q : Answers) → EndInOrder k p → AreStored store p → AreNames 0 begun k names → k + labels p ≤ length store → IsTrimmedBy store schema tests tree k p q → IsTrimmedAt schema tests tree (before_by store names begun) (renamed_proof names begun p) q
  renamed-trimmed (split n y z) k begun names q order stored are room (needed, none, left, right) =
      let after = after-renamed store y k begun names are.count_is order.0 stored.0 in (
        λ closes. needed (closes-renamed y k begun names q order.0 stored.0 are (omega (arith, room)) closes),
        none-reused store names begun k are (omega (arith, room)) q none,
        renamed-trimmed y k begun names (path_with q n true) order.0 stored.0 are (omega (arith, room)) left,
        subst (λ (b : Before). IsTrimmedAt schema tests tree b (renamed_proof (names ++ line_names begun y) (begun + labels y) z) (path_with q n false)) (sym after)
            (renamed-trimmed z (k + labels y) (begun + labels y) (names ++ line_names begun y) (path_with q n false) order.1 stored.1 (next-names y names begun k are) (omega (arith, room)) right),
      )
  renamed-trimmed by_value k begun names q order stored are room h = h
  renamed-trimmed (by_slot core proof) k begun names q order stored are room h = h
  renamed-trimmed (by_clauses hints) k begun names q order stored are room h = h
  renamed-trimmed (label n answers p) k begun names q order stored are room (needed, inner) = (
    λ m b is closes. needed m b is (closes-renamed p k (begun + 1) names _ order.0 stored.1 (inside-names names begun k are) (omega (arith, room)) closes),
    renamed-trimmed p k (begun + 1) names answers order.0 stored.1 (inside-names names begun k are) (omega (arith, room)) inner,
  )
  renamed-trimmed (reuse n) k begun names q order stored are room h = h
