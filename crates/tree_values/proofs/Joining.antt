-- Nodes that are added, and several nodes seen together.
use Rattle.std.proofs.Common.{◌≡◌, ℕ, ◌<◌, ◌≤◌, ◌+◌, ◌==◌, ◌||◌, List, [], ◌∷◌, ◌++◌, length, take, zero, suc, Bool, true, false, Option, Some, slice_get, ◌⊎◌, inl, inr, refl, sym, ap, subst, ◌∙◌, arith, append_assoc, append-nil, length-append}
use Rattle.std.proofs.Common.{Result, Ok, Err, if◌then◌else◌}
use Rattle.std.specs.Prelude.{IfOk, OnOk}
use Rattle.std.specs.List.{All}
use Rattle.std.proofs.lemmas.List.{take_all}
use Rattle.std.proofs.lemmas.Option.{slice_get_within}
use Rattle.formula_tree.specs.Trees.{Tree}
use Rattle.formula_tree.specs.Trees.{not as negation}
use Rattle.formula_tree.proofs.Laws.{both-assoc, either-assoc}
use Rattle.tree_values.specs.Nodes.{AreAt, AreChildrenIn, AreOrdered, AreSettled, IsAt, IsJointNode, IsPrefix, empty_node, empty_seen, has_child, joint_node, joint_seen, joint_tree, joined_seen, leaf_tree, node_seen, seen_at}
use Rattle.formula_tree.specs.Looks.{look_of_both, look_of_either, look_of_tree, look_of_not}
use Rattle.tree_values.specs.declared.node.Node.{Node}
use Rattle.tree_values.specs.declared.node.Node.TheVariants as node
use Rattle.formula_tree.specs.declared.looks.Look.{Look}
use Rattle.formula_tree.proofs.FormulaWalks.{take_next}
use Rattle.tree_values.proofs.Lists.{get-more, get-push, number-same, or-cases, or-false, same-number}

-- ---- several seen together

joint-assoc : (every : Bool) (a b c : Look) → joint_seen every a (joint_seen every b c) ≡ joint_seen every (joint_seen every a b) c
joint-assoc true = both-assoc
joint-assoc false = either-assoc

joint-empty : (every : Bool) (a : Look) → joint_seen every (empty_seen every) a ≡ a
joint-empty true a = refl
joint-empty false a = refl

joined-append : (every : Bool) (marks : List Look) (cs ds : List ℕ) → joined_seen every marks (cs ++ ds) ≡ joint_seen every (joined_seen every marks cs) (joined_seen every marks ds)
joined-append every marks [] ds = sym (joint-empty every (joined_seen every marks ds))
joined-append every marks (c ∷ cs) ds =
    ap (joint_seen every (seen_at marks c)) (joined-append every marks cs ds) ∙ joint-assoc every (seen_at marks c) (joined_seen every marks cs) (joined_seen every marks ds)

-- ---- more nodes leave what the others stand for

settled-prefix : (old new : List Node) (answers : ℕ → Option Bool) (marks : List Look) → IsPrefix old new → AreSettled new answers marks → AreSettled old answers marks
settled-prefix old new answers marks (rest, is) settled i n there = settled i n (subst (λ (xs : List Node). slice_get xs i ≡ Some n) (sym is) (get-more old rest i n there))

pub prefix-longer : (old new : List Node) (i : ℕ) → IsPrefix old new → i < length old → i < length new
prefix-longer old new i (rest, is) lt = omega (arith, ap length is ∙ length-append old rest)

pub prefix-then : (old mid new : List Node) → IsPrefix old mid → IsPrefix mid new → IsPrefix old new
prefix-then old mid new (a, e) (b, f) = (a ++ b, f ∙ ap (λ (x : List Node). x ++ b) e ∙ append_assoc old a b)

pub at-prefix : (old new : List Node) (t : Tree) (i : ℕ) → IsPrefix old new → IsAt old t i → IsAt new t i
at-prefix old new t i grows (within, at) = (prefix-longer old new i grows within, λ answers marks settled. at answers marks (settled-prefix old new answers marks grows settled))

pub joined-prefix : (old new : List Node) (every : Bool) (cs : List ℕ) (i : ℕ) → IsPrefix old new → IsJointNode old every cs i → IsJointNode new every cs i
joined-prefix old new every cs i grows (within, at) = (prefix-longer old new i grows within, λ answers marks settled. at answers marks (settled-prefix old new answers marks grows settled))

pub are-at-prefix : (old new : List Node) (ts : List Tree) (cs : List ℕ) → IsPrefix old new → AreAt old ts cs → AreAt new ts cs
are-at-prefix old new [] [] grows at = tt
are-at-prefix old new [] (c ∷ cs) grows at = absurd at
are-at-prefix old new (t ∷ ts) [] grows at = absurd at
are-at-prefix old new (t ∷ ts) (c ∷ cs) grows at = (at-prefix old new t c grows at.0, are-at-prefix old new ts cs grows at.1)

are-at-snoc : (nodes : List Node) (ts : List Tree) (cs : List ℕ) (t : Tree) (c : ℕ) → AreAt nodes ts cs → IsAt nodes t c → AreAt nodes (ts ++ t ∷ []) (cs ++ c ∷ [])
are-at-snoc nodes [] [] t c kept at = (at, tt)
are-at-snoc nodes [] (d ∷ cs) t c kept at = absurd kept
are-at-snoc nodes (u ∷ ts) [] t c kept at = absurd kept
are-at-snoc nodes (u ∷ ts) (d ∷ cs) t c kept at = (kept.0, are-at-snoc nodes ts cs t c kept.1 at)

pub are-at-more : (old new : List Node) (ts : List Tree) (cs : List ℕ) (t : Tree) (c : ℕ) → IsPrefix old new → AreAt old ts cs → IsAt new t c → AreAt new (ts ++ t ∷ []) (cs ++ c ∷ [])
are-at-more old new ts cs t c grows kept at = are-at-snoc new ts cs t c (are-at-prefix old new ts cs grows kept) at

pub are-below : (nodes : List Node) (ts : List Tree) (cs : List ℕ) → AreAt nodes ts cs → All (λ c. c < length nodes) cs
are-below nodes ts [] at k d lt = absurd (omega arith)
are-below nodes [] (c ∷ cs) at k d lt = absurd at
are-below nodes (t ∷ ts) (c ∷ cs) at zero d lt = at.0.0
are-below nodes (t ∷ ts) (c ∷ cs) at (suc k) d lt = are-below nodes ts cs at.1 k d (omega arith)

-- ---- nodes over children that are there

joint-node : (every : Bool) (answers : ℕ → Option Bool) (marks : List Look) (a b : ℕ) → node_seen answers marks (joint_node every a b) ≡ joint_seen every (seen_at marks a) (seen_at marks b)
joint-node true answers marks a b = refl
joint-node false answers marks a b = refl

pub joint-at : (old new : List Node) (every : Bool) (a b i : ℕ) → IsPrefix old new → slice_get new i ≡ Some (joint_node every a b) → (front rest : List ℕ) → IsJointNode old every front a → IsJointNode old every rest b → IsJointNode new every (front ++ rest) i
joint-at old new every a b i grows at front rest f r = (
  slice_get_within new i (joint_node every a b) at,
  λ answers marks settled.
      let before = settled-prefix old new answers marks grows settled in
      settled i (joint_node every a b) at ∙ joint-node every answers marks a b ∙ ap (λ (x : Look). joint_seen every x (seen_at marks b)) (f.1 answers marks before) ∙
      ap (joint_seen every (joined_seen every marks front)) (r.1 answers marks before) ∙ sym (joined-append every marks front rest),
)

joint-below : (every : Bool) (n a b c : ℕ) → a < n → b < n → has_child (joint_node every a b) c ≡ true → c < n
joint-below true n a b c la lb h = elim (or-cases (a == c) (b == c) h) [
  | inl e ↦ let same = same-number a c e in omega arith
  | inr e ↦ let same = same-number b c e in omega arith
]
joint-below false n a b c la lb h = elim (or-cases (a == c) (b == c) h) [
  | inl e ↦ let same = same-number a c e in omega arith
  | inr e ↦ let same = same-number b c e in omega arith
]

pub joint-children : (nodes : List Node) (every : Bool) (a b : ℕ) → a < length nodes → b < length nodes → AreChildrenIn nodes (joint_node every a b)
joint-children nodes every a b la lb c h = joint-below every (length nodes) a b c la lb h

pub empty-children : (nodes : List Node) (every : Bool) → AreChildrenIn nodes (empty_node every)
empty-children nodes true c h = absurd (cc)
empty-children nodes false c h = absurd (cc)

empty-node : (every : Bool) (answers : ℕ → Option Bool) (marks : List Look) → node_seen answers marks (empty_node every) ≡ empty_seen every
empty-node true answers marks = refl
empty-node false answers marks = refl

pub empty-at : (new : List Node) (every : Bool) (i : ℕ) → slice_get new i ≡ Some (empty_node every) → IsJointNode new every [] i
empty-at new every i at = (slice_get_within new i (empty_node every) at, λ answers marks settled. settled i (empty_node every) at ∙ empty-node every answers marks)

pub not-children : (nodes : List Node) (a : ℕ) → a < length nodes → AreChildrenIn nodes (node.Not a)
not-children nodes a lt c h = let same = same-number a c h in omega arith

pub not-at : (old new : List Node) (a i : ℕ) → IsPrefix old new → slice_get new i ≡ Some (node.Not a) → (t : Tree) → IsAt old t a → IsAt new (negation t) i
not-at old new a i grows at t is = (
  slice_get_within new i (node.Not a) at,
  λ answers marks settled. settled i (node.Not a) at ∙ ap look_of_not (is.1 answers marks (settled-prefix old new answers marks grows settled)),
)

self : (a : ℕ) → (a == a) ≡ false → ⊥
self a e = let same = number-same a in absurd (cc)

self-first : (a b : ℕ) → ((a == a) || (b == a)) ≡ false → ⊥
self-first a b e = self a (or-false (a == a) (b == a) e).0

leaf-node : (answers : ℕ → Option Bool) (marks : List Look) (n : Node) → ((c : ℕ) → has_child n c ≡ false) → node_seen answers marks n ≡ look_of_tree answers (leaf_tree n)
leaf-node answers marks node.Yes h = refl
leaf-node answers marks node.No h = refl
leaf-node answers marks (node.Test t) h = refl
leaf-node answers marks (node.Not a) h = absurd (self a (h a))
leaf-node answers marks (node.Both a b) h = absurd (self-first a b (h a))
leaf-node answers marks (node.Either a b) h = absurd (self-first a b (h a))

pub leaf-at : (new : List Node) (n : Node) (i : ℕ) → ((c : ℕ) → has_child n c ≡ false) → slice_get new i ≡ Some n → IsAt new (leaf_tree n) i
leaf-at new n i h at = (slice_get_within new i n at, λ answers marks settled. settled i n at ∙ leaf-node answers marks n h)

pub leaf-children : (nodes : List Node) (n : Node) → ((c : ℕ) → has_child n c ≡ false) → AreChildrenIn nodes n
leaf-children nodes n h c is = let free = h c in absurd (cc)

-- ---- the trees of several branches

joined-trees : (every : Bool) (nodes : List Node) (answers : ℕ → Option Bool) (marks : List Look) → AreSettled nodes answers marks → (ts : List Tree) (cs : List ℕ) → AreAt nodes ts cs →
    joined_seen every marks cs ≡ look_of_tree answers (joint_tree every ts)
joined-trees true nodes answers marks settled [] [] at = refl
joined-trees true nodes answers marks settled [] (c ∷ cs) at = absurd at
joined-trees true nodes answers marks settled (t ∷ ts) [] at = absurd at
joined-trees true nodes answers marks settled (t ∷ ts) (c ∷ cs) at =
    ap (λ (x : Look). look_of_both x (joined_seen true marks cs)) (at.0.1 answers marks settled) ∙ ap (look_of_both (look_of_tree answers t)) (joined-trees true nodes answers marks settled ts cs at.1)
joined-trees false nodes answers marks settled [] [] at = refl
joined-trees false nodes answers marks settled [] (c ∷ cs) at = absurd at
joined-trees false nodes answers marks settled (t ∷ ts) [] at = absurd at
joined-trees false nodes answers marks settled (t ∷ ts) (c ∷ cs) at =
    ap (λ (x : Look). look_of_either x (joined_seen false marks cs)) (at.0.1 answers marks settled) ∙ ap (look_of_either (look_of_tree answers t)) (joined-trees false nodes answers marks settled ts cs at.1)

pub joined-at : (old new : List Node) (every : Bool) (cs : List ℕ) (i : ℕ) → IsPrefix old new → IsJointNode new every cs i → (ts : List Tree) → AreAt old ts cs → IsAt new (joint_tree every ts) i
joined-at old new every cs i grows (within, at) ts kept =
    (within, λ answers marks settled. at answers marks settled ∙ joined-trees every new answers marks settled ts cs (are-at-prefix old new ts cs grows kept))

-- ---- what the calls give

pub empty-ok : {E : Type 0} (r : Result ℕ E) (new : List Node) (every : Bool) (n : Node) → n ≡ empty_node every → IfOk r (λ i. slice_get new i ≡ Some n) → IfOk r (IsJointNode new every [])
empty-ok (Ok i) new every n e at = empty-at new every i (at ∙ ap (λ (x : Node). Some x) e)
empty-ok (Err e) new every n f at = tt

pub joint-ok : {E : Type 0} (r : Result ℕ E) (old new : List Node) (every : Bool) (a b : ℕ) (n : Node) → n ≡ joint_node every a b → OnOk r (IsPrefix old new) → IfOk r (λ i. slice_get new i ≡ Some n) →
    IfOk r (λ i. (front rest : List ℕ) → IsJointNode old every front a → IsJointNode old every rest b → IsJointNode new every (front ++ rest) i)
joint-ok (Ok i) old new every a b n e grows at = joint-at old new every a b i grows (at ∙ ap (λ (x : Node). Some x) e)
joint-ok (Err e) old new every a b n f grows at = tt

pub leaf-ok : {E : Type 0} (r : Result ℕ E) (new : List Node) (n : Node) → ((c : ℕ) → has_child n c ≡ false) → IfOk r (λ i. slice_get new i ≡ Some n) → IfOk r (IsAt new (leaf_tree n))
leaf-ok (Ok i) new n h at = leaf-at new n i h at
leaf-ok (Err e) new n h at = tt

pub not-ok : {E : Type 0} (r : Result ℕ E) (old new : List Node) (a : ℕ) → OnOk r (IsPrefix old new) → IfOk r (λ i. slice_get new i ≡ Some (node.Not a)) → IfOk r (λ i. (t : Tree) → IsAt old t a → IsAt new (negation t) i)
not-ok (Ok i) old new a grows at = not-at old new a i grows at
not-ok (Err e) old new a grows at = tt

pub joined-ok : {E : Type 0} (r : Result ℕ E) (old new : List Node) (every : Bool) (cs : List ℕ) → OnOk r (IsPrefix old new) → IfOk r (IsJointNode new every cs) → IfOk r (λ i. (ts : List Tree) → AreAt old ts cs → IsAt new (joint_tree every ts) i)
joined-ok (Ok i) old new every cs grows at = joined-at old new every cs i grows at
joined-ok (Err e) old new every cs grows at = tt

-- where both parts were joined, so is the whole
pub halves-ok : {E : Type 0} (r : Result ℕ E) (mid new : List Node) (every : Bool) (whole front rest : List ℕ) (a b : ℕ) → whole ≡ front ++ rest → IsJointNode mid every front a → IsJointNode mid every rest b →
    IfOk r (λ i. (front rest : List ℕ) → IsJointNode mid every front a → IsJointNode mid every rest b → IsJointNode new every (front ++ rest) i) → IfOk r (IsJointNode new every whole)
halves-ok (Ok i) mid new every whole front rest a b e f g h = subst (λ (cs : List ℕ). IsJointNode new every cs i) (sym e) (h front rest f g)
halves-ok (Err e) mid new every whole front rest a b f g h k = tt

-- ---- the list of nodes as it grows

ordered-snoc : (old : List Node) (node : Node) → AreOrdered old → AreChildrenIn old node → AreOrdered (old ++ node ∷ [])
ordered-snoc old node ordered below i c n there is = elim (get-push old i node n there) [
  | inl before ↦ ordered i c n before is
  | inr (e, same) ↦ let lt : c < length old = below c (subst (λ (x : Node). has_child x c ≡ true) same is) in omega arith
]

pub insert-cases : (keep : Bool) (old new : List Node) (node : Node) → new ≡ (if keep then old else old ++ node ∷ []) → (new ≡ old) ⊎ (new ≡ old ++ node ∷ [])
insert-cases true old new node e = inl e
insert-cases false old new node e = inr e

pub ordered-insert : (keep : Bool) (old new : List Node) (node : Node) → new ≡ (if keep then old else old ++ node ∷ []) → AreOrdered old → AreChildrenIn old node → AreOrdered new
ordered-insert keep old new node is ordered below = elim (insert-cases keep old new node is) [
  | inl e ↦ subst AreOrdered (sym e) ordered
  | inr e ↦ subst AreOrdered (sym e) (ordered-snoc old node ordered below)
]

pub prefix-insert : (keep : Bool) (old new : List Node) (node : Node) → new ≡ (if keep then old else old ++ node ∷ []) → IsPrefix old new
prefix-insert keep old new node is = elim (insert-cases keep old new node is) [
  | inl e ↦ ([], e ∙ sym (append-nil old))
  | inr e ↦ (node ∷ [], e)
]

-- ---- the walk over branches

pub next-at : (old new : List Node) (ts : List Tree) (i : ℕ) (t u : Tree) (cs longer : List ℕ) (c : ℕ) → IsPrefix old new → AreAt old (take i ts) cs → Some t ≡ slice_get ts i → u ≡ t → IsAt new u c →
    longer ≡ cs ++ c ∷ [] → AreAt new (take (i + 1) ts) longer
next-at old new ts i t u cs longer c grows kept e same at is =
    rw (take_next ts i t e, is) (are-at-more old new (take i ts) cs t c grows kept (subst (λ (x : Tree). IsAt new x c) same at))

pub all-at : (nodes : List Node) (ts : List Tree) (i : ℕ) (cs : List ℕ) → length ts ≤ i → AreAt nodes (take i ts) cs → AreAt nodes ts cs
all-at nodes ts i cs past kept = subst (λ (x : List Tree). AreAt nodes x cs) (take_all i ts past) kept

pub not-tree : {E : Type 0} (r : Result ℕ E) (mid new : List Node) (c : ℕ) (t u : Tree) → IsAt mid t c → u ≡ negation t → IfOk r (λ i. (t : Tree) → IsAt mid t c → IsAt new (negation t) i) → IfOk r (IsAt new u)
not-tree (Ok i) mid new c t u at e h = subst (λ (x : Tree). IsAt new x i) (sym e) (h t at)
not-tree (Err e) mid new c t u at f h = tt
