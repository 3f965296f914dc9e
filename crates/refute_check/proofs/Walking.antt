-- A walk through a refutation: what the nodes below say of the node above.
use Rattle.std.proofs.Common.{◌≡◌, ◌<◌, ◌≤◌, ◌+◌, ◌^◌, ℕ, List, [], ◌++◌, true, false, All, refl, sym, ap, ◌∙◌, subst, arith, rules, append_assoc, Global}
use Rattle.std.proofs.lemmas.List.Elements.{All-append, All-nil, All-push, All-weaker}
use Rattle.std.specs.declared.rc.Rc.{Rc}
use Rattle.formula_tree.specs.Answers.{Answers}
use Rattle.formula_tree.specs.Runs.{path_with}
use Rattle.formula_tree.specs.Trees.{Tree, tree_of}
use Rattle.policy_compile.specs.declared.outcome.Query.{Query}
use Rattle.policy_model.specs.declared.schema.Schema.{Schema}
use Rattle.slot_theory.specs.declared.outcome.SlotProof.{SlotProof}
use Rattle.slot_theory.specs.Cores.{Accepts}
use Rattle.refute_check.specs.declared.refutation.Refutation.{Refutation, the_lemmas}
use Rattle.refute_check.specs.declared.refutation.Refutation.TheVariants.{Split, BySlot, Label}
use Rattle.refute_check.specs.declared.verdict.Walked.{Walked}
use Rattle.refute_check.specs.declared.verdict.Walked.TheVariants.{Closed, Failed}
use Rattle.refute_check.specs.Closing.{Before, Closes, FailsAt, IsLabel, OwnRule, after_part, at_first, here, in_label, in_no, in_yes, inside_label}
use Rattle.refute_check.specs.Labels.{HasNotEnded}
use Rattle.refute_check.specs.Proofs.{Proof, by_clauses, by_slot, by_value, ended_in, label, labels, proof_of, reuse, size, split}
use Rattle.refute_check.specs.Queries.{HoldsHere}
use Rattle.refute_check.specs.Walks.{IsLabelWalked, IsOpenTest, IsWalked, IsWholeWalk, raised_walk}
use Rattle.refute_check.proofs.Failing.{fails-within}

-- ---- the tree of a refutation by its form

pub of-split : (n : ℕ) (y z : Rc Refutation Global) (r : Refutation) → r ≡ Split n y z → proof_of r ≡ split n (proof_of y.value) (proof_of z.value)
of-split n y z r is = ap proof_of is ∙ search (rules, the_lemmas)

pub of-slot : (core : List ℕ) (proof : Rc SlotProof Global) (r : Refutation) → r ≡ BySlot core proof → proof_of r ≡ by_slot core proof.value
of-slot core proof r is = ap proof_of is ∙ search (rules, the_lemmas)

pub of-label : (n : ℕ) (answers : Answers) (inner : Rc Refutation Global) (r : Refutation) → r ≡ Label n answers inner → proof_of r ≡ label n answers (proof_of inner.value)
of-label n answers inner r is = ap proof_of is ∙ search (rules, the_lemmas)

-- ---- labels before a node

abbrev made : ℕ → List (ℕ × Answers) → Before
made begun ended = record { begun = begun; ended = ended }

same-before : (begun other : ℕ) (ended more : List (ℕ × Answers)) → begun ≡ other → ended ≡ more → made begun ended ≡ made other more
same-before begun other ended more numbers labels = ap (λ (n : ℕ). made n ended) numbers ∙ ap (made other) labels

module _ (schema : Schema) (q : Query) where
  abbrev tree : Tree
  tree = tree_of q.formula.value

  abbrev Walks : Before → Proof → Answers → Before → Walked → Type 0
  Walks before p path after walked = IsWalked schema q before p path after walked

  -- what a call says of labels, a path and a walk, at their other names
  pub walked-at : (before other : Before) (p : Proof) (path route : Answers) (after : Before) (walked same : Walked) → before ≡ other → path ≡ route → walked ≡ same → Walks before p path after walked → Walks other p route after same
  walked-at before other p path route after walked same labels answers is walks =
      subst (λ (w : Walked). Walks other p route after w) is (subst (λ (a : Answers). Walks other p a after walked) answers (subst (λ (b : Before). Walks b p path after walked) labels walks))

  -- the own rule fails
  pub fails-here : (before after : Before) (p : Proof) (path : Answers) → (OwnRule schema q.tests tree before p path → ⊥) → Walks before p path after (Failed 0)
  fails-here before after p path broken = (0, here broken, refl)

  pub slot-rule : (before : Before) (core : List ℕ) (proof : Rc SlotProof Global) (part : Refutation) (path : Answers) → part ≡ BySlot core proof → HoldsHere schema q before part path ≡ Accepts schema q.tests path core proof.value
  slot-rule before core proof part path is = ap (λ (p : Proof). OwnRule schema q.tests tree before p path) (of-slot core proof part is)

  -- ---- the sides of a split

  module _ (before : Before) (n : ℕ) (y z : Proof) (path : Answers) (own : IsOpenTest q n path) where
    pub first-fails : (middle after : Before) (node : ℕ) → Walks before y (path_with path n true) middle (Failed node) → Walks before (split n y z) path after (raised_walk (Failed node) 0)
    first-fails middle after node (k, fails, is) = (k + 1, in_yes own fails refl, omega (arith, is))

    pub second : (middle after : Before) (nodes : ℕ) (walked : Walked) → Walks before y (path_with path n true) middle (Closed nodes) → Walks middle z (path_with path n false) after walked → Walks before (split n y z) path after (raised_walk walked nodes)
    second middle after nodes (Closed more) (closes, count, is) walks =
        let (closed, rest, end) = subst (λ (b : Before). Walks b z (path_with path n false) after (Closed more)) is walks in
        ((own, closes, closed), omega (arith, count, rest), end ∙ same-before (before.begun + labels y + labels z) (before.begun + (labels y + labels z)) ((before.ended ++ ended_in y) ++ ended_in z) (before.ended ++ (ended_in y ++ ended_in z)) (omega arith) (append_assoc before.ended (ended_in y) (ended_in z)))
    second middle after nodes (Failed node) (closes, count, is) walks =
        let (k, fails, place) = subst (λ (b : Before). Walks b z (path_with path n false) after (Failed node)) is walks in
        (k + size y + 1, in_no own closes fails refl, omega (arith, count, place))

  -- ---- labels

  pub own-label : (before : Before) (n : ℕ) (answers : Answers) (inner : Rc Refutation Global) (part : Refutation) (path : Answers) → part ≡ Label n answers inner → HoldsHere schema q before part path → IsLabel before n answers path
  own-label before n answers inner part path is =
      subst (λ (p : Proof). OwnRule schema q.tests tree before p path → IsLabel before n answers path) (sym (of-label n answers inner part is)) (λ own. own)

  -- the labels in a part that closes have the numbers from that of the next on
  pub ended-above : (before : Before) (p : Proof) (path : Answers) → Closes schema q.tests tree before p path → All (λ (l : ℕ × Answers). before.begun ≤ l.0) (ended_in p)
  ended-above before (split n y z) path closes =
      let first = ended-above before y (path_with path n true) closes.1 in
      let later = ended-above (after_part before y) z (path_with path n false) closes.2 in
      All-append (λ (l : ℕ × Answers). before.begun ≤ l.0) (ended_in y) (ended_in z) first
      (All-weaker (λ (l : ℕ × Answers). before.begun + labels y ≤ l.0) (λ (l : ℕ × Answers). before.begun ≤ l.0) (λ l big. omega (arith, big)) (ended_in z) later)
  ended-above before (label n answers p) path closes =
      let inside = ended-above (inside_label before) p answers closes.1 in
      All-push (λ (l : ℕ × Answers). before.begun ≤ l.0) (ended_in p) (n, answers)
      (All-weaker (λ (l : ℕ × Answers). before.begun + 1 ≤ l.0) (λ (l : ℕ × Answers). before.begun ≤ l.0) (λ l big. omega (arith, big)) (ended_in p) inside)
      (omega (arith, closes.0.next))
  ended-above before by_value path closes = All-nil (λ (l : ℕ × Answers). before.begun ≤ l.0)
  ended-above before (by_slot core proof) path closes = All-nil (λ (l : ℕ × Answers). before.begun ≤ l.0)
  ended-above before (by_clauses hints) path closes = All-nil (λ (l : ℕ × Answers). before.begun ≤ l.0)
  ended-above before (reuse n) path closes = All-nil (λ (l : ℕ × Answers). before.begun ≤ l.0)

  -- so that of a label has not ended while its node is walked
  pub not-ended : (before after : Before) (p : Proof) (answers : Answers) (nodes : ℕ) → All (λ (l : ℕ × Answers). l.0 < before.begun) before.ended → Walks (inside_label before) p answers after (Closed nodes) → HasNotEnded after before.begun
  not-ended before after p answers nodes low (closes, count, is) =
      let inside = ended-above (inside_label before) p answers closes in
      let both =
      All-append (λ (l : ℕ × Answers). l.0 ≡ before.begun → ⊥) before.ended (ended_in p)
      (All-weaker (λ (l : ℕ × Answers). l.0 < before.begun) (λ (l : ℕ × Answers). l.0 ≡ before.begun → ⊥) (λ l small e. omega (arith, small, e)) before.ended low)
      (All-weaker (λ (l : ℕ × Answers). before.begun + 1 ≤ l.0) (λ (l : ℕ × Answers). l.0 ≡ before.begun → ⊥) (λ l big e. omega (arith, big, e)) (ended_in p) inside)
      in
      subst (λ (b : Before). HasNotEnded b before.begun) (sym is) both

  pub label-fails : (before middle after : Before) (n : ℕ) (answers : Answers) (p : Proof) (node : ℕ) → Walks (inside_label before) p answers middle (Failed node) → IsLabelWalked schema q before n answers p after (raised_walk (Failed node) 0)
  label-fails before middle after n answers p node (k, fails, is) path own = (k + 1, in_label own fails refl, omega (arith, is))

  -- ---- whole refutations

  pub whole-fails : (p : Proof) (path : Answers) (walked : Walked) (node : ℕ) → size p < 2 ^ 32 → path ≡ [] → walked ≡ Failed node → IsWholeWalk schema q p path walked → FailsAt schema q.tests tree at_first p [] node
  whole-fails p path walked node small empty is (after, walks) =
      let (k, fails, place) = walked-at at_first at_first p path [] after walked (Failed node) refl empty is walks in
      let least = fails-within schema q.tests tree at_first p [] k fails in
      subst (λ (n : ℕ). FailsAt schema q.tests tree at_first p [] n) (omega (arith, small, least, place)) fails
