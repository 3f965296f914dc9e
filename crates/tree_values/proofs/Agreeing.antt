-- Nodes that agree with their children, where what is seen of one, or an answer, changes.
use Rattle.std.proofs.Common.{◌≡◌, ℕ, ◌<◌, ◌≤◌, ◌+◌, ◌==◌, ◌≢◌, List, [], ◌∷◌, ◌++◌, length, set, Bool, true, false, Option, Some, None, slice_get, inl, inr, refl, sym, ap, subst, ◌∙◌, arith, get_or-set_same, get_or-set_other, length-set}
use Rattle.std.proofs.lemmas.List.{get_or_append_left, get_or_push}
use Rattle.std.proofs.lemmas.Option.{slice_get_within}
use Rattle.formula_tree.proofs.Laws.{cases_eq}
use Rattle.tree_values.specs.Models.{IsChanged, answer_at}
use Rattle.tree_values.specs.Nodes.{AreOrdered, AreSettled, AreSettledBut, has_child, has_test, holds_number, node_seen, seen_at}
use Rattle.formula_tree.specs.Looks.{look_of_both, look_of_either, look_of_test, look_of_not}
use Rattle.tree_values.specs.declared.node.Node.{Node}
use Rattle.tree_values.specs.declared.node.Node.TheVariants.{Yes, No, Test, Not, Both, Either}
use Rattle.formula_tree.specs.declared.looks.Look.{Look}
use Rattle.formula_tree.specs.declared.looks.Look.TheVariants as seen
use Rattle.tree_values.proofs.Lists.{among-left, among-right, cases-bool, number-other, number-same, or-left, or-right, other-number}

-- what is seen of a node goes by what is seen of its children
node-alike : (answers : ℕ → Option Bool) (old new : List Look) (node : Node) → ((c : ℕ) → has_child node c ≡ true → seen_at new c ≡ seen_at old c) → node_seen answers new node ≡ node_seen answers old node
node-alike answers old new Yes same = refl
node-alike answers old new No same = refl
node-alike answers old new (Test n) same = refl
node-alike answers old new (Not a) same = ap look_of_not (same a (number-same a))
node-alike answers old new (Both a b) same =
    ap (λ (x : Look). look_of_both x (seen_at new b)) (same a (or-left (a == a) (b == a) (number-same a))) ∙ ap (look_of_both (seen_at old a)) (same b (or-right (a == b) (b == b) (number-same b)))
node-alike answers old new (Either a b) same =
    ap (λ (x : Look). look_of_either x (seen_at new b)) (same a (or-left (a == a) (b == a) (number-same a))) ∙ ap (look_of_either (seen_at old a)) (same b (or-right (a == b) (b == b) (number-same b)))

-- and by the answer to its own test
node-answers : (old new : ℕ → Option Bool) (marks : List Look) (node : Node) (test : ℕ) → ((n : ℕ) → n ≢ test → new n ≡ old n) → has_test node test ≡ false → node_seen new marks node ≡ node_seen old marks node
node-answers old new marks Yes test same h = refl
node-answers old new marks No test same h = refl
node-answers old new marks (Test n) test same h = ap (λ (a : Option Bool). look_of_test a n) (same n (other-number n test h))
node-answers old new marks (Not a) test same h = refl
node-answers old new marks (Both a b) test same h = refl
node-answers old new marks (Either a b) test same h = refl

clash : (b : Bool) → b ≡ true → b ≡ false → ⊥
clash b e f = cc

besides : (node : Node) (index c : ℕ) → has_child node index ≡ false → has_child node c ≡ true → c ≢ index
besides node index c free is same = clash (has_child node index) (subst (λ (k : ℕ). has_child node k ≡ true) same is) free

node-besides : (answers : ℕ → Option Bool) (marks : List Look) (index : ℕ) (s : Look) (node : Node) → has_child node index ≡ false → node_seen answers (set marks index s) node ≡ node_seen answers marks node
node-besides answers marks index s node free =
    node-alike answers marks (set marks index s) node (λ c is. get_or-set_other marks index c s seen.Yes (besides node index c free is))

same-node : (nodes : List Node) (i index : ℕ) (n node : Node) → i ≡ index → slice_get nodes i ≡ Some n → slice_get nodes index ≡ Some node → n ≡ node
same-node nodes i index n node e there here = cc

not-first : (index i : ℕ) (pending : List ℕ) → i ≢ index → holds_number pending i ≡ false → holds_number (index ∷ pending) i ≡ false
not-first index i pending ne free = rw (number-other index i (λ e. ne (sym e))) free

-- a node that is looked at anew, and whose parents are to be looked at
pub settled-write : (nodes : List Node) (answers : ℕ → Option Bool) (marks : List Look) (index : ℕ) (node : Node) (s : Look) (ups : List ℕ) → slice_get nodes index ≡ Some node → s ≡ node_seen answers marks node → index < length marks →
    ((i : ℕ) (n : Node) → slice_get nodes i ≡ Some n → has_child n index ≡ true → holds_number ups i ≡ true) → (pending : List ℕ) →
    AreSettledBut nodes answers marks (index ∷ pending) → AreSettledBut nodes answers (set marks index s) (ups ++ pending)
settled-write nodes answers marks index node s ups here is within up pending old i n there free =
    elim (cases-bool (has_child n index)) [
      | inl child ↦ absurd (clash (holds_number (ups ++ pending) i) (among-left ups pending i (up i n there child)) free)
      | inr other ↦
          let still = node-besides answers marks index s n other in
          elim (cases_eq i index) [
            | inl e ↦
                let same : n ≡ node = same-node nodes i index n node e there here in
                ap (seen_at (set marks index s)) e ∙ get_or-set_same marks index s seen.Yes within ∙ is ∙ ap (node_seen answers marks) (sym same) ∙ sym still
            | inr ne ↦
                get_or-set_other marks index i s seen.Yes ne ∙ old i n there (not-first index i pending ne (among-right ups pending i free)) ∙ sym still
          ]
    ]

-- a node that was looked at anew, and of which the same is seen
pub settled-same : (nodes : List Node) (answers : ℕ → Option Bool) (marks : List Look) (index : ℕ) (node : Node) → slice_get nodes index ≡ Some node → seen_at marks index ≡ node_seen answers marks node → (pending : List ℕ) →
    AreSettledBut nodes answers marks (index ∷ pending) → AreSettledBut nodes answers marks pending
settled-same nodes answers marks index node here is pending old i n there free =
    elim (cases_eq i index) [
      | inl e ↦
          let same : n ≡ node = same-node nodes i index n node e there here in
          ap (seen_at marks) e ∙ is ∙ ap (node_seen answers marks) (sym same)
      | inr ne ↦ old i n there (not-first index i pending ne free)
    ]

-- nothing is pending
pub settled-all : (nodes : List Node) (answers : ℕ → Option Bool) (marks : List Look) → AreSettledBut nodes answers marks [] → AreSettled nodes answers marks
settled-all nodes answers marks but i n there = but i n there refl

-- an answer that changes, where the nodes that ask it are to be looked at
pub settled-answer : (nodes : List Node) (old new : List (Option Bool)) (marks : List Look) (test : ℕ) (answer : Option Bool) (asking : List ℕ) → IsChanged old new test answer →
    ((i : ℕ) (n : Node) → slice_get nodes i ≡ Some n → has_test n test ≡ true → holds_number asking i ≡ true) →
    AreSettled nodes (answer_at old) marks → AreSettledBut nodes (answer_at new) marks asking
settled-answer nodes old new marks test answer asking changed asked settled i n there free =
    elim (cases-bool (has_test n test)) [
      | inl h ↦ absurd (clash (holds_number asking i) (asked i n there h) free)
      | inr h ↦ settled i n there ∙ sym (node-answers (answer_at old) (answer_at new) marks n test changed.others h)
    ]

pub changed-set : (answers : List (Option Bool)) (test : ℕ) (answer : Option Bool) → test < length answers → IsChanged answers (set answers test answer) test answer
changed-set answers test answer lt = record {
  tests = length-set answers test answer;
  at = get_or-set_same answers test answer None lt;
  others = λ n ne. get_or-set_other answers test n answer None ne;
}

pub changed-not : (answers : List (Option Bool)) (test : ℕ) (answer : Option Bool) → answer_at answers test ≡ answer → IsChanged answers answers test answer
changed-not answers test answer is = record { tests = refl; at = is; others = λ n ne. refl }

-- ---- the first look at each node, in order

abbrev pub AreSettledBefore : List Node → (ℕ → Option Bool) → List Look → ℕ → Type 0
AreSettledBefore nodes answers marks upto = (i : ℕ) (node : Node) → i < upto → slice_get nodes i ≡ Some node → seen_at marks i ≡ node_seen answers marks node

shorter : (nodes : List Node) (marks : List Look) (s : Look) (c i : ℕ) (n : Node) → AreOrdered nodes → slice_get nodes i ≡ Some n → has_child n c ≡ true → i ≤ length marks → seen_at (marks ++ s ∷ []) c ≡ seen_at marks c
shorter nodes marks s c i n ordered there child le = let lt : c < i = ordered i c n there child in let inside : c < length marks = omega arith in get_or_append_left marks (s ∷ []) seen.Yes c inside

pub before-next : (nodes : List Node) (answers : ℕ → Option Bool) (marks : List Look) (k : ℕ) (node : Node) (s : Look) → AreOrdered nodes → slice_get nodes k ≡ Some node → length marks ≡ k → s ≡ node_seen answers marks node →
    AreSettledBefore nodes answers marks k → AreSettledBefore nodes answers (marks ++ s ∷ []) (k + 1)
before-next nodes answers marks k node s ordered here long is before i n lt there =
    elim (cases_eq i k) [
      | inl e ↦
          let same : n ≡ node = same-node nodes i k n node e there here in
          let longer : length marks ≡ i = omega arith in
          get_or_push marks s seen.Yes i longer ∙ is ∙ ap (node_seen answers marks) (sym same) ∙ sym (node-alike answers marks (marks ++ s ∷ []) n (λ c child. shorter nodes marks s c i n ordered there child (omega arith)))
      | inr ne ↦
          let inside : i < length marks = omega arith in
          get_or_append_left marks (s ∷ []) seen.Yes i inside ∙ before i n (omega arith) there ∙ sym (node-alike answers marks (marks ++ s ∷ []) n (λ c child. shorter nodes marks s c i n ordered there child (omega arith)))
    ]

pub before-all : (nodes : List Node) (answers : ℕ → Option Bool) (marks : List Look) (k : ℕ) → length nodes ≤ k → AreSettledBefore nodes answers marks k → AreSettled nodes answers marks
before-all nodes answers marks k long before i n there = let inside : i < length nodes = slice_get_within nodes i n there in before i n (omega arith) there
