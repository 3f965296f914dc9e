-- The numbers in the lines of a refutation that closes a query are small.
use Rattle.std.proofs.Common.{◌≡◌, ℕ, ◌+◌, ◌<◌, ◌≤◌, Bool, true, false, List, [], ◌∷◌, ◌++◌, length, map, All, arith}
use Rattle.std.proofs.lemmas.List.{length-append, length-map}
use Rattle.std.proofs.lemmas.List.Elements.{All-head, All-tail, All-nil, All-cons, All-append, All-weaker}
use Rattle.formula_tree.specs.Answers.{Answers, Contained}
use Rattle.formula_tree.specs.Runs.{path_with}
use Rattle.formula_tree.specs.Trees.{Tree}
use Rattle.policy_model.specs.declared.schema.Schema.{Schema}
use Rattle.policy_model.specs.declared.test.Test.{Test}
use Rattle.slot_theory.specs.Possible.{PathInRange}
use Rattle.slot_theory.specs.declared.outcome.KindProof.{KindProof}
use Rattle.slot_theory.specs.declared.outcome.KindProof.TheVariants.{Never, Closed}
use Rattle.slot_theory.specs.declared.outcome.SlotProof.{SlotProof}
use Rattle.slot_theory.specs.declared.outcome.SlotProof.TheVariants.{Points, Absent, Required, Word, Kinds, Member, SomeMember}
use Rattle.refute_check.specs.Closing.{Before, Closes, after_part, inside_label}
use Rattle.refute_check.specs.Proofs.{Proof, by_clauses, by_slot, by_value, label, reuse, split}
use Rattle.refute_check.proofs.Laws.{all-in-range, range_more}
use Rattle.proof_text.specs.declared.limits.TheConstants.{MOST_NUMBER}
use Rattle.proof_text.specs.Faults.{answered_tests}
use Rattle.proof_text.specs.Laws.{AreListsSmall, AreSmall, ArePlacesSmall, HasSmallNumbers, HoldsSmallNumbers, IsKindSmall, IsSlotSmall}
use Rattle.proof_text.specs.Lines.{Line, split_line, value_line, slot_line, clauses_line, label_line, reuse_line}
use Rattle.proof_text.specs.Lines.{points_line, absent_line, required_line, closed_line, kinds_line, never_line, member_line, some_line, places_line}
use Rattle.proof_text.specs.Spelling.{closed_lines, kind_lines, node_lines, slot_lines}
use Rattle.proof_text.proofs.Said.{concat-small}
use Rattle.proof_text.proofs.Shown.{IsSlotFit, accepted-fit}

abbrev pub AllSmall : List Line → Type 0
AllSmall ls = All HasSmallNumbers ls

one : (l : Line) (ls : List Line) → HasSmallNumbers l → AllSmall ls → AllSmall (l ∷ ls)
one l ls first later = All-cons HasSmallNumbers l ls first later

none : AllSmall []
none = All-nil HasSmallNumbers

both : (ls ms : List Line) → AllSmall ls → AllSmall ms → AllSmall (ls ++ ms)
both ls ms = All-append HasSmallNumbers ls ms

number-small : (n : ℕ) → n ≤ MOST_NUMBER → AreSmall (n ∷ [])
number-small n small = All-cons (λ m. m ≤ MOST_NUMBER) n [] small (All-nil (λ m. m ≤ MOST_NUMBER))

no-numbers : AreSmall []
no-numbers = All-nil (λ m. m ≤ MOST_NUMBER)

-- the numbers of tests are
pub tests-small : (count : ℕ) (ns : List ℕ) → count ≤ MOST_NUMBER → All (λ n. n < count) ns → AreSmall ns
tests-small count ns few within = All-weaker (λ n. n < count) (λ n. n ≤ MOST_NUMBER) (λ n below. omega arith) ns within

-- ---- proofs for slots

states-small : (set : List (List (List ℕ))) → ArePlacesSmall set → AllSmall (map places_line set)
states-small [] small = none
states-small (lists ∷ set) small =
    one (places_line lists) (map places_line set) (concat-small lists (All-head AreListsSmall lists set small)) (states-small set (All-tail AreListsSmall lists set small))

length-states : (set : List (List (List ℕ))) → length (map places_line set) ≡ length set
length-states set = omega (arith, length-map set places_line)

closed-small : (set : List (List (List ℕ))) → ArePlacesSmall set → length (closed_lines set) ≤ MOST_NUMBER → AllSmall (closed_lines set)
closed-small set small few =
    let states = length-states set in
    one (closed_line (length set)) (map places_line set) (number-small (length set) (omega arith)) (states-small set small)

kind-small : (proof : KindProof) → IsKindSmall proof → length (kind_lines proof) ≤ MOST_NUMBER → AllSmall (kind_lines proof)
kind-small Never small few = one never_line [] no-numbers none
kind-small (Closed set) small few = closed-small set small few

slot-small : (count : ℕ) (proof : SlotProof) → count ≤ MOST_NUMBER → IsSlotFit count proof → IsSlotSmall proof → length (slot_lines proof) ≤ MOST_NUMBER → AllSmall (slot_lines proof)
slot-small count Points tests fit small few = one points_line [] no-numbers none
slot-small count Absent tests fit small few = one absent_line [] no-numbers none
slot-small count Required tests fit small few = one required_line [] no-numbers none
slot-small count (Word set) tests fit small few = closed-small set small few
slot-small count (Kinds aws service federated canonical_user) tests fit small few =
    let whole : length (kind_lines aws ++ (kind_lines service ++ (kind_lines federated ++ kind_lines canonical_user))) ≤ MOST_NUMBER = omega arith in
    let sizes : length (kind_lines aws) + (length (kind_lines service) + (length (kind_lines federated) + length (kind_lines canonical_user))) ≤ MOST_NUMBER = simp length-append at whole in
    one kinds_line (kind_lines aws ++ (kind_lines service ++ (kind_lines federated ++ kind_lines canonical_user))) no-numbers
    (both (kind_lines aws) (kind_lines service ++ (kind_lines federated ++ kind_lines canonical_user)) (kind-small aws small.0 (omega arith))
    (both (kind_lines service) (kind_lines federated ++ kind_lines canonical_user) (kind-small service small.1 (omega arith))
    (both (kind_lines federated) (kind_lines canonical_user) (kind-small federated small.2 (omega arith)) (kind-small canonical_user small.3 (omega arith)))))
slot-small count (Member n set) tests fit small few =
    one (member_line n) (closed_lines set) (number-small n (omega (arith, fit.0))) (closed-small set small (omega arith))
slot-small count (SomeMember set) tests fit small few = one some_line (closed_lines set) no-numbers (closed-small set small (omega arith))

-- ---- nodes

-- the tests of answers
pub answered-all : (P : ℕ → Type 0) (given : Answers) → All (λ a. P a.0) given → All P (answered_tests given)
answered-all P [] all = All-nil P
answered-all P (a ∷ given) all =
    All-cons P a.0 (answered_tests given) (All-head (λ (b : ℕ × Bool). P b.0) a given all) (answered-all P given (All-tail (λ (b : ℕ × Bool). P b.0) a given all))

-- a path that another contains answers tests in range as that does
pub contained-range : (tests : List Test) (given path : Answers) → Contained given path → PathInRange tests path → PathInRange tests given
contained-range tests given path there range n b answer = range n b (there n b answer)

pub given-within : (tests : List Test) (given : Answers) → PathInRange tests given → All (λ n. n < length tests) (answered_tests given)
given-within tests given range = answered-all (λ n. n < length tests) given (all-in-range tests given range)

pub node-small : (schema : Schema) (tests : List Test) (tree : Tree) (before : Before) (p : Proof) (path : Answers) → length tests ≤ MOST_NUMBER →
    Closes schema tests tree before p path → PathInRange tests path → HoldsSmallNumbers p → length (node_lines p) ≤ MOST_NUMBER → AllSmall (node_lines p)
node-small schema tests tree before (split n y z) path tests_few closes range small few =
    let whole : length (node_lines y ++ node_lines z) ≤ MOST_NUMBER = omega arith in
    let sizes : length (node_lines y) + length (node_lines z) ≤ MOST_NUMBER = simp length-append at whole in
    let here : n < length tests = closes.0.0 in
    one (split_line n) (node_lines y ++ node_lines z) (number-small n (omega arith))
    (both (node_lines y) (node_lines z)
    (node-small schema tests tree before y (path_with path n true) tests_few closes.1 (range_more tests path n true range here) small.0 (omega arith))
    (node-small schema tests tree (after_part before y) z (path_with path n false) tests_few closes.2 (range_more tests path n false range here) small.1 (omega arith)))
node-small schema tests tree before by_value path tests_few closes range small few = one value_line [] no-numbers none
node-small schema tests tree before (by_slot core proof) path tests_few closes range small few =
    one (slot_line core) (slot_lines proof) (tests-small (length tests) core tests_few closes.conflict.core_is.within)
    (slot-small (length tests) proof tests_few (accepted-fit schema tests path core proof closes) small (omega arith))
node-small schema tests tree before (by_clauses hints) path tests_few closes range small few = one (clauses_line hints) [] small none
node-small schema tests tree before (label n given p) path tests_few closes range small few =
    let inner = contained-range tests given path closes.0.there range in
    one (label_line n given) (node_lines p)
    (All-cons (λ m. m ≤ MOST_NUMBER) n (answered_tests given) small.0 (tests-small (length tests) (answered_tests given) tests_few (given-within tests given inner)))
    (node-small schema tests tree (inside_label before) p given tests_few closes.1 inner small.1 (omega arith))
node-small schema tests tree before (reuse n) path tests_few closes range small few = one (reuse_line n) [] (number-small n small) none
