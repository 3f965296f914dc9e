-- The lines of a refutation that closes a query have no fault.
use Rattle.std.proofs.Common.{◌≡◌, ◌≢◌, ◌==◌, ℕ, ◌+◌, ◌<◌, ◌≤◌, Bool, true, false, ◌&&◌, ◌||◌, List, [], ◌∷◌, ◌++◌, length, map, replicate, eqb, All, refl, sym, ap, arith, subst, le-leb, lt-ltb, ne_eqb}
use Rattle.std.specs.Prelude.{nat_lt}
use Rattle.std.specs.List.{list_any}
use Rattle.std.proofs.lemmas.Bool.Decides.{Decides-eqb}
use Rattle.std.proofs.lemmas.List.Elements.{All-head, All-tail, All-nil, All-cons, All-append, All-weaker}
use Rattle.cnf_clauses.specs.Literals.{Clause}
use Rattle.cnf_clauses.specs.Replays.{Replays, derives, refuted}
use Rattle.formula_tree.specs.Answers.{Answers}
use Rattle.formula_tree.specs.Runs.{path_with}
use Rattle.formula_tree.specs.Trees.{Tree}
use Rattle.pattern_automata.specs.Closed.{all_rise, rises_from}
use Rattle.policy_model.specs.declared.schema.Schema.{Schema}
use Rattle.policy_model.specs.declared.test.Test.{Test}
use Rattle.slot_theory.specs.Possible.{PathInRange}
use Rattle.slot_theory.specs.declared.outcome.KindProof.{KindProof}
use Rattle.slot_theory.specs.declared.outcome.KindProof.TheVariants.{Never, Closed}
use Rattle.slot_theory.specs.declared.outcome.SlotProof.{SlotProof}
use Rattle.slot_theory.specs.declared.outcome.SlotProof.TheVariants.{Points, Absent, Required, Word, Kinds, Member, SomeMember}
use Rattle.refute_check.specs.Closing.{Before, Closes, IsReuse, after_part, inside_label}
use Rattle.refute_check.specs.Proofs.{Proof, by_clauses, by_slot, by_value, depth, ended_in, label, labels, reuse, split}
use Rattle.refute_check.proofs.Laws.{range_more}
use Rattle.proof_text.specs.declared.limits.Limits.{Limits}
use Rattle.proof_text.specs.declared.limits.TheConstants.{MOST_NESTING}
use Rattle.proof_text.specs.Faults.{answered_tests, calls_for, has_ended, labels_begun}
use Rattle.proof_text.specs.Laws.{HasSmallNumbers, limits_of}
use Rattle.proof_text.specs.LineForms.{Expected, ExpectClosedSet, ExpectKindProof, ExpectNode, ExpectSlotProof, ExpectState}
use Rattle.proof_text.specs.Lines.{Line, line_text, split_line, value_line, slot_line, clauses_line, label_line, reuse_line}
use Rattle.proof_text.specs.Lines.{points_line, absent_line, required_line, closed_line, kinds_line, never_line, member_line, some_line, places_line}
use Rattle.proof_text.specs.Spelling.{closed_lines, kind_lines, node_lines, slot_lines}
use Rattle.proof_text.proofs.Passing.{IsFit, Pass, line-passes, tests-test}
use Rattle.proof_text.proofs.Said.{MayStand, at_absent, at_clauses, at_closed, at_kind, at_kinds, at_label, at_member, at_never, at_places, at_points, at_required, at_reuse, at_slot, at_some, at_split, at_value, at_word}
use Rattle.proof_text.proofs.Shown.{IsKindFit, IsSetFit, IsSlotFit, accepted-fit}
use Rattle.proof_text.proofs.Small.{AllSmall, contained-range, given-within}

-- the texts of lines before others
abbrev pub before_lines : List Line → List (List ℕ) → List (List ℕ)
before_lines ls rest = map line_text ls ++ rest

two-parts : (ls ms : List Line) (rest : List (List ℕ)) → before_lines ls (before_lines ms rest) ≡ before_lines (ls ++ ms) rest
two-parts [] ms rest = refl
two-parts (l ∷ ls) ms rest = ap (λ r. line_text l ∷ r) (two-parts ls ms rest)

parts-pass : (limits : Limits) (es : List Expected) (begun : ℕ) (ls ms : List Line) (rest : List (List ℕ)) → Pass limits es begun (before_lines ls (before_lines ms rest)) → Pass limits es begun (before_lines (ls ++ ms) rest)
parts-pass limits es begun ls ms rest pass = subst (Pass limits es begun) (two-parts ls ms rest) pass

first-small : (l : Line) (ls : List Line) → AllSmall (l ∷ ls) → HasSmallNumbers l
first-small l ls small = All-head HasSmallNumbers l ls small

later-small : (l : Line) (ls : List Line) → AllSmall (l ∷ ls) → AllSmall ls
later-small l ls small = All-tail HasSmallNumbers l ls small

front-small : (ls ms : List Line) → AllSmall (ls ++ ms) → AllSmall ls
front-small [] ms small = All-nil HasSmallNumbers
front-small (l ∷ ls) ms small = All-cons HasSmallNumbers l ls (first-small l (ls ++ ms) small) (front-small ls ms (later-small l (ls ++ ms) small))

back-small : (ls ms : List Line) → AllSmall (ls ++ ms) → AllSmall ms
back-small [] ms small = small
back-small (l ∷ ls) ms small = back-small ls ms (later-small l (ls ++ ms) small)

-- a line that names no test, no version and no node
plain-passes : (limits : Limits) (es more : List Expected) (e : Expected) (begun : ℕ) (l : Line) (rest : List (List ℕ)) → MayStand e l → HasSmallNumbers l → IsFit limits begun e l →
    labels_begun l ≡ 0 → calls_for e l ++ es ≡ more → Pass limits more begun rest → Pass limits (e ∷ es) begun (line_text l ∷ rest)
plain-passes limits es more e begun l rest may small fit none calls later =
    let same : begun ≡ begun + labels_begun l = omega (arith, none) in
    line-passes limits es e begun l rest may small fit (subst (λ b. Pass limits (calls_for e l ++ es) b rest) same (subst (λ m. Pass limits m begun rest) (sym calls) later))

-- ---- proofs for slots

states-pass : (limits : Limits) (es : List Expected) (begun : ℕ) (set : List (List (List ℕ))) (rest : List (List ℕ)) → All (λ s. all_rise s ≡ true) set → AllSmall (map places_line set) →
    Pass limits es begun rest → Pass limits (replicate (length set) ExpectState ++ es) begun (before_lines (map places_line set) rest)
states-pass limits es begun [] rest rise small later = later
states-pass limits es begun (lists ∷ set) rest rise small later =
    plain-passes limits (replicate (length set) ExpectState ++ es) (replicate (length set) ExpectState ++ es) ExpectState begun (places_line lists) (before_lines (map places_line set) rest) at_places
    (first-small (places_line lists) (map places_line set) small)
    (record { ordered = All-head (λ s. all_rise s ≡ true) lists set rise; version = refl; tests = refl; shallow = refl }) refl refl
    (states-pass limits es begun set rest (All-tail (λ s. all_rise s ≡ true) lists set rise) (later-small (places_line lists) (map places_line set) small) later)

closed-passes : (limits : Limits) (es : List Expected) (e : Expected) (begun : ℕ) (set : List (List (List ℕ))) (rest : List (List ℕ)) → MayStand e (closed_line (length set)) → IsSetFit set → AllSmall (closed_lines set) →
    Pass limits es begun rest → Pass limits (e ∷ es) begun (before_lines (closed_lines set) rest)
closed-passes limits es e begun set rest may fit small later =
    plain-passes limits es (replicate (length set) ExpectState ++ es) e begun (closed_line (length set)) (before_lines (map places_line set) rest) may
    (first-small (closed_line (length set)) (map places_line set) small)
    (record { ordered = le-leb 1 (length set) fit.nonempty; version = refl; tests = refl; shallow = refl }) refl refl
    (states-pass limits es begun set rest fit.rise (later-small (closed_line (length set)) (map places_line set) small) later)

kind-passes : (limits : Limits) (es : List Expected) (begun : ℕ) (proof : KindProof) (rest : List (List ℕ)) → IsKindFit proof → AllSmall (kind_lines proof) →
    Pass limits es begun rest → Pass limits (ExpectKindProof ∷ es) begun (before_lines (kind_lines proof) rest)
kind-passes limits es begun Never rest fit small later =
    plain-passes limits es es ExpectKindProof begun never_line rest at_never (first-small never_line [] small) (record { ordered = refl; version = refl; tests = refl; shallow = refl }) refl refl later
kind-passes limits es begun (Closed set) rest fit small later = closed-passes limits es ExpectKindProof begun set rest at_kind fit small later

kinds-pass : (limits : Limits) (es : List Expected) (begun : ℕ) (aws service federated canonical_user : KindProof) (rest : List (List ℕ)) → IsSlotFit limits.tests (Kinds aws service federated canonical_user) →
    AllSmall (kind_lines aws ++ (kind_lines service ++ (kind_lines federated ++ kind_lines canonical_user))) → Pass limits es begun rest →
    Pass limits (ExpectKindProof ∷ ExpectKindProof ∷ ExpectKindProof ∷ ExpectKindProof ∷ es) begun (before_lines (kind_lines aws ++ (kind_lines service ++ (kind_lines federated ++ kind_lines canonical_user))) rest)
kinds-pass limits es begun aws service federated canonical_user rest fit small later =
    let a = kind_lines aws in
    let s = kind_lines service in
    let f = kind_lines federated in
    let u = kind_lines canonical_user in
    let after_a = back-small a (s ++ (f ++ u)) small in
    let after_s = back-small s (f ++ u) after_a in
    let last = kind-passes limits es begun canonical_user rest fit.3 (back-small f u after_s) later in
    let third = parts-pass limits (ExpectKindProof ∷ ExpectKindProof ∷ es) begun f u rest (kind-passes limits (ExpectKindProof ∷ es) begun federated (before_lines u rest) fit.2 (front-small f u after_s) last) in
    let second = parts-pass limits (ExpectKindProof ∷ ExpectKindProof ∷ ExpectKindProof ∷ es) begun s (f ++ u) rest (kind-passes limits (ExpectKindProof ∷ ExpectKindProof ∷ es) begun service (before_lines (f ++ u) rest) fit.1 (front-small s (f ++ u) after_a) third) in
    parts-pass limits (ExpectKindProof ∷ ExpectKindProof ∷ ExpectKindProof ∷ ExpectKindProof ∷ es) begun a (s ++ (f ++ u)) rest
    (kind-passes limits (ExpectKindProof ∷ ExpectKindProof ∷ ExpectKindProof ∷ es) begun aws (before_lines (s ++ (f ++ u)) rest) fit.0 (front-small a (s ++ (f ++ u)) small) second)

slot-passes : (limits : Limits) (es : List Expected) (begun : ℕ) (proof : SlotProof) (rest : List (List ℕ)) → IsSlotFit limits.tests proof → AllSmall (slot_lines proof) →
    Pass limits es begun rest → Pass limits (ExpectSlotProof ∷ es) begun (before_lines (slot_lines proof) rest)
slot-passes limits es begun Points rest fit small later =
    plain-passes limits es es ExpectSlotProof begun points_line rest at_points (first-small points_line [] small) (record { ordered = refl; version = refl; tests = refl; shallow = refl }) refl refl later
slot-passes limits es begun Absent rest fit small later =
    plain-passes limits es es ExpectSlotProof begun absent_line rest at_absent (first-small absent_line [] small) (record { ordered = refl; version = refl; tests = refl; shallow = refl }) refl refl later
slot-passes limits es begun Required rest fit small later =
    plain-passes limits es es ExpectSlotProof begun required_line rest at_required (first-small required_line [] small) (record { ordered = refl; version = refl; tests = refl; shallow = refl }) refl refl later
slot-passes limits es begun (Word set) rest fit small later = closed-passes limits es ExpectSlotProof begun set rest at_word fit small later
slot-passes limits es begun (Kinds aws service federated canonical_user) rest fit small later =
    let kinds = kind_lines aws ++ (kind_lines service ++ (kind_lines federated ++ kind_lines canonical_user)) in
    plain-passes limits es (ExpectKindProof ∷ ExpectKindProof ∷ ExpectKindProof ∷ ExpectKindProof ∷ es) ExpectSlotProof begun kinds_line (before_lines kinds rest) at_kinds
    (first-small kinds_line kinds small) (record { ordered = refl; version = refl; tests = refl; shallow = refl }) refl refl
    (kinds-pass limits es begun aws service federated canonical_user rest fit (later-small kinds_line kinds small) later)
slot-passes limits es begun (Member n set) rest fit small later =
    plain-passes limits es (ExpectClosedSet ∷ es) ExpectSlotProof begun (member_line n) (before_lines (closed_lines set) rest) at_member
    (first-small (member_line n) (closed_lines set) small)
    (record { ordered = refl; version = refl; tests = tests-test limits.tests (n ∷ []) (All-cons (λ m. m < limits.tests) n [] fit.0 (All-nil (λ m. m < limits.tests))); shallow = refl }) refl refl
    (closed-passes limits es ExpectClosedSet begun set rest at_closed fit.1 (later-small (member_line n) (closed_lines set) small) later)
slot-passes limits es begun (SomeMember set) rest fit small later =
    plain-passes limits es (ExpectClosedSet ∷ es) ExpectSlotProof begun some_line (before_lines (closed_lines set) rest) at_some
    (first-small some_line (closed_lines set) small) (record { ordered = refl; version = refl; tests = refl; shallow = refl }) refl refl
    (closed-passes limits es ExpectClosedSet begun set rest at_closed fit (later-small some_line (closed_lines set) small) later)

-- ---- labels

-- the labels of a part have numbers from the count before it on
abbrev IsBetween : ℕ → ℕ → ℕ × Answers → Type 0
IsBetween low high l = (low ≤ l.0) × (l.0 < high)

wider : (low high more : ℕ) (ls : List (ℕ × Answers)) → high ≤ more → All (IsBetween low high) ls → All (IsBetween low more) ls
wider low high more ls within all = All-weaker (IsBetween low high) (IsBetween low more) (λ l between. (between.0, omega (arith, between.1))) ls all

lower : (low less high : ℕ) (ls : List (ℕ × Answers)) → less ≤ low → All (IsBetween low high) ls → All (IsBetween less high) ls
lower low less high ls within all = All-weaker (IsBetween low high) (IsBetween less high) (λ l between. (omega (arith, between.0), between.1)) ls all

ended-between : (schema : Schema) (tests : List Test) (tree : Tree) (before : Before) (p : Proof) (path : Answers) → Closes schema tests tree before p path → All (IsBetween before.begun (before.begun + labels p)) (ended_in p)
ended-between schema tests tree before (split n y z) path closes =
    let b = before.begun in
    let first = ended-between schema tests tree before y (path_with path n true) closes.1 in
    let second = ended-between schema tests tree (after_part before y) z (path_with path n false) closes.2 in
    All-append (IsBetween b (b + (labels y + labels z))) (ended_in y) (ended_in z)
    (wider b (b + labels y) (b + (labels y + labels z)) (ended_in y) (omega arith) first)
    (wider b (b + labels y + labels z) (b + (labels y + labels z)) (ended_in z) (omega arith) (lower (b + labels y) b (b + labels y + labels z) (ended_in z) (omega arith) second))
ended-between schema tests tree before by_value path closes = All-nil (IsBetween before.begun (before.begun + 0))
ended-between schema tests tree before (by_slot core proof) path closes = All-nil (IsBetween before.begun (before.begun + 0))
ended-between schema tests tree before (by_clauses hints) path closes = All-nil (IsBetween before.begun (before.begun + 0))
ended-between schema tests tree before (label n given p) path closes =
    let b = before.begun in
    let next : n ≡ b = closes.0.next in
    let inner = ended-between schema tests tree (inside_label before) p given closes.1 in
    All-append (IsBetween b (b + (labels p + 1))) (ended_in p) ((n, given) ∷ [])
    (wider b (b + 1 + labels p) (b + (labels p + 1)) (ended_in p) (omega arith) (lower (b + 1) b (b + 1 + labels p) (ended_in p) (omega arith) inner))
    (All-cons (IsBetween b (b + (labels p + 1))) (n, given) [] (omega arith, omega arith) (All-nil (IsBetween b (b + (labels p + 1)))))
ended-between schema tests tree before (reuse n) path closes = All-nil (IsBetween before.begun (before.begun + 0))

-- the number is none of these
abbrev pub IsOutside : List ℕ → ℕ → Type 0
IsOutside inside n = list_any (λ m. eqb m n) inside ≡ false

outside-above : (b : ℕ) (inside : List ℕ) (n : ℕ) → All (λ m. m < b) inside → b ≤ n → IsOutside inside n
outside-above b [] n below above = refl
outside-above b (m ∷ inside) n below above =
    let here : m < b = All-head (λ i. i < b) m inside below in
    rw (ne_eqb m n (omega arith)) (outside-above b inside n (All-tail (λ i. i < b) m inside below) above)

outside-or : (p q r : Bool) → (p || q) ≡ false → (q ≡ false → r ≡ false) → (p || r) ≡ false
outside-or true q r e step = e
outside-or false q r e step = step e

outside-more : (inside : List ℕ) (m n : ℕ) → IsOutside inside n → m ≢ n → IsOutside (inside ++ m ∷ []) n
outside-more [] m n outside other = rw (ne_eqb m n other) refl
outside-more (i ∷ inside) m n outside other = outside-or (eqb i n) (list_any (λ k. eqb k n) inside) (list_any (λ k. eqb k n) (inside ++ m ∷ [])) outside (λ e. outside-more inside m n e other)

-- what stands before a node, inside of these labels: the labels that have ended began before, and aren't around it; those around it
-- began before
pub record Stands (before : Before) (inside : List ℕ) : Type 0 where
  pub ended : All (λ l. (l.0 < before.begun) × IsOutside inside l.0) before.ended
  pub around : All (λ n. n < before.begun) inside

stands-after : (schema : Schema) (tests : List Test) (tree : Tree) (before : Before) (p : Proof) (path : Answers) (inside : List ℕ) → Closes schema tests tree before p path → Stands before inside → Stands (after_part before p) inside
stands-after schema tests tree before p path inside closes stands =
    let b = before.begun in
    let IsEnded : ℕ × Answers → Type 0 = λ l. (l.0 < b + labels p) × IsOutside inside l.0 in
    record {
      ended = All-append IsEnded before.ended (ended_in p)
          (All-weaker (λ (l : ℕ × Answers). (l.0 < b) × IsOutside inside l.0) IsEnded (λ l ended. (omega (arith, ended.0), ended.1)) before.ended stands.ended)
          (All-weaker (IsBetween b (b + labels p)) IsEnded (λ l between. (between.1, outside-above b inside l.0 stands.around between.0)) (ended_in p) (ended-between schema tests tree before p path closes));
      around = All-weaker (λ n. n < b) (λ n. n < b + labels p) (λ n below. omega arith) inside stands.around;
    }

stands-inside : (before : Before) (n : ℕ) (inside : List ℕ) → n ≡ before.begun → Stands before inside → Stands (inside_label before) (inside ++ n ∷ [])
stands-inside before n inside next stands =
    let b = before.begun in
    let IsEnded : ℕ × Answers → Type 0 = λ l. (l.0 < b + 1) × IsOutside (inside ++ n ∷ []) l.0 in
    record {
      ended = All-weaker (λ (l : ℕ × Answers). (l.0 < b) × IsOutside inside l.0) IsEnded (λ l ended. (omega (arith, ended.0), outside-more inside n l.0 ended.1 (omega (arith, ended.0)))) before.ended stands.ended;
      around = All-append (λ m. m < b + 1) inside (n ∷ []) (All-weaker (λ m. m < b) (λ m. m < b + 1) (λ m below. omega arith) inside stands.around)
          (All-cons (λ m. m < b + 1) n [] (omega arith) (All-nil (λ m. m < b + 1)));
    }

reused : (before : Before) (n : ℕ) (path : Answers) (inside : List ℕ) → IsReuse before n path → Stands before inside → has_ended before.begun inside n ≡ true
reused before n path inside (k, l, below, is, holds) stands =
    let same : l.0 ≡ n = holds.0 in
    let at : (l.0 < before.begun) × IsOutside inside l.0 = subst (λ (m : ℕ × Answers). (m.0 < before.begun) × IsOutside inside m.0) is (stands.ended k l below) in
    let out : list_any (λ m. eqb m n) inside ≡ false = subst (IsOutside inside) same at.1 in
    rw (lt-ltb n before.begun (omega (arith, at.0)), out) refl

-- ---- nodes

no-hints : (clauses : List Clause) (path : Answers) (hints : List ℕ) → Replays clauses path hints → hints ≡ [] → ⊥
no-hints clauses path hints (refuted decided hint c at refuted_is) empty = cc
no-hints clauses path hints (derives decided hint others c l at unit later) empty = cc

some-hints : (clauses : List Clause) (path : Answers) (hints : List ℕ) → Replays clauses path hints → hints ≢ []
some-hints clauses path hints replays empty = no-hints clauses path hints replays empty

-- the line of a split or a label is below few enough others
shallow : (d : ℕ) → d < MOST_NESTING → nat_lt d MOST_NESTING ≡ true
shallow d below = lt-ltb d MOST_NESTING below

number-tests : (count n : ℕ) → n < count → All (λ m. m < count) (n ∷ [])
number-tests count n below = All-cons (λ m. m < count) n [] below (All-nil (λ m. m < count))

core-passes : (limits : Limits) (es : List Expected) (depth begun : ℕ) (inside core : List ℕ) (rest : List (List ℕ)) → core ≢ [] → rises_from 0 core ≡ true → All (λ n. n < limits.tests) core → HasSmallNumbers (slot_line core) →
    Pass limits (ExpectSlotProof ∷ es) begun rest → Pass limits (ExpectNode depth inside ∷ es) begun (line_text (slot_line core) ∷ rest)
core-passes limits es depth begun inside [] rest some rise within small later = absurd (some refl)
core-passes limits es depth begun inside (n ∷ core) rest some rise within small later =
    plain-passes limits es (ExpectSlotProof ∷ es) (ExpectNode depth inside) begun (slot_line (n ∷ core)) rest at_slot small
    (record { ordered = rise; version = refl; tests = tests-test limits.tests (n ∷ core) within; shallow = refl }) refl refl later

hints-pass : (limits : Limits) (es : List Expected) (depth begun : ℕ) (inside hints : List ℕ) (rest : List (List ℕ)) → hints ≢ [] → HasSmallNumbers (clauses_line hints) →
    Pass limits es begun rest → Pass limits (ExpectNode depth inside ∷ es) begun (line_text (clauses_line hints) ∷ rest)
hints-pass limits es depth begun inside [] rest some small later = absurd (some refl)
hints-pass limits es depth begun inside (n ∷ hints) rest some small later =
    plain-passes limits es es (ExpectNode depth inside) begun (clauses_line (n ∷ hints)) rest at_clauses small (record { ordered = refl; version = refl; tests = refl; shallow = refl }) refl refl later

-- one begun more or less
begun-pass : (limits : Limits) (es : List Expected) (b c : ℕ) (rest : List (List ℕ)) → b ≡ c → Pass limits es b rest → Pass limits es c rest
begun-pass limits es b c rest same pass = subst (λ n. Pass limits es n rest) same pass

label-ordered : (b n : ℕ) (given : Answers) → n ≡ b → rises_from 0 (answered_tests given) ≡ true → ((n == b) && rises_from 0 (answered_tests given)) ≡ true
label-ordered b n given next rise = rw ((Decides-eqb n b).1 next, rise) refl

pub node-passes : (schema : Schema) (tests : List Test) (tree : Tree) (version : ℕ) (before : Before) (p : Proof) (path : Answers) (depth_here : ℕ) (inside : List ℕ) (es : List Expected) (rest : List (List ℕ)) →
    Closes schema tests tree before p path → PathInRange tests path → Stands before inside → depth_here + depth p ≤ MOST_NESTING → AllSmall (node_lines p) →
    Pass (limits_of tests version) es (before.begun + labels p) rest → Pass (limits_of tests version) (ExpectNode depth_here inside ∷ es) before.begun (before_lines (node_lines p) rest)
node-passes schema tests tree version before (split n y z) path d inside es rest closes range stands nests small later =
    let limits = limits_of tests version in
    let below : n < length tests = closes.0.0 in
    let lines = node_lines y ++ node_lines z in
    let parts = later-small (split_line n) lines small in
    let end = begun-pass limits es (before.begun + (labels y + labels z)) (before.begun + labels y + labels z) rest (omega arith) later in
    let second = node-passes schema tests tree version (after_part before y) z (path_with path n false) (d + 1) inside es rest closes.2 (range_more tests path n false range below)
    (stands-after schema tests tree before y (path_with path n true) inside closes.1 stands) (omega arith) (back-small (node_lines y) (node_lines z) parts) end in
    let first = node-passes schema tests tree version before y (path_with path n true) (d + 1) inside (ExpectNode (d + 1) inside ∷ es) (before_lines (node_lines z) rest) closes.1 (range_more tests path n true range below)
    stands (omega arith) (front-small (node_lines y) (node_lines z) parts) second in
    plain-passes limits es (ExpectNode (d + 1) inside ∷ ExpectNode (d + 1) inside ∷ es) (ExpectNode d inside) before.begun (split_line n) (before_lines lines rest) at_split (first-small (split_line n) lines small)
    (record { ordered = refl; version = refl; tests = tests-test (length tests) (n ∷ []) (number-tests (length tests) n below); shallow = shallow d (omega arith) }) refl refl
    (parts-pass limits (ExpectNode (d + 1) inside ∷ ExpectNode (d + 1) inside ∷ es) before.begun (node_lines y) (node_lines z) rest first)
node-passes schema tests tree version before by_value path d inside es rest closes range stands nests small later =
    plain-passes (limits_of tests version) es es (ExpectNode d inside) before.begun value_line rest at_value (first-small value_line [] small) (record { ordered = refl; version = refl; tests = refl; shallow = refl }) refl refl
    (begun-pass (limits_of tests version) es (before.begun + 0) before.begun rest (omega arith) later)
node-passes schema tests tree version before (by_slot core proof) path d inside es rest closes range stands nests small later =
    let limits = limits_of tests version in
    let is = closes.conflict.core_is in
    core-passes limits es d before.begun inside core (before_lines (slot_lines proof) rest) is.nonempty is.rises is.within (first-small (slot_line core) (slot_lines proof) small)
    (slot-passes limits es before.begun proof rest (accepted-fit schema tests path core proof closes) (later-small (slot_line core) (slot_lines proof) small)
    (begun-pass limits es (before.begun + 0) before.begun rest (omega arith) later))
node-passes schema tests tree version before (by_clauses hints) path d inside es rest closes range stands nests small later =
    hints-pass (limits_of tests version) es d before.begun inside hints rest (some-hints _ path hints closes) (first-small (clauses_line hints) [] small)
    (begun-pass (limits_of tests version) es (before.begun + 0) before.begun rest (omega arith) later)
node-passes schema tests tree version before (label n given p) path d inside es rest closes range stands nests small later =
    let limits = limits_of tests version in
    let next : n ≡ before.begun = closes.0.next in
    let inner = contained-range tests given path closes.0.there range in
    let end = begun-pass limits es (before.begun + (labels p + 1)) (before.begun + 1 + labels p) rest (omega arith) later in
    let node = node-passes schema tests tree version (inside_label before) p given (d + 1) (inside ++ n ∷ []) es rest closes.1 inner (stands-inside before n inside next stands) (omega arith)
    (later-small (label_line n given) (node_lines p) small) end in
    line-passes limits es (ExpectNode d inside) before.begun (label_line n given) (before_lines (node_lines p) rest) at_label (first-small (label_line n given) (node_lines p) small)
    (record { ordered = label-ordered before.begun n given next closes.0.rise; version = refl; tests = tests-test (length tests) (answered_tests given) (given-within tests given inner); shallow = shallow d (omega arith) }) node
node-passes schema tests tree version before (reuse n) path d inside es rest closes range stands nests small later =
    plain-passes (limits_of tests version) es es (ExpectNode d inside) before.begun (reuse_line n) rest at_reuse (first-small (reuse_line n) [] small)
    (record { ordered = reused before n path inside closes stands; version = refl; tests = refl; shallow = refl }) refl refl
    (begun-pass (limits_of tests version) es (before.begun + 0) before.begun rest (omega arith) later)
