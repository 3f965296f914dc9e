-- Nodes and what stands below them.
use Rattle.std.proofs.Common.{◌≡◌, ℕ, zero, suc, ◌+◌, ◌<◌, ◌≤◌, Bool, true, false, List, [], ◌∷◌, ◌++◌, length, get_or, Option, Some, None, Result, Ok, Err, IfOk, eqb, nat_le, nat_lt, append_assoc, refl, sym, ap, ◌∙◌, subst, arith, inl, inr, if◌then◌else◌}
use Rattle.std.proofs.lemmas.Bool.{and_parts, cases_lt, eqb-true, ltb-true}
use Rattle.std.proofs.lemmas.List.{length-append}
use Rattle.std.specs.List.{list_all}
use Rattle.formula_tree.specs.Answers.{Answers}
use Rattle.refute_check.specs.Proofs.{Proof, label, split}
use Rattle.pattern_automata.specs.Closed.{rises_from}
use Rattle.proof_text.specs.Around.{AreAround}
use Rattle.proof_text.specs.Faults.{answered_tests, fault_of_line, is_of_version, is_ordered, is_shallow, numbers_in, tests_named}
use Rattle.proof_text.specs.LineForms.{Expected, ExpectNode, ExpectSlotProof, line_said, lines_of}
use Rattle.proof_text.specs.Lines.{Line, label_line, slot_line, split_line}
use Rattle.proof_text.specs.SlotLines.{IsOfCore, lines_after}
use Rattle.proof_text.specs.Spelling.{node_lines, node_line_numbers}
use Rattle.proof_text.specs.Steps.{FailsFrom, HasLineRoom, IsBehind, ArePartsRead, TakesLines}
use Rattle.proof_text.specs.declared.fault.ProofAnswer.{ProofAnswer}
use Rattle.proof_text.specs.declared.fault.ProofCode.{ProofCode}
use Rattle.proof_text.specs.declared.fault.ProofCode.TheVariants.{C1Syntax, C2Version, C3TestNumber, C4Limit}
use Rattle.proof_text.specs.declared.limits.Limits.{Limits}
use Rattle.proof_text.specs.declared.limits.TheConstants.{MOST_NESTING, MOST_NUMBER}
use Rattle.proof_text.specs.declared.location.Location.{Location}
use Rattle.proof_text.proofs.Taking.{fails-below, leads-both, leads-line}

-- ---- what a line without a fault passes

passed : (b : Bool) (rest : Option ProofCode) (code : ProofCode) → (if b then rest else Some code) ≡ None → (b ≡ true) × (rest ≡ None)
passed true rest code e = (refl, e)
passed false rest code e = cc

abbrev five : (a b c d e : Bool) → Option ProofCode
five a b c d e = (if a then (if b then (if c then (if d then (if e then None else Some C4Limit) else Some C3TestNumber) else Some C2Version) else Some C1Syntax) else Some C4Limit)

all-passed : (a b c d e : Bool) → five a b c d e ≡ None → (b ≡ true) × (e ≡ true) × (c ≡ true)
all-passed a b c d e h =
    let one = passed a (if b then (if c then (if d then (if e then None else Some C4Limit) else Some C3TestNumber) else Some C2Version) else Some C1Syntax) C4Limit h in
    let two = passed b (if c then (if d then (if e then None else Some C4Limit) else Some C3TestNumber) else Some C2Version) C1Syntax one.1 in
    let three = passed c (if d then (if e then None else Some C4Limit) else Some C3TestNumber) C2Version two.1 in
    let four = passed d (if e then None else Some C4Limit) C3TestNumber three.1 in
    (two.0, (passed e None C4Limit four.1).0, three.0)

pub passes : (limits : Limits) (begun : ℕ) (e : Expected) (l : Line) → fault_of_line limits begun e (Some l) ≡ None → (is_ordered begun e l ≡ true) × (is_shallow e l ≡ true) × (is_of_version limits.version l ≡ true)
passes limits begun e l h = all-passed (list_all (λ n. nat_le n MOST_NUMBER) (numbers_in l)) (is_ordered begun e l) (is_of_version limits.version l) (list_all (λ n. nat_lt n limits.tests) (tests_named l)) (is_shallow e l) h

pub label-depth : (limits : Limits) (begun depth n : ℕ) (given : Answers) (inside : List ℕ) → fault_of_line limits begun (ExpectNode depth inside) (Some (label_line n given)) ≡ None → depth < MOST_NESTING
label-depth limits begun depth n given inside h = ltb-true depth MOST_NESTING (passes limits begun (ExpectNode depth inside) (label_line n given) h).1

pub label-number : (limits : Limits) (begun depth n : ℕ) (given : Answers) (inside : List ℕ) → fault_of_line limits begun (ExpectNode depth inside) (Some (label_line n given)) ≡ None → n ≡ begun
label-number limits begun depth n given inside h =
    eqb-true n begun (and_parts (eqb n begun) (rises_from 0 (answered_tests given)) (passes limits begun (ExpectNode depth inside) (label_line n given) h).0).0

-- ---- labels around

push-at : (ns : List ℕ) (n k : ℕ) → k < length ns → get_or (ns ++ n ∷ []) k 0 ≡ get_or ns k 0
push-at [] n k h = absurd (omega arith)
push-at (m ∷ ns) n zero h = refl
push-at (m ∷ ns) n (suc k) h = push-at ns n k (omega arith)

push-last : (ns : List ℕ) (n : ℕ) → get_or (ns ++ n ∷ []) (length ns) 0 ≡ n
push-last [] n = refl
push-last (m ∷ ns) n = push-last ns n

around-at : (ns : List ℕ) (n begun : ℕ) → AreAround ns begun → n ≡ begun → (k : ℕ) → k < length (ns ++ n ∷ []) → get_or (ns ++ n ∷ []) k 0 ≤ n
around-at ns n begun around is k within = elim (cases_lt k (length ns)) [
  | inl front ↦ omega (arith, push-at ns n k front, around.below k front)
  | inr last ↦ let e : k ≡ length ns = omega (arith, length-append ns (n ∷ [])) in let v = push-last ns n in let w : get_or (ns ++ n ∷ []) k 0 ≡ n = ap (λ j. get_or (ns ++ n ∷ []) j 0) e ∙ v in omega (arith, w)
]

pub around-more : (ns : List ℕ) (n begun : ℕ) → AreAround ns begun → n ≡ begun → AreAround (ns ++ n ∷ []) (begun + 1)
around-more ns n begun around is = record {
  rising = λ i j low within. elim (cases_lt j (length ns)) [
    | inl front ↦ omega (arith, push-at ns n j front, push-at ns n i (omega arith), around.rising i j low front)
    | inr last ↦
        let e : j ≡ length ns = omega (arith, length-append ns (n ∷ [])) in
        let w : get_or (ns ++ n ∷ []) j 0 ≡ n = ap (λ k. get_or (ns ++ n ∷ []) k 0) e ∙ push-last ns n in
        omega (arith, w, around-at ns n begun around is i (omega arith))
  ];
  below = λ k within. omega (arith, around-at ns n begun around is k within);
}

-- ---- splits

pub split-takes : (limits : Limits) (depth test : ℕ) (inside line : List ℕ) (location behind middle end : Location) (y z : Proof) → IsBehind line 0 location behind → line_said (ExpectNode depth inside) line ≡ Some (split_line test) → fault_of_line limits location.begun (ExpectNode depth inside) (Some (split_line test)) ≡ None →
    TakesLines limits (ExpectNode (depth + 1) inside ∷ []) behind (node_lines y) middle → TakesLines limits (ExpectNode (depth + 1) inside ∷ []) middle (node_lines z) end → TakesLines limits (ExpectNode depth inside ∷ []) location (node_lines (split test y z)) end
split-takes limits depth test inside line location behind middle end y z next said passes first second =
    leads-line limits (ExpectNode depth inside) location behind end line (split_line test) (node_lines y ++ node_lines z) next said passes
    (leads-both limits (ExpectNode (depth + 1) inside ∷ []) (ExpectNode (depth + 1) inside ∷ []) behind middle end (node_lines y) (node_lines z) first second)

-- the lines of a split's nodes
pub split-starts : (test n m k : ℕ) (y z : Proof) (before own first all : List ℕ) → own ≡ before ++ n ∷ [] → first ≡ own ++ node_line_numbers m y → all ≡ first ++ node_line_numbers k z → m ≡ n + 1 → k ≡ m + length (node_lines y) → all ≡ before ++ node_line_numbers n (split test y z)
split-starts test n m k y z before own first all e f g next after =
    let ys : node_line_numbers m y ≡ node_line_numbers (n + 1) y = ap (λ j. node_line_numbers j y) next in
    let zs : node_line_numbers k z ≡ node_line_numbers (n + 1 + length (node_lines y)) z = ap (λ j. node_line_numbers j z) (omega arith) in
    g ∙ ap (λ r. r ++ node_line_numbers k z) (f ∙ ap (λ r. r ++ node_line_numbers m y) e) ∙ append_assoc (before ++ n ∷ []) (node_line_numbers m y) (node_line_numbers k z) ∙ append_assoc before (n ∷ []) (node_line_numbers m y ++ node_line_numbers k z) ∙
    ap (λ r. before ++ n ∷ (r ++ node_line_numbers k z)) ys ∙ ap (λ r. before ++ n ∷ (node_line_numbers (n + 1) y ++ r)) zs

pub label-starts : (number n m : ℕ) (given : Answers) (p : Proof) (before own all : List ℕ) → own ≡ before ++ n ∷ [] → all ≡ own ++ node_line_numbers m p → m ≡ n + 1 → all ≡ before ++ node_line_numbers n (label number given p)
label-starts number n m given p before own all e f next =
    f ∙ ap (λ r. r ++ node_line_numbers m p) e ∙ append_assoc before (n ∷ []) (node_line_numbers m p) ∙ ap (λ j. before ++ n ∷ node_line_numbers j p) next

-- ---- cores

pub core-read : {X : Type 0} (tree : X → Proof) (limits : Limits) (depth : ℕ) (inside core line : List ℕ) (from to : Location) (r : Result (X × Location) ProofAnswer) → IsBehind line 0 from to → line_said (ExpectNode depth inside) line ≡ Some (slot_line core) → fault_of_line limits from.begun (ExpectNode depth inside) (Some (slot_line core)) ≡ None →
    ArePartsRead (λ (x : X). lines_after (tree x)) limits (ExpectSlotProof ∷ []) to r → IfOk r (λ x. IsOfCore core (tree x.0)) → ArePartsRead (λ (x : X). node_lines (tree x)) limits (ExpectNode depth inside ∷ []) from r
core-read tree limits depth inside core line from to (Ok x) next is passes read of =
    subst (λ (ls : List Line). TakesLines limits (ExpectNode depth inside ∷ []) from ls x.1) (sym of.lines) (leads-line limits (ExpectNode depth inside) from to x.1 line (slot_line core) (lines_after (tree x.0)) next is passes read)
core-read tree limits depth inside core line from to (Err answer) next is passes read of = fails-below limits (ExpectNode depth inside) from to line (slot_line core) answer next is passes read

-- ---- where the labels around were looked at

pub known-at : (limits : Limits) (begun depth : ℕ) (seen inside line : List ℕ) (l : Line) → seen ≡ inside → (line_said (ExpectNode depth seen) line ≡ Some l) × (fault_of_line limits begun (ExpectNode depth seen) (Some l) ≡ None) →
    (line_said (ExpectNode depth inside) line ≡ Some l) × (fault_of_line limits begun (ExpectNode depth inside) (Some l) ≡ None)
known-at limits begun depth seen inside line l same known = subst (λ (ns : List ℕ). (line_said (ExpectNode depth ns) line ≡ Some l) × (fault_of_line limits begun (ExpectNode depth ns) (Some l) ≡ None)) same known

pub takes-at : (limits : Limits) (depth : ℕ) (seen inside : List ℕ) (from to : Location) (ls : List Line) → seen ≡ inside → TakesLines limits (ExpectNode depth seen ∷ []) from ls to → TakesLines limits (ExpectNode depth inside ∷ []) from ls to
takes-at limits depth seen inside from to ls same takes = subst (λ (ns : List ℕ). TakesLines limits (ExpectNode depth ns ∷ []) from ls to) same takes

pub fails-at : (limits : Limits) (depth : ℕ) (seen inside : List ℕ) (from : Location) (answer : ProofAnswer) → seen ≡ inside → FailsFrom limits (ExpectNode depth seen ∷ []) from answer → FailsFrom limits (ExpectNode depth inside ∷ []) from answer
fails-at limits depth seen inside from answer same fails = subst (λ (ns : List ℕ). FailsFrom limits (ExpectNode depth ns ∷ []) from answer) same fails

-- ---- labels

pub behind-label : (line : List ℕ) (location behind to : Location) → IsBehind line 0 location behind → to.number ≡ behind.number → to.begun ≡ behind.begun + 1 → to.bytes.now ≡ behind.bytes.now → HasLineRoom to → IsBehind line 1 location to
behind-label line location behind to next number begun bytes room = record {
  cut = next.cut ∙ ap (λ (bs : List ℕ). line ∷ lines_of bs) (sym bytes);
  number = number ∙ next.number;
  begun = omega (arith, begun, next.begun);
  room = room;
}

pub around-entered : (inside entered : List ℕ) (number begun after : ℕ) → AreAround inside begun → number ≡ begun → entered ≡ inside ++ number ∷ [] → after ≡ begun + 1 → AreAround entered after
around-entered inside entered number begun after around is grown next =
    subst (λ (ns : List ℕ). AreAround ns after) (sym grown) (subst (λ n. AreAround (inside ++ number ∷ []) n) (sym next) (around-more inside number begun around is))

pub label-takes : (limits : Limits) (depth number : ℕ) (given : Answers) (inside entered line : List ℕ) (location to end : Location) (p : Proof) → IsBehind line 1 location to → (line_said (ExpectNode depth inside) line ≡ Some (label_line number given)) × (fault_of_line limits location.begun (ExpectNode depth inside) (Some (label_line number given)) ≡ None) →
    entered ≡ inside ++ number ∷ [] → TakesLines limits (ExpectNode (depth + 1) entered ∷ []) to (node_lines p) end → TakesLines limits (ExpectNode depth inside ∷ []) location (node_lines (label number given p)) end
label-takes limits depth number given inside entered line location to end p next known grown takes =
    leads-line limits (ExpectNode depth inside) location to end line (label_line number given) (node_lines p) next known.0 known.1 (takes-at limits (depth + 1) entered (inside ++ number ∷ []) to end (node_lines p) grown takes)

pub label-fails : (limits : Limits) (depth number : ℕ) (given : Answers) (inside entered line : List ℕ) (location to : Location) (answer : ProofAnswer) → IsBehind line 1 location to → (line_said (ExpectNode depth inside) line ≡ Some (label_line number given)) × (fault_of_line limits location.begun (ExpectNode depth inside) (Some (label_line number given)) ≡ None) →
    entered ≡ inside ++ number ∷ [] → FailsFrom limits (ExpectNode (depth + 1) entered ∷ []) to answer → FailsFrom limits (ExpectNode depth inside ∷ []) location answer
label-fails limits depth number given inside entered line location to answer next known grown fails =
    fails-below limits (ExpectNode depth inside) location to line (label_line number given) answer next known.0 known.1 (fails-at limits (depth + 1) entered (inside ++ number ∷ []) to answer grown fails)
