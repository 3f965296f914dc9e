-- Whole certificates: from the readings of their parts.
use Rattle.std.proofs.Common.{◌≡◌, ◌≢◌, ℕ, ◌+◌, ◌≤◌, Bool, true, false, List, [], ◌∷◌, ◌++◌, length, map, Some, None, Err, eqb, append-nil, refl, sym, ap, ◌∙◌, subst, arith, if◌then◌else◌}
use Rattle.std.proofs.lemmas.Bool.{eqb-true}
use Rattle.std.proofs.lemmas.List.{length-append, length-map}
use Rattle.std.specs.List.{concat, flat_map, join_with_byte, onto_first}
use Rattle.refute_check.specs.Proofs.{Proof, size, by_clauses, by_slot, by_value, label, reuse, split}
use Rattle.proof_text.specs.Faults.{fault_from, fault_of_line, proof_fault_at}
use Rattle.proof_text.specs.LineForms.{ExpectNode, ExpectVersion, line_said, lines_of}
use Rattle.proof_text.specs.Lines.{Line, certificate_line, line_parts, line_text}
use Rattle.proof_text.specs.Spelling.{node_lines, proof_lines, certificate_text, node_line_numbers}
use Rattle.proof_text.specs.Steps.{FailsFrom, IsBehind, IsEndRead, IsLineRead, IsProofReadAt, TakesLines, answer_here, labels_in}
use Rattle.proof_text.specs.declared.fault.LineAnswer.{LineAnswer}
use Rattle.proof_text.proofs.Branching.{fails-at, passes, takes-at}
use Rattle.proof_text.proofs.Taking.{fails-below, leads-line, line-refused}
use Rattle.proof_text.specs.declared.fault.ProofAnswer.{ProofAnswer}
use Rattle.proof_text.specs.declared.fault.ProofAnswer.TheVariants.{Refused, NoMemory}
use Rattle.proof_text.specs.declared.fault.ProofCode.TheVariants.{C1Syntax}
use Rattle.proof_text.specs.declared.fault.ProofFault.{ProofFault}
use Rattle.proof_text.specs.declared.limits.Limits.{Limits}
use Rattle.proof_text.specs.declared.location.Location.{Location}

-- ---- a file is its lines

concat-onto : (b : ℕ) (ls : List (List ℕ)) → concat (onto_first b ls) ≡ b ∷ concat ls
concat-onto b [] = refl
concat-onto b (l ∷ ls) = refl

concat-picked : (b : ℕ) (ends : Bool) (bs : List ℕ) → concat (lines_of bs) ≡ bs → concat (if ends then (b ∷ []) ∷ lines_of bs else onto_first b (lines_of bs)) ≡ b ∷ bs
concat-picked b true bs h = ap (λ r. b ∷ r) h
concat-picked b false bs h = concat-onto b (lines_of bs) ∙ ap (λ r. b ∷ r) h

pub concat-lines : (bs : List ℕ) → concat (lines_of bs) ≡ bs
concat-lines [] = refl
concat-lines (b ∷ bs) = concat-picked b (eqb b 10) bs (concat-lines bs)

concat-texts : (ls : List Line) → concat (map line_text ls) ≡ flat_map line_text ls
concat-texts [] = refl
concat-texts (l ∷ ls) = ap (λ r. line_text l ++ r) (concat-texts ls)

-- a file whose lines are these is their text
text-of : (bs : List ℕ) (ls : List Line) → lines_of bs ≡ map line_text ls → bs ≡ flat_map line_text ls
text-of bs ls e = sym (concat-lines bs) ∙ ap concat e ∙ concat-texts ls

-- ---- the certificate at a location

pub read-refused : (limits : Limits) (start : Location) (answer : ProofAnswer) → FailsFrom limits (ExpectVersion ∷ []) start answer → IsProofReadAt limits start (Err answer)
read-refused limits start (Refused fault) fails = fails []
read-refused limits start NoMemory fails = tt

some-picked : (b : ℕ) (ends : Bool) (ls : List (List ℕ)) → (first : List ℕ) × (more : List (List ℕ)) × ((if ends then (b ∷ []) ∷ ls else onto_first b ls) ≡ first ∷ more)
some-picked b true ls = (b ∷ [], ls, refl)
some-picked b false [] = (b ∷ [], [], refl)
some-picked b false (l ∷ ls) = (b ∷ l, ls, refl)

some-line : (bs : List ℕ) → bs ≢ [] → (l : List ℕ) × (ls : List (List ℕ)) × (lines_of bs ≡ l ∷ ls)
some-line [] some = absurd (some refl)
some-line (b ∷ bs) some = some-picked b (eqb b 10) (lines_of bs)

behind-end : (limits : Limits) (n begun : ℕ) (lines : List (List ℕ)) (l : List ℕ) (ls : List (List ℕ)) → lines ≡ l ∷ ls → fault_from limits [] n begun lines ≡ Some (proof_fault_at n C1Syntax)
behind-end limits n begun lines l ls e = ap (fault_from limits [] n begun) e

-- lines up to the end
taken-whole : (limits : Limits) (start end : Location) (ls : List Line) → TakesLines limits (ExpectVersion ∷ []) start ls end →
    fault_from limits (ExpectVersion ∷ []) start.number start.begun (lines_of start.bytes.now) ≡ fault_from limits [] end.number end.begun (lines_of end.bytes.now)
taken-whole limits start end ls takes =
    ap (fault_from limits (ExpectVersion ∷ []) start.number start.begun) takes.cut ∙ takes.taken [] start.number (lines_of end.bytes.now) ∙
    ap (λ n. fault_from limits [] n (start.begun + labels_in ls) (lines_of end.bytes.now)) (omega (arith, takes.count, length-map ls line_text)) ∙
    ap (λ k. fault_from limits [] end.number k (lines_of end.bytes.now)) (sym takes.begun)

whole-longer : (limits : Limits) (start end : Location) (ls : List Line) (fault : ProofFault) → TakesLines limits (ExpectVersion ∷ []) start ls end → end.bytes.now ≢ [] → fault ≡ proof_fault_at end.number C1Syntax →
    fault_from limits (ExpectVersion ∷ []) start.number start.begun (lines_of start.bytes.now) ≡ Some fault
whole-longer limits start end ls fault takes some is =
    let more = some-line end.bytes.now some in
    taken-whole limits start end ls takes ∙ behind-end limits end.number end.begun (lines_of end.bytes.now) more.0 more.1 more.2 ∙ ap Some (sym is)

pub whole-none : (limits : Limits) (start end : Location) (ls : List Line) → TakesLines limits (ExpectVersion ∷ []) start ls end → end.bytes.now ≡ [] → fault_from limits (ExpectVersion ∷ []) start.number start.begun (lines_of start.bytes.now) ≡ None
whole-none limits start end ls takes none =
    taken-whole limits start end ls takes ∙ ap (λ (bs : List ℕ). fault_from limits [] end.number end.begun (lines_of bs)) none

pub whole-spelled : (limits : Limits) (version : ℕ) (start end : Location) (p : Proof) → TakesLines limits (ExpectVersion ∷ []) start (proof_lines version p) end → end.bytes.now ≡ [] → start.bytes.now ≡ certificate_text version p
whole-spelled limits version start end p takes none =
    let lines : lines_of start.bytes.now ≡ map line_text (proof_lines version p) = takes.cut ∙ ap (λ (bs : List ℕ). map line_text (proof_lines version p) ++ lines_of bs) none ∙ append-nil (map line_text (proof_lines version p)) in
    text-of start.bytes.now (proof_lines version p) lines

-- ---- nodes

line-some : (l : Line) → 1 ≤ length (line_text l)
line-some l = omega (arith, length-append (join_with_byte 32 (line_parts l)) (10 ∷ []))

few-lines : (ls : List Line) → length ls ≤ length (flat_map line_text ls)
few-lines [] = omega arith
few-lines (l ∷ ls) = omega (arith, length-append (line_text l) (flat_map line_text ls), line-some l, few-lines ls)

size-lines : (p : Proof) → size p ≤ length (node_lines p)
size-lines (split n y z) = omega (arith, size-lines y, size-lines z, length-append (node_lines y) (node_lines z))
size-lines by_value = omega arith
size-lines (by_slot core proof) = omega arith
size-lines (by_clauses hints) = omega arith
size-lines (label n given p) = omega (arith, size-lines p)
size-lines (reuse n) = omega arith

pub starts-size : (n : ℕ) (p : Proof) → length (node_line_numbers n p) ≡ size p
starts-size n (split t y z) =
    omega (arith, length-append (node_line_numbers (n + 1) y) (node_line_numbers (n + 1 + length (node_lines y)) z), starts-size (n + 1) y, starts-size (n + 1 + length (node_lines y)) z)
starts-size n by_value = refl
starts-size n (by_slot core proof) = refl
starts-size n (by_clauses hints) = refl
starts-size n (label k given p) = omega (arith, starts-size (n + 1) p)
starts-size n (reuse k) = refl

spelled-nodes : (version : ℕ) (p : Proof) → size p ≤ length (certificate_text version p)
spelled-nodes version p = omega (arith, size-lines p, few-lines (proof_lines version p))

pub few-nodes : (version : ℕ) (bytes : List ℕ) (p : Proof) → bytes ≡ certificate_text version p → size p ≤ length bytes
few-nodes version bytes p is = omega (arith, ap length is, spelled-nodes version p)

-- ---- the version, and the node behind it

at-first : (limits : Limits) (begun v : ℕ) → begun ≡ 0 → fault_of_line limits 0 ExpectVersion (Some (certificate_line v)) ≡ None → fault_of_line limits begun ExpectVersion (Some (certificate_line v)) ≡ None
at-first limits begun v none passes = subst (λ k. fault_of_line limits k ExpectVersion (Some (certificate_line v)) ≡ None) (sym none) passes

pub version-takes : (limits : Limits) (start behind end : Location) (line : List ℕ) (v : ℕ) (seen : List ℕ) (p : Proof) → start.begun ≡ 0 → IsBehind line 0 start behind → (line_said ExpectVersion line ≡ Some (certificate_line v)) × (fault_of_line limits 0 ExpectVersion (Some (certificate_line v)) ≡ None) →
    seen ≡ [] → TakesLines limits (ExpectNode 0 seen ∷ []) behind (node_lines p) end → TakesLines limits (ExpectVersion ∷ []) start (proof_lines limits.version p) end
version-takes limits start behind end line v seen p none next known empty takes =
    let same : v ≡ limits.version = eqb-true v limits.version (passes limits 0 ExpectVersion (certificate_line v) known.1).2 in
    let all = leads-line limits ExpectVersion start behind end line (certificate_line v) (node_lines p) next known.0 (at-first limits start.begun v none known.1) (takes-at limits 0 seen [] behind end (node_lines p) empty takes) in
    subst (λ n. TakesLines limits (ExpectVersion ∷ []) start (certificate_line n ∷ node_lines p) end) same all

pub version-fails : (limits : Limits) (start behind : Location) (line : List ℕ) (v : ℕ) (seen : List ℕ) (answer : ProofAnswer) → start.begun ≡ 0 → IsBehind line 0 start behind → (line_said ExpectVersion line ≡ Some (certificate_line v)) × (fault_of_line limits 0 ExpectVersion (Some (certificate_line v)) ≡ None) →
    seen ≡ [] → FailsFrom limits (ExpectNode 0 seen ∷ []) behind answer → IsProofReadAt limits start (Err answer)
version-fails limits start behind line v seen answer none next known empty fails =
    read-refused limits start answer (fails-below limits ExpectVersion start behind line (certificate_line v) answer next known.0 (at-first limits start.begun v none known.1) (fails-at limits 0 seen [] behind answer empty fails))

pub version-refused : (limits : Limits) (start behind : Location) (line : List ℕ) (a : LineAnswer) (answer : ProofAnswer) → start.begun ≡ 0 → IsBehind line 0 start behind → IsLineRead (λ n. certificate_line n) limits 0 ExpectVersion (line_said ExpectVersion line) (Err a) → answer ≡ answer_here start.number a →
    IsProofReadAt limits start (Err answer)
version-refused limits start behind line a answer none next read is =
    let here : IsLineRead (λ n. certificate_line n) limits start.begun ExpectVersion (line_said ExpectVersion line) (Err a) = subst (λ k. IsLineRead (λ n. certificate_line n) limits k ExpectVersion (line_said ExpectVersion line) (Err a)) (sym none) read in
    read-refused limits start answer (line-refused (λ n. certificate_line n) limits ExpectVersion start behind line 0 a answer next here is)

pub end-fails : (limits : Limits) (start end : Location) (ls : List Line) (answer : ProofAnswer) → TakesLines limits (ExpectVersion ∷ []) start ls end → IsEndRead end (Err answer) → IsProofReadAt limits start (Err answer)
end-fails limits start end ls answer takes read =
    subst (λ (r : ProofAnswer). IsProofReadAt limits start (Err r)) (sym read.1) (whole-longer limits start end ls (proof_fault_at end.number C1Syntax) takes read.0 refl)

-- the lines of the nodes
pub node-starts : (limits : Limits) (start behind : Location) (line before own : List ℕ) (p : Proof) → IsBehind line 0 start behind → before ≡ [] → own ≡ before ++ node_line_numbers behind.number p → own ≡ node_line_numbers (start.number + 1) p
node-starts limits start behind line before own p next empty is =
    is ∙ ap (λ l. l ++ node_line_numbers behind.number p) empty ∙ ap (λ n. node_line_numbers n p) next.number
