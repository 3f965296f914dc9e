-- Lines that the parts of a certificate take, and first faults of what follows.
use Rattle.std.proofs.Common.{◌≡◌, ℕ, zero, suc, ◌+◌, ◌-◌, ◌<◌, ◌≤◌, Bool, true, false, List, [], ◌∷◌, ◌++◌, length, map, replicate, Option, Some, None, Result, Ok, Err, IfOk, option_map, append_assoc, refl, sym, ap, ◌∙◌, subst, arith, if◌then◌else◌}
use Rattle.std.proofs.lemmas.Bool.{and_parts, leb-true}
use Rattle.std.proofs.lemmas.List.{length-append, length-map, map-append, replicate_more}
use Rattle.std.proofs.lemmas.List.Elements.{All-append, All-cons, All-nil}
use Rattle.std.specs.Option.{option_or}
use Rattle.proof_text.specs.Faults.{expected_after, calls_for, fault_from, fault_of_line, labels_begun, labels_said, numbers_in, proof_fault_at}
use Rattle.proof_text.specs.Laws.{AreSmall, HasSmallNumbers}
use Rattle.slot_theory.specs.declared.outcome.SlotProof.{SlotProof}
use Rattle.proof_text.specs.LineForms.{Expected, ExpectKindProof, ExpectSlotProof, ExpectState, line_said, lines_of}
use Rattle.proof_text.specs.Lines.{Line, closed_line, kinds_line, line_text, places_line}
use Rattle.proof_text.specs.SlotLines.{lines_after_kinds}
use Rattle.proof_text.specs.Spelling.{closed_lines, slot_lines}
use Rattle.proof_text.specs.Steps.{FailsFrom, HasLineRoom, IsBehind, IsLineAt, IsLineRead, ArePartsRead, TakesLines, answer_here, are_small, is_small, labels_in}
use Rattle.proof_text.specs.declared.fault.LineAnswer.{LineAnswer}
use Rattle.proof_text.specs.declared.fault.LineAnswer.TheVariants.{Fails, NoMemory as NoLineMemory}
use Rattle.proof_text.specs.declared.fault.ProofAnswer.{ProofAnswer}
use Rattle.proof_text.specs.declared.fault.ProofAnswer.TheVariants.{Refused, NoMemory}
use Rattle.proof_text.specs.declared.fault.ProofCode.{ProofCode}
use Rattle.proof_text.specs.declared.fault.ProofCode.TheVariants.{C1Syntax, C4Limit}
use Rattle.proof_text.specs.declared.fault.ProofFault.{ProofFault}
use Rattle.proof_text.specs.declared.limits.Limits.{Limits}
use Rattle.proof_text.specs.declared.limits.TheConstants.{MOST_NUMBER}
use Rattle.proof_text.specs.declared.location.Location.{Location}
use Rattle.proof_text.proofs.Texts.{spelled}

-- ---- one line

step : (limits : Limits) (e : Expected) (es : List Expected) (n begun : ℕ) (line : List ℕ) (lines : List (List ℕ)) (l : Line) → line_said e line ≡ Some l → fault_of_line limits begun e (Some l) ≡ None →
    fault_from limits (e ∷ es) n begun (line ∷ lines) ≡ fault_from limits (calls_for e l ++ es) (n + 1) (begun + labels_begun l) lines
step limits e es n begun line lines l is passes =
    let P : Option Line → Option ProofFault = λ o. option_or (option_map (proof_fault_at n) (fault_of_line limits begun e o)) (fault_from limits (expected_after e o ++ es) (n + 1) (begun + labels_said o) lines) in
    let Q : Option ProofCode → Option ProofFault = λ f. option_or (option_map (proof_fault_at n) f) (fault_from limits (calls_for e l ++ es) (n + 1) (begun + labels_begun l) lines) in
    ap P is ∙ ap Q passes

stop : (limits : Limits) (e : Expected) (es : List Expected) (n begun : ℕ) (line : List ℕ) (lines : List (List ℕ)) (code : ProofCode) → fault_of_line limits begun e (line_said e line) ≡ Some code →
    fault_from limits (e ∷ es) n begun (line ∷ lines) ≡ Some (proof_fault_at n code)
stop limits e es n begun line lines code fails =
    let Q : Option ProofCode → Option ProofFault = λ f. option_or (option_map (proof_fault_at n) f) (fault_from limits (expected_after e (line_said e line) ++ es) (n + 1) (begun + labels_said (line_said e line)) lines) in
    ap Q fails

passed-size : (small : Bool) (rest : Option ProofCode) → (if small then rest else Some C4Limit) ≡ None → small ≡ true
passed-size true rest e = refl
passed-size false rest e = cc

numbers-small : (ns : List ℕ) → are_small ns ≡ true → AreSmall ns
numbers-small [] e = All-nil (λ n. n ≤ MOST_NUMBER)
numbers-small (n ∷ ns) e =
    let both = and_parts (is_small n) (are_small ns) e in
    All-cons (λ m. m ≤ MOST_NUMBER) n ns (leb-true n MOST_NUMBER both.0) (numbers-small ns both.1)

-- ---- lines that are taken

at-numbers : (limits : Limits) (more : List Expected) (n m begun after : ℕ) (rest : List (List ℕ)) → n ≡ m → begun ≡ after → fault_from limits more n begun rest ≡ fault_from limits more m after rest
at-numbers limits more n m begun after rest same alike = ap (λ k. fault_from limits more k begun rest) same ∙ ap (λ k. fault_from limits more m k rest) alike

pub leads-none : (limits : Limits) (at : Location) → HasLineRoom at → TakesLines limits [] at [] at
leads-none limits at room = record {
  cut = refl;
  count = omega arith;
  begun = omega arith;
  taken = λ more n rest. at-numbers limits more n (n + 0) at.begun (at.begun + 0) rest (omega arith) (omega arith);
  small = All-nil HasSmallNumbers;
  room = room;
}

-- a line, and what it calls for
pub leads-line : (limits : Limits) (e : Expected) (from to end : Location) (line : List ℕ) (l : Line) (ls : List Line) → IsBehind line (labels_begun l) from to → line_said e line ≡ Some l → fault_of_line limits from.begun e (Some l) ≡ None →
    TakesLines limits (calls_for e l) to ls end → TakesLines limits (e ∷ []) from (l ∷ ls) end
leads-line limits e from to end line l ls behind is passes takes =
    let size : are_small (numbers_in l) ≡ true = passed-size (are_small (numbers_in l)) _ passes in
    let text : line ≡ line_text l = spelled e line l is size in
    record {
      cut = behind.cut ∙ ap (λ t. t ∷ lines_of to.bytes.now) text ∙ ap (λ r. line_text l ∷ r) takes.cut;
      count = omega (arith, takes.count, behind.number);
      begun = omega (arith, takes.begun, behind.begun);
      taken = λ more n rest.
          ap (λ t. fault_from limits (e ∷ more) n from.begun (t ∷ (map line_text ls ++ rest))) (sym text) ∙
          step limits e more n from.begun line (map line_text ls ++ rest) l is passes ∙
          ap (λ k. fault_from limits (calls_for e l ++ more) (n + 1) k (map line_text ls ++ rest)) (sym behind.begun) ∙
          takes.taken more (n + 1) rest ∙
          at-numbers limits more (n + 1 + length (map line_text ls)) (n + suc (length (map line_text ls))) (to.begun + labels_in ls) (from.begun + (labels_begun l + labels_in ls)) rest (omega arith) (omega (arith, behind.begun));
      small = All-cons HasSmallNumbers l ls (numbers-small (numbers_in l) size) takes.small;
      room = takes.room;
    }

-- a line that calls for nothing
pub leads-alone : (limits : Limits) (e : Expected) (from to : Location) (line : List ℕ) (l : Line) → IsBehind line (labels_begun l) from to → line_said e line ≡ Some l → fault_of_line limits from.begun e (Some l) ≡ None → calls_for e l ≡ [] →
    TakesLines limits (e ∷ []) from (l ∷ []) to
leads-alone limits e from to line l behind is passes none =
    leads-line limits e from to to line l [] behind is passes (subst (λ (es : List Expected). TakesLines limits es to [] to) (sym none) (leads-none limits to behind.room))

labels-append : (ls ms : List Line) → labels_in (ls ++ ms) ≡ labels_in ls + labels_in ms
labels-append [] ms = omega arith
labels-append (l ∷ ls) ms = omega (arith, labels-append ls ms)

-- what parts ask for, and what those behind them do
pub leads-both : (limits : Limits) (es fs : List Expected) (a b c : Location) (ls ms : List Line) → TakesLines limits es a ls b → TakesLines limits fs b ms c → TakesLines limits (es ++ fs) a (ls ++ ms) c
leads-both limits es fs a b c ls ms front back =
    let texts : map line_text (ls ++ ms) ≡ map line_text ls ++ map line_text ms = map-append line_text ls ms in
    let labels = labels-append ls ms in
    let lengths : length (map line_text (ls ++ ms)) ≡ length (map line_text ls) + length (map line_text ms) = ap length texts ∙ length-append (map line_text ls) (map line_text ms) in
    record {
      cut = front.cut ∙ ap (λ r. map line_text ls ++ r) back.cut ∙ sym (append_assoc (map line_text ls) (map line_text ms) (lines_of c.bytes.now)) ∙ ap (λ r. r ++ lines_of c.bytes.now) (sym texts);
      count = omega (arith, front.count, back.count, length-append ls ms);
      begun = omega (arith, front.begun, back.begun, labels);
      taken = λ more n rest.
          ap (λ t. fault_from limits ((es ++ fs) ++ more) n a.begun (t ++ rest)) texts ∙
          ap (λ t. fault_from limits ((es ++ fs) ++ more) n a.begun t) (append_assoc (map line_text ls) (map line_text ms) rest) ∙
          ap (λ p. fault_from limits p n a.begun (map line_text ls ++ (map line_text ms ++ rest))) (append_assoc es fs more) ∙
          front.taken (fs ++ more) n (map line_text ms ++ rest) ∙
          ap (λ k. fault_from limits (fs ++ more) (n + length (map line_text ls)) k (map line_text ms ++ rest)) (sym front.begun) ∙
          back.taken more (n + length (map line_text ls)) rest ∙
          at-numbers limits more (n + length (map line_text ls) + length (map line_text ms)) (n + length (map line_text (ls ++ ms))) (b.begun + labels_in ms) (a.begun + labels_in (ls ++ ms)) rest (omega (arith, lengths)) (omega (arith, front.begun, labels));
      small = All-append HasSmallNumbers ls ms front.small back.small;
      room = back.room;
    }

-- ---- first faults

pub fails-line : (limits : Limits) (e : Expected) (from to : Location) (line : List ℕ) (begins : ℕ) (code : ProofCode) → IsBehind line begins from to → fault_of_line limits from.begun e (line_said e line) ≡ Some code →
    FailsFrom limits (e ∷ []) from (Refused (proof_fault_at from.number code))
fails-line limits e from to line begins code behind fails = λ more.
    ap (fault_from limits (e ∷ more) from.number from.begun) behind.cut ∙ stop limits e more from.number from.begun line (lines_of to.bytes.now) code fails

pub fails-end : (limits : Limits) (e : Expected) (from : Location) (answer : ProofAnswer) → lines_of from.bytes.now ≡ [] → answer ≡ Refused (proof_fault_at from.number C1Syntax) → FailsFrom limits (e ∷ []) from answer
fails-end limits e from answer none is =
    let here : FailsFrom limits (e ∷ []) from (Refused (proof_fault_at from.number C1Syntax)) = λ more. ap (fault_from limits (e ∷ more) from.number from.begun) none in
    subst (λ (a : ProofAnswer). FailsFrom limits (e ∷ []) from a) (sym is) here

-- behind a line that is taken
pub fails-below : (limits : Limits) (e : Expected) (from to : Location) (line : List ℕ) (l : Line) (answer : ProofAnswer) → IsBehind line (labels_begun l) from to → line_said e line ≡ Some l → fault_of_line limits from.begun e (Some l) ≡ None →
    FailsFrom limits (calls_for e l) to answer → FailsFrom limits (e ∷ []) from answer
fails-below limits e from to line l (Refused fault) behind is passes fails = λ more.
    ap (fault_from limits (e ∷ more) from.number from.begun) behind.cut ∙ step limits e more from.number from.begun line (lines_of to.bytes.now) l is passes ∙
    at-numbers limits (calls_for e l ++ more) (from.number + 1) to.number (from.begun + labels_begun l) to.begun (lines_of to.bytes.now) (sym behind.number) (sym behind.begun) ∙ fails more
fails-below limits e from to line l NoMemory behind is passes fails = tt

pub fails-longer : (limits : Limits) (es fs : List Expected) (from : Location) (answer : ProofAnswer) → FailsFrom limits es from answer → FailsFrom limits (es ++ fs) from answer
fails-longer limits es fs from (Refused fault) fails = λ more. ap (λ p. fault_from limits p from.number from.begun (lines_of from.bytes.now)) (append_assoc es fs more) ∙ fails (fs ++ more)
fails-longer limits es fs from NoMemory fails = tt

pub fails-behind : (limits : Limits) (es fs : List Expected) (a b : Location) (ls : List Line) (answer : ProofAnswer) → TakesLines limits es a ls b → FailsFrom limits fs b answer → FailsFrom limits (es ++ fs) a answer
fails-behind limits es fs a b ls (Refused fault) front fails = λ more.
    ap (λ p. fault_from limits p a.number a.begun (lines_of a.bytes.now)) (append_assoc es fs more) ∙
    ap (fault_from limits (es ++ (fs ++ more)) a.number a.begun) front.cut ∙
    front.taken (fs ++ more) a.number (lines_of b.bytes.now) ∙
    at-numbers limits (fs ++ more) (a.number + length (map line_text ls)) b.number (a.begun + labels_in ls) b.begun (lines_of b.bytes.now) (omega (arith, front.count, length-map ls line_text)) (sym front.begun) ∙ fails more
fails-behind limits es fs a b ls NoMemory front fails = tt

-- ---- readers of one line, and of what it calls for

pub line-refused : {X : Type 0} (value : X → Line) (limits : Limits) (e : Expected) (from to : Location) (line : List ℕ) (begins : ℕ) (a : LineAnswer) (answer : ProofAnswer) → IsBehind line begins from to → IsLineRead value limits from.begun e (line_said e line) (Err a) → answer ≡ answer_here from.number a →
    FailsFrom limits (e ∷ []) from answer
line-refused value limits e from to line begins (Fails code) answer behind read is =
    subst (λ (r : ProofAnswer). FailsFrom limits (e ∷ []) from r) (sym is) (fails-line limits e from to line begins code behind read)
line-refused value limits e from to line begins NoLineMemory answer behind read is = subst (λ (r : ProofAnswer). FailsFrom limits (e ∷ []) from r) (sym is) tt

pub end-refused : (limits : Limits) (e : Expected) (from : Location) (answer : ProofAnswer) → IsLineAt from (Err answer) → FailsFrom limits (e ∷ []) from answer
end-refused limits e from answer read = fails-end limits e from answer read.0 read.1

replicate-next : (n : ℕ) (e : Expected) → replicate (n + 1) e ≡ replicate n e ++ e ∷ []
replicate-next n e = sym (replicate_more n e)

replicate-both : (n m : ℕ) (e : Expected) → replicate (n + m) e ≡ replicate n e ++ replicate m e
replicate-both zero m e = ap (λ k. replicate k e) (omega arith)
replicate-both (suc n) m e = let k : suc n + m ≡ suc (n + m) = omega arith in ap (λ j. replicate j e) k ∙ ap (λ (es : List Expected). e ∷ es) (replicate-both n m e)

-- product states so far
pub states-more : (limits : Limits) (i j : ℕ) (from at to : Location) (set grown : List (List (List ℕ))) (state : List (List ℕ)) → TakesLines limits (replicate i ExpectState) from (map places_line set) at → TakesLines limits (ExpectState ∷ []) at (places_line state ∷ []) to → j ≡ i + 1 → grown ≡ set ++ state ∷ [] →
    TakesLines limits (replicate j ExpectState) from (map places_line grown) to
states-more limits i j from at to set grown state front back next grows =
    let both = leads-both limits (replicate i ExpectState) (ExpectState ∷ []) from at to (map places_line set) (places_line state ∷ []) front back in
    let parts : replicate j ExpectState ≡ replicate i ExpectState ++ ExpectState ∷ [] = ap (λ k. replicate k ExpectState) next ∙ replicate-next i ExpectState in
    let lines : map places_line grown ≡ map places_line set ++ places_line state ∷ [] = ap (map places_line) grows ∙ map-append places_line set (state ∷ []) in
    subst (λ (es : List Expected). TakesLines limits es from (map places_line grown) to) (sym parts) (subst (λ (ls : List Line). TakesLines limits (replicate i ExpectState ++ ExpectState ∷ []) from ls to) (sym lines) both)

pub states-stop : (limits : Limits) (i n : ℕ) (from at : Location) (set : List (List (List ℕ))) (answer : ProofAnswer) → TakesLines limits (replicate i ExpectState) from (map places_line set) at → i < n → FailsFrom limits (ExpectState ∷ []) at answer → FailsFrom limits (replicate n ExpectState) from answer
states-stop limits i n from at set answer front below fails =
    let whole : replicate n ExpectState ≡ replicate (i + 1) ExpectState ++ replicate (n - (i + 1)) ExpectState = ap (λ k. replicate k ExpectState) (omega arith) ∙ replicate-both (i + 1) (n - (i + 1)) ExpectState in
    let here = fails-behind limits (replicate i ExpectState) (ExpectState ∷ []) from at (map places_line set) answer front fails in
    let there = fails-longer limits (replicate (i + 1) ExpectState) (replicate (n - (i + 1)) ExpectState) from answer (subst (λ (es : List Expected). FailsFrom limits es from answer) (sym (replicate-next i ExpectState)) here) in
    subst (λ (es : List Expected). FailsFrom limits es from answer) (sym whole) there

-- a closed set behind the line of its size
pub closed-read : (limits : Limits) (e : Expected) (from to : Location) (line : List ℕ) (count : ℕ) (r : Result (List (List (List ℕ)) × Location) ProofAnswer) → IsBehind line 0 from to → line_said e line ≡ Some (closed_line count) → fault_of_line limits from.begun e (Some (closed_line count)) ≡ None →
    ArePartsRead (map places_line) limits (replicate count ExpectState) to r → IfOk r (λ x. length x.0 ≡ count) → ArePartsRead closed_lines limits (e ∷ []) from r
closed-read limits e from to line count (Ok x) behind is passes read size =
    let all = leads-line limits e from to x.1 line (closed_line count) (map places_line x.0) behind is passes read in
    subst (λ n. TakesLines limits (e ∷ []) from (closed_line n ∷ map places_line x.0) x.1) (sym size) all
closed-read limits e from to line count (Err answer) behind is passes read size = fails-below limits e from to line (closed_line count) answer behind is passes read

-- ---- four parts of one kind

pub four-takes : (limits : Limits) (e : Expected) (a b c d f : Location) (k l m n : List Line) → TakesLines limits (e ∷ []) a k b → TakesLines limits (e ∷ []) b l c → TakesLines limits (e ∷ []) c m d → TakesLines limits (e ∷ []) d n f →
    TakesLines limits (e ∷ e ∷ e ∷ e ∷ []) a (k ++ (l ++ (m ++ n))) f
four-takes limits e a b c d f k l m n one two three four =
    leads-both limits (e ∷ []) (e ∷ e ∷ e ∷ []) a b f k (l ++ (m ++ n)) one (leads-both limits (e ∷ []) (e ∷ e ∷ []) b c f l (m ++ n) two (leads-both limits (e ∷ []) (e ∷ []) c d f m n three four))

pub third-fails : (limits : Limits) (e : Expected) (a b c : Location) (k l : List Line) (answer : ProofAnswer) → TakesLines limits (e ∷ []) a k b → TakesLines limits (e ∷ []) b l c → FailsFrom limits (e ∷ []) c answer → FailsFrom limits (e ∷ e ∷ e ∷ e ∷ []) a answer
third-fails limits e a b c k l answer one two fails =
    fails-behind limits (e ∷ []) (e ∷ e ∷ e ∷ []) a b k answer one (fails-behind limits (e ∷ []) (e ∷ e ∷ []) b c l answer two (fails-longer limits (e ∷ []) (e ∷ []) c answer fails))

pub fourth-fails : (limits : Limits) (e : Expected) (a b c d : Location) (k l m : List Line) (answer : ProofAnswer) → TakesLines limits (e ∷ []) a k b → TakesLines limits (e ∷ []) b l c → TakesLines limits (e ∷ []) c m d → FailsFrom limits (e ∷ []) d answer → FailsFrom limits (e ∷ e ∷ e ∷ e ∷ []) a answer
fourth-fails limits e a b c d k l m answer one two three fails =
    fails-behind limits (e ∷ []) (e ∷ e ∷ e ∷ []) a b k answer one (fails-behind limits (e ∷ []) (e ∷ e ∷ []) b c l answer two (fails-behind limits (e ∷ []) (e ∷ []) c d m answer three fails))

-- four kinds behind their line
pub kinds-read : (limits : Limits) (from to : Location) (line : List ℕ) (r : Result (SlotProof × Location) ProofAnswer) → IsBehind line 0 from to → line_said ExpectSlotProof line ≡ Some kinds_line → fault_of_line limits from.begun ExpectSlotProof (Some kinds_line) ≡ None →
    ArePartsRead lines_after_kinds limits (ExpectKindProof ∷ ExpectKindProof ∷ ExpectKindProof ∷ ExpectKindProof ∷ []) to r → IfOk r (λ x. slot_lines x.0 ≡ kinds_line ∷ lines_after_kinds x.0) → ArePartsRead slot_lines limits (ExpectSlotProof ∷ []) from r
kinds-read limits from to line (Ok x) behind is passes read whole =
    let all = leads-line limits ExpectSlotProof from to x.1 line kinds_line (lines_after_kinds x.0) behind is passes read in
    subst (λ (ls : List Line). TakesLines limits (ExpectSlotProof ∷ []) from ls x.1) (sym whole) all
kinds-read limits from to line (Err answer) behind is passes read whole = fails-below limits ExpectSlotProof from to line kinds_line answer behind is passes read
