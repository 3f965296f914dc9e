-- Files whose certificate stands at a location.
use Rattle.std.proofs.Common.{◌≡◌, ℕ, ◌+◌, ◌-◌, ◌<◌, ◌≤◌, min, List, [], ◌∷◌, ◌++◌, length, drop, zero, suc, Result, Ok, Err, IfOk, sym, ap, ◌∙◌, arith, inl, inr, ◌⊎◌}
use Rattle.std.proofs.lemmas.List.{length-append}
use Rattle.std.specs.List.{concat}
use Rattle.refute_check.specs.Proofs.{Proof, proof_of}
use Rattle.proof_text.specs.Faults.{fault_after, fault_from, proof_fault, skipped_count}
use Rattle.proof_text.specs.LineForms.{ExpectVersion, bytes_after, lines_before, lines_of}
use Rattle.proof_text.specs.Lines.{verdict_line}
use Rattle.proof_text.specs.Reads.{HasFewNodes, IsProofRead, IsProofReadBehind}
use Rattle.proof_text.specs.Spelling.{IsCertificateOf, certificate_text, node_line_numbers}
use Rattle.proof_text.specs.Steps.{HasLineRoom, IsBehind, IsFirstLocation, IsLocationBehind, IsProofReadAt}
use Rattle.proof_text.specs.declared.fault.ProofAnswer.{ProofAnswer}
use Rattle.proof_text.specs.declared.fault.ProofAnswer.TheVariants.{Refused, NoMemory}
use Rattle.proof_text.specs.declared.limits.Limits.{Limits}
use Rattle.proof_text.specs.declared.location.Location.{Location}
use Rattle.proof_text.specs.declared.read.ReadProof.{ReadProof}
use Rattle.proof_text.proofs.Whole.{concat-lines}

-- ---- the location of a certificate

pub fault-at : (limits : Limits) (front : ℕ) (bytes : List ℕ) (start : Location) → IsLocationBehind front bytes start →
    fault_after limits front bytes ≡ fault_from limits (ExpectVersion ∷ []) start.number start.begun (lines_of start.bytes.now)
unfolding fault_after
fault-at limits front bytes start at =
    ap (λ n. fault_from limits (ExpectVersion ∷ []) n 0 (drop front (lines_of bytes))) (sym at.number) ∙
    ap (λ k. fault_from limits (ExpectVersion ∷ []) start.number k (drop front (lines_of bytes))) (sym at.begun) ∙
    ap (fault_from limits (ExpectVersion ∷ []) start.number start.begun) (sym at.lines)

bytes-at : (front : ℕ) (bytes : List ℕ) (start : Location) → IsLocationBehind front bytes start → bytes_after front bytes ≡ start.bytes.now
bytes-at front bytes start at = ap concat (sym at.lines) ∙ concat-lines start.bytes.now

starts-at : (front n : ℕ) (p : Proof) → n ≡ front + 1 → node_line_numbers (n + 1) p ≡ node_line_numbers (front + 2) p
starts-at front n p is = let more : n + 1 ≡ front + 2 = omega arith in ap (λ m. node_line_numbers m p) more

pub behind-read : (limits : Limits) (front : ℕ) (bytes : List ℕ) (start : Location) (r : Result ReadProof ProofAnswer) → IsLocationBehind front bytes start → IsProofReadAt limits start r → IsProofReadBehind limits front bytes r
behind-read limits front bytes start (Ok read) at is = record {
  faultless = fault-at limits front bytes start at ∙ is.faultless;
  spelled = bytes-at front bytes start at ∙ is.spelled;
  small = is.small;
  lines = is.lines ∙ starts-at front start.number (proof_of read.refutation.value) at.number;
}
behind-read limits front bytes start (Err (Refused fault)) at is = fault-at limits front bytes start at ∙ is
behind-read limits front bytes start (Err NoMemory) at is = tt

-- ---- behind the answer of a comparison

first-behind : (bytes : List ℕ) (start : Location) → IsFirstLocation bytes start → IsLocationBehind (skipped_count (lines_of bytes)) bytes start
first-behind bytes start first = record { number = first.number; begun = first.begun; lines = first.lines; room = first.room }

fault-first : (limits : Limits) (bytes : List ℕ) (start : Location) → IsFirstLocation bytes start →
    proof_fault limits bytes ≡ fault_from limits (ExpectVersion ∷ []) start.number start.begun (lines_of start.bytes.now)
unfolding proof_fault
fault-first limits bytes start first = fault-at limits (skipped_count (lines_of bytes)) bytes start (first-behind bytes start first)

first-spelled : (version : ℕ) (bytes : List ℕ) (start : Location) (p : Proof) → (bytes ≡ start.bytes.now) ⊎ (bytes ≡ verdict_line ++ start.bytes.now) → start.bytes.now ≡ certificate_text version p → IsCertificateOf version bytes p
first-spelled version bytes start p (inl same) text = inl (same ∙ text)
first-spelled version bytes start p (inr behind) text = inr (behind ∙ ap (λ t. verdict_line ++ t) text)

pub first-read : (limits : Limits) (bytes : List ℕ) (start : Location) (r : Result ReadProof ProofAnswer) → IsFirstLocation bytes start → IsProofReadAt limits start r → IsProofRead limits bytes r
first-read limits bytes start (Ok read) first is = record {
  faultless = fault-first limits bytes start first ∙ is.faultless;
  spelled = first-spelled limits.version bytes start (proof_of read.refutation.value) first.whole is.spelled;
  small = is.small;
  lines = is.lines ∙ starts-at (skipped_count (lines_of bytes)) start.number (proof_of read.refutation.value) first.number;
}
first-read limits bytes start (Err (Refused fault)) first is = fault-first limits bytes start first ∙ is
first-read limits bytes start (Err NoMemory) first is = tt

-- ---- how many nodes

more-bytes : (some all : List ℕ) (r : Result ReadProof ProofAnswer) → length some ≤ length all → IfOk r (HasFewNodes some) → IfOk r (HasFewNodes all)
more-bytes some all (Ok read) within few = (few.0, omega (arith, few.1))
more-bytes some all (Err answer) within few = tt

first-within : (bytes : List ℕ) (start : Location) → (bytes ≡ start.bytes.now) ⊎ (bytes ≡ verdict_line ++ start.bytes.now) → length start.bytes.now ≤ length bytes
first-within bytes start (inl same) = omega (arith, ap length same)
first-within bytes start (inr behind) = omega (arith, ap length behind, length-append verdict_line start.bytes.now)

pub first-nodes : (bytes : List ℕ) (start : Location) (r : Result ReadProof ProofAnswer) → IsFirstLocation bytes start → IfOk r (HasFewNodes start.bytes.now) → IfOk r (HasFewNodes bytes)
first-nodes bytes start r first few = more-bytes start.bytes.now bytes r (first-within bytes start first.whole) few

dropped-within : (k : ℕ) (ls : List (List ℕ)) → length (concat (drop k ls)) ≤ length (concat ls)
dropped-within zero ls = omega arith
dropped-within (suc k) [] = omega arith
dropped-within (suc k) (l ∷ ls) = omega (arith, dropped-within k ls, length-append l (concat ls))

pub behind-nodes : (front : ℕ) (bytes : List ℕ) (start : Location) (r : Result ReadProof ProofAnswer) → IsLocationBehind front bytes start → IfOk r (HasFewNodes start.bytes.now) → IfOk r (HasFewNodes bytes)
behind-nodes front bytes start r at few =
    more-bytes start.bytes.now bytes r (omega (arith, ap length (bytes-at front bytes start at), ap length (concat-lines bytes), dropped-within front (lines_of bytes))) few

-- ---- line by line

-- the location of the line of this number, where there is such a line, or of the end behind the last
pub record IsAtLine (bytes : List ℕ) (number : ℕ) (at : Location) : Type 0 where
  pub positive : 1 ≤ number
  pub numbered : at.number ≡ number
  pub begun : at.begun ≡ 0
  pub lines : lines_of at.bytes.now ≡ drop (number - 1) (lines_of bytes)
  pub within : number ≤ length (lines_of bytes) + 1
  pub room : HasLineRoom at

-- a line that stands there
at-some : (lines : List (List ℕ)) (k : ℕ) (line : List ℕ) (rest : List (List ℕ)) → drop k lines ≡ line ∷ rest → (k < length lines) × (rest ≡ drop (suc k) lines)
at-some [] zero line rest e = absurd (cc)
at-some [] (suc k) line rest e = absurd (cc)
at-some (l ∷ lines) zero line rest e = (omega arith, cc)
at-some (l ∷ lines) (suc k) line rest e = let more = at-some lines k line rest e in (omega (arith, more.0), more.1)

pub at-next : (bytes line : List ℕ) (number : ℕ) (at behind : Location) → IsAtLine bytes number at → IsBehind line 0 at behind → IsAtLine bytes (number + 1) behind
at-next bytes line number at behind before next =
    let some = before.positive in
    let there = at-some (lines_of bytes) (number - 1) line (lines_of behind.bytes.now) (sym before.lines ∙ next.cut) in
    let same : suc (number - 1) ≡ (number + 1) - 1 = omega arith in
    record {
      positive = omega arith;
      numbered = omega (arith, next.number, before.numbered);
      begun = omega (arith, next.begun, before.begun);
      lines = there.1 ∙ ap (λ (n : ℕ). drop n (lines_of bytes)) same;
      within = omega (arith, there.0);
      room = next.room;
    }

min-large : (a b : ℕ) → b ≤ a → min a b ≡ b
min-large a b h = omega arith

drop-none : (lines : List (List ℕ)) (k : ℕ) → drop k lines ≡ [] → length lines ≤ k
drop-none [] k e = omega arith
drop-none (l ∷ lines) zero e = absurd (cc)
drop-none (l ∷ lines) (suc k) e = omega (arith, drop-none lines k e)

located : (bytes : List ℕ) (number front : ℕ) (at : Location) → IsAtLine bytes number at → front ≡ number - 1 → IsLocationBehind front bytes at
located bytes number front at is same =
    let some = is.positive in
    record {
      number = omega (arith, is.numbered, same);
      begun = is.begun;
      lines = is.lines ∙ ap (λ (n : ℕ). drop n (lines_of bytes)) (sym same);
      room = is.room;
    }

pub at-end : (bytes : List ℕ) (line number : ℕ) (at : Location) → IsAtLine bytes number at → number < line → lines_of at.bytes.now ≡ [] → IsLocationBehind (lines_before line bytes) bytes at
at-end bytes line number at is before none =
    let few = drop-none (lines_of bytes) (number - 1) (sym is.lines ∙ none) in
    located bytes number (lines_before line bytes) at is (min-large (line - 1) (length (lines_of bytes)) (omega (arith, few)) ∙ omega (arith, few, is.within, is.positive))
