-- The file of a refutation that closes a query has no fault.
use Rattle.std.proofs.Common.{◌≡◌, ℕ, ◌+◌, ◌<◌, ◌≤◌, List, [], ◌∷◌, ◌++◌, length, map, flat_map, drop, codes, append-nil, None, refl, sym, ap, ◌∙◌, arith, subst, inl, inr, eq-eqb}
use Rattle.std.specs.List.{join_with_byte}
use Rattle.std.proofs.lemmas.List.{length-append}
use Rattle.std.proofs.lemmas.List.Elements.{All-nil, All-cons, All-head, All-tail, All-weaker}
use Rattle.policy_model.specs.declared.test.Test.{Test}
use Rattle.slot_theory.specs.Possible.{PathInRange}
use Rattle.formula_tree.specs.Trees.{Tree}
use Rattle.policy_model.specs.declared.schema.Schema.{Schema}
use Rattle.refute_check.specs.Closing.{Closes, at_first}
use Rattle.refute_check.specs.Proofs.{Proof, depth}
use Rattle.proof_text.specs.declared.limits.Limits.{Limits}
use Rattle.proof_text.specs.declared.limits.TheConstants.{MOST_NESTING, MOST_NUMBER, MOST_PROOF_BYTES}
use Rattle.proof_text.specs.Faults.{fault_after, proof_fault, skipped_count}
use Rattle.proof_text.specs.Laws.{ClosingProofsAreSmall, ClosingProofsHaveNoFault, ClosingProofsHaveNoFaultBehind, HasSmallNumbers, limits_of}
use Rattle.proof_text.specs.LineForms.{ExpectNode, ExpectVersion, ended_lines, lines_of}
use Rattle.proof_text.specs.Lines.{Line, certificate_line, line_parts, line_text, verdict_line}
use Rattle.proof_text.specs.Spelling.{IsCertificateOf, node_lines, proof_lines, certificate_text}
use Rattle.proof_text.proofs.Cutting.{IsFree, line-again, lines-again, lines-few}
use Rattle.proof_text.proofs.Decimals.{word-free}
use Rattle.proof_text.proofs.Said.{at_version, content-free}
use Rattle.proof_text.proofs.Small.{AllSmall, node-small}
use Rattle.proof_text.proofs.Passing.{Pass, line-passes}
use Rattle.proof_text.proofs.Passes.{Stands, before_lines, node-passes}

-- the lines of a certificate are those that were written
pub spelled-lines : (ls : List Line) → AllSmall ls → lines_of (flat_map line_text ls) ≡ map line_text ls
spelled-lines ls small =
    ap lines_of (sym (append-nil (flat_map line_text ls))) ∙
    lines-again (λ l. join_with_byte 32 (line_parts l)) ls [] (All-weaker HasSmallNumbers (λ l. IsFree 10 (join_with_byte 32 (line_parts l))) content-free ls small) ∙
    append-nil (map line_text ls)

spelled-few : (ls : List Line) → length ls ≤ length (flat_map line_text ls)
spelled-few ls = lines-few (λ l. join_with_byte 32 (line_parts l)) ls

-- no answer of a comparison stands before them
none-skipped : (version : ℕ) (ls : List Line) → skipped_count (map line_text (certificate_line version ∷ ls)) ≡ 0
none-skipped version ls = refl

none-behind : (limits : Limits) (bytes : List ℕ) (lines : List (List ℕ)) (k : ℕ) → drop k (lines_of bytes) ≡ lines → Pass limits (ExpectVersion ∷ []) 0 lines → fault_after limits k bytes ≡ None
unfolding fault_after
none-behind limits bytes lines k are pass = rw are (pass (k + 1))

no-fault : (limits : Limits) (bytes : List ℕ) (lines : List (List ℕ)) (k : ℕ) → lines_of bytes ≡ lines → skipped_count lines ≡ k → Pass limits (ExpectVersion ∷ []) 0 (drop k lines) → proof_fault limits bytes ≡ None
unfolding proof_fault
no-fault limits bytes lines k are skips pass =
    ap (λ n. fault_after limits n bytes) (ap skipped_count are ∙ skips) ∙ none-behind limits bytes (drop k lines) k (ap (drop k) are) pass

-- with the answer of a comparison before
answered-lines : (bytes : List ℕ) → lines_of (verdict_line ++ bytes) ≡ verdict_line ∷ lines_of bytes
answered-lines bytes = line-again (codes "not more permissive") bytes (word-free 10 (codes "not more permissive") refl)

empty-range : (tests : List Test) → PathInRange tests []
empty-range tests n b answer = absurd (cc)

first-stands : Stands at_first []
first-stands = record { ended = All-nil _; around = All-nil (λ n. n < 0) }

whole-passes : (tests : List Test) (version : ℕ) (p : Proof) → HasSmallNumbers (certificate_line version) → Pass (limits_of tests version) (ExpectNode 0 [] ∷ []) 0 (map line_text (node_lines p)) →
    Pass (limits_of tests version) (ExpectVersion ∷ []) 0 (map line_text (proof_lines version p))
whole-passes tests version p small later =
    line-passes (limits_of tests version) [] ExpectVersion 0 (certificate_line version) (map line_text (node_lines p)) at_version small
    (record { ordered = refl; version = eq-eqb version version refl; tests = refl; shallow = refl }) later

spelled-short : (version : ℕ) (p : Proof) (bytes : List ℕ) → IsCertificateOf version bytes p → length bytes ≤ MOST_PROOF_BYTES → length (certificate_text version p) ≤ MOST_PROOF_BYTES
spelled-short version p bytes (inl is) few = omega (arith, ap length is)
spelled-short version p bytes (inr is) few =
    let sizes : length bytes ≡ length verdict_line + length (certificate_text version p) = ap length is ∙ length-append verdict_line (certificate_text version p) in
    omega arith

pub closing_proofs_are_small : ClosingProofsAreSmall
closing_proofs_are_small schema tests tree version proof bytes closes small tests_few version_small certificate few =
    let size : length (certificate_text version proof) ≤ MOST_PROOF_BYTES = spelled-short version proof bytes certificate few in
    let lines_few : length (node_lines proof) ≤ MOST_NUMBER = omega (arith, spelled-few (proof_lines version proof)) in
    let nodes : AllSmall (node_lines proof) = node-small schema tests tree at_first proof [] tests_few closes (empty-range tests) small lines_few in
    let first : HasSmallNumbers (certificate_line version) = All-cons (λ m. m ≤ MOST_NUMBER) version [] version_small (All-nil (λ m. m ≤ MOST_NUMBER)) in
    All-cons HasSmallNumbers (certificate_line version) (node_lines proof) first nodes

-- where the certificate's lines stand
closing-pass : (schema : Schema) (tests : List Test) (tree : Tree) (version : ℕ) (proof : Proof) → Closes schema tests tree at_first proof [] → depth proof ≤ MOST_NESTING → AllSmall (proof_lines version proof) →
    Pass (limits_of tests version) (ExpectVersion ∷ []) 0 (map line_text (proof_lines version proof))
closing-pass schema tests tree version proof closes nests all =
    let limits = limits_of tests version in
    let first : HasSmallNumbers (certificate_line version) = All-head HasSmallNumbers (certificate_line version) (node_lines proof) all in
    let nodes : AllSmall (node_lines proof) = All-tail HasSmallNumbers (certificate_line version) (node_lines proof) all in
    let node : Pass limits (ExpectNode 0 [] ∷ []) 0 (before_lines (node_lines proof) []) =
    node-passes schema tests tree version at_first proof [] 0 [] [] [] closes (empty-range tests) first-stands (omega arith) nodes (λ n. refl) in
    whole-passes tests version proof first (subst (Pass limits (ExpectNode 0 [] ∷ []) 0) (append-nil (map line_text (node_lines proof))) node)

pub closing_proofs_have_no_fault : ClosingProofsHaveNoFault
closing_proofs_have_no_fault schema tests tree version proof bytes closes nests small tests_few version_small certificate few =
    let limits = limits_of tests version in
    let all : AllSmall (proof_lines version proof) = closing_proofs_are_small schema tests tree version proof bytes closes small tests_few version_small certificate few in
    let pass = closing-pass schema tests tree version proof closes nests all in
    let lines = spelled-lines (proof_lines version proof) all in
    elim certificate [
      | inl is ↦ no-fault limits bytes (map line_text (proof_lines version proof)) 0 (ap lines_of is ∙ lines) (none-skipped version (node_lines proof)) pass
      | inr is ↦ no-fault limits bytes (verdict_line ∷ map line_text (proof_lines version proof)) 1 (ap lines_of is ∙ answered-lines (certificate_text version proof) ∙ ap (λ ls. verdict_line ∷ ls) lines) refl pass
    ]

-- ---- behind other lines

pub drop-ended : (contents ls : List (List ℕ)) → drop (length contents) (map (λ content. content ++ 10 ∷ []) contents ++ ls) ≡ ls
drop-ended [] ls = refl
drop-ended (content ∷ contents) ls = drop-ended contents ls

pub closing_proofs_have_no_fault_behind : ClosingProofsHaveNoFaultBehind
closing_proofs_have_no_fault_behind schema tests tree version proof contents closes nests small tests_few version_small unbroken few =
    let text = certificate_text version proof in
    let short : length text ≤ MOST_PROOF_BYTES = omega (arith, few, length-append (ended_lines contents) text) in
    let all : AllSmall (proof_lines version proof) = closing_proofs_are_small schema tests tree version proof text closes small tests_few version_small (inl refl) short in
    let behind : drop (length contents) (lines_of (ended_lines contents ++ text)) ≡ map line_text (proof_lines version proof) =
    ap (drop (length contents)) (lines-again (λ (content : List ℕ). content) contents text unbroken) ∙ drop-ended contents (lines_of text) ∙ spelled-lines (proof_lines version proof) all in
    none-behind (limits_of tests version) (ended_lines contents ++ text) (map line_text (proof_lines version proof)) (length contents) behind (closing-pass schema tests tree version proof closes nests all)
