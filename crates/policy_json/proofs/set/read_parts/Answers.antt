use Rattle.std.proofs.Common.{◌≡◌, ℕ, ◌+◌, List, ◌++◌, length, map, None, refl, ap, ◌∙◌, arith}
use Rattle.std.proofs.lemmas.List.{length-map}
use Rattle.std.specs.List.{flat_map}
use Rattle.serde_json.specs.Data.{Data}
use Rattle.serde_json.specs.View.{view}
use Rattle.json_shapes.specs.Checks.{first_fault}
use Rattle.policy_json.specs.Documents.{document_of}
use Rattle.json_shapes.specs.Json.{values_in}
use Rattle.policy_json.specs.Sets.{documents_checks, set_with, statement_count}
use Rattle.json_shapes.proofs.Laws.{first_fault-rest, refused, refused_last}
use Rattle.policy_json.proofs.Numbering.{documents_checks-append}
use Rattle.policy_json.proofs.set.read_parts.Goals as goal

-- behind the grants the guards are read, with the numbers that follow
behind_grants : (grants guarded : List Data) (number before : ℕ) → number ≡ 1 + length grants → before ≡ 0 + statement_count grants → first_fault (documents_checks 1 0 grants) ≡ None → first_fault (documents_checks 1 0 (grants ++ guarded)) ≡ first_fault (documents_checks number before guarded)
behind_grants grants guarded number before same_number same_before passed = ap first_fault (documents_checks-append 1 0 number before grants guarded same_number same_before) ∙ first_fault-rest (documents_checks 1 0 grants) (documents_checks number before guarded) passed

pub returns-in_err-grants-clause-read : goal.returns-in_err-grants-clause-read
returns-in_err-grants-clause-read c =
    let grants = map view c.args.grants.now in
    let guards = map view c.args.guards.now in
    let same = ap first_fault (documents_checks-append 1 0 _ _ grants (flat_map values_in guards) refl refl) in
    refused (documents_checks 1 0 (grants ++ flat_map values_in guards)) (documents_checks 1 0 grants) _ (set_with grants guards) _ _ same c.in_err-grants.ensures.read c.from_residual.ensures.1

pub returns-in_err-guards-clause-read : goal.returns-in_err-guards-clause-read
returns-in_err-guards-clause-read c =
    let grants = map view c.args.grants.now in
    let guards = map view c.args.guards.now in
    let counts = c.read_documents.new.counts in
    let count : length c.in_ok-grants.grants ≡ length grants = ap length c.in_ok-grants.ensures.read.1 ∙ length-map grants document_of in
    let number : counts.documents + 1 ≡ 1 + length grants = omega (arith, count, c.in_ok-grants.ensures.documents) in
    let same = behind_grants grants (flat_map values_in guards) _ _ number c.in_ok-grants.ensures.statements c.in_ok-grants.ensures.read.0 in
    refused_last (documents_checks 1 0 (grants ++ flat_map values_in guards)) (documents_checks (counts.documents + 1) counts.statements (flat_map values_in guards)) (set_with grants guards) _ _ same c.in_err-guards.ensures.read c.from_residual-in_err-guards.ensures.1

pub returns-clause-read : goal.returns-clause-read
returns-clause-read c =
    let grants = map view c.args.grants.now in
    let guards = map view c.args.guards.now in
    let count : length c.in_ok-grants.grants ≡ length grants = ap length c.in_ok-grants.ensures.read.1 ∙ length-map grants document_of in
    let number : c.read_documents.new.counts.documents + 1 ≡ 1 + length grants = omega (arith, count, c.in_ok-grants.ensures.documents) in
    let same = behind_grants grants (flat_map values_in guards) _ _ number c.in_ok-grants.ensures.statements c.in_ok-grants.ensures.read.0 in
    (same ∙ c.in_ok-guards.ensures.read.0, cc (c.in_ok-grants.ensures.read.1, c.in_ok-guards.ensures.read.1))
