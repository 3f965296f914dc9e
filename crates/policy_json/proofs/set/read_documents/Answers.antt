use Rattle.std.proofs.Common.{◌≡◌, ℕ, ◌+◌, List, [], ◌∷◌, ◌++◌, All, map, drop, length, ap, sym, subst, ◌∙◌, arith}
use Rattle.std.proofs.lemmas.List.{length_push, length-map}
use Rattle.std.proofs.lemmas.List.Sums.{sum_by-cons}
use Rattle.std.proofs.lemmas.List.Elements.{All-push}
use Rattle.serde_json.specs.Data.{Data}
use Rattle.serde_json.specs.View.{view}
use Rattle.policy_model.specs.Soundness.{DocumentIsSound}
use Rattle.policy_model.specs.declared.set.Document.{Document}
use Rattle.policy_json.specs.Checks.{PolicyCheck}
use Rattle.policy_json.specs.Documents.{document_checks, document_of, has_escapes, statements_in}
use Rattle.policy_json.specs.Sets.{documents_checks, statement_count}
use Rattle.policy_json.specs.Statements.{statement_of}
use Rattle.json_shapes.proofs.Laws.{from_here}
use Rattle.policy_json.proofs.Lists.{Next, Reading, reads-next, refuses-next}
use Rattle.policy_json.proofs.set.read_documents.Goals as goal

-- the next of the documents that are left
next_of : (number before : ℕ) (all : List PolicyCheck) (whole done : List Document) (left : List Data) (d : Data) (ds : List Data) → left ≡ d ∷ ds
    → Reading all (documents_checks number before left) whole done (map document_of left)
    → Next all (document_checks number before d) (documents_checks (number + 1) (before + length (statements_in d)) ds) whole done (document_of d) (map document_of ds)
next_of number before all whole done left d ds is here =
    let split : Reading all (documents_checks number before (d ∷ ds)) whole done (document_of d ∷ map document_of ds) = subst (λ (some : List Data). Reading all (documents_checks number before some) whole done (map document_of some)) is here in
    record { faults = split.faults; values = split.values }

-- as many statements are read as stand in the document
statements_read : (document : Document) (d : Data) → document ≡ document_of d → length document.statements ≡ length (statements_in d)
statements_read document d is = ap (λ (x : Document). length x.statements) is ∙ length-map (statements_in d) (statement_of (has_escapes d))

pub returns-in_err-document-clause-read : goal.returns-in_err-document-clause-read
returns-in_err-document-clause-read c =
    let i = c.loop-value.value-index in
    let left = from_here view c.args.values.now i _ c.loop-value-test.true c.value-item.is in
    let here = next_of _ _ _ _ _ _ _ _ left c.loop-value.invariant.reading in
    refuses-next _ _ here c.in_err-document.ensures.read c.from_residual.ensures.1

pub loop-value-preserved : goal.loop-value-preserved
loop-value-preserved c =
    let i = c.loop-value.value-index in
    let left = from_here view c.args.values.now i _ c.loop-value-test.true c.value-item.is in
    let here = next_of _ _ _ _ _ _ _ _ left c.loop-value.invariant.reading in
    let pushed : c.push.new.self ≡ c.loop-value.documents ++ c.in_ok-document.document ∷ [] = c.in_ok-push.ensures.ok in
    let read = reads-next _ _ here c.in_ok-document.ensures.read.0 c.in_ok-document.ensures.read.1 pushed in
    let stand : c.len.result ≡ length (statements_in (view c.value-item.result)) = c.len.ensures ∙ statements_read _ (view c.value-item.result) c.in_ok-document.ensures.read.1 in
    let split : statement_count (map view (drop i c.args.values.now)) ≡ length (statements_in (view c.value-item.result)) + statement_count (map view (drop (i + 1) c.args.values.now)) = ap statement_count left ∙ sum_by-cons (λ d. length (statements_in d)) (view c.value-item.result) (map view (drop (i + 1) c.args.values.now)) in
    record {
      reading = subst (λ (k : ℕ). Reading (documents_checks (c.args.counts.now.documents + 1) c.args.counts.now.statements (map view c.args.values.now)) (documents_checks (c.loop-value.counts.documents + 1 + 1) (c.loop-value.counts.statements + k) (map view (drop (i + 1) c.args.values.now))) (map document_of (map view c.args.values.now)) c.push.new.self (map document_of (map view (drop (i + 1) c.args.values.now)))) (sym stand) read;
      documents = omega (arith, ap length pushed ∙ length_push c.loop-value.documents c.in_ok-document.document, c.loop-value.invariant.documents);
      statements = omega (arith, stand, split, c.loop-value.invariant.statements);
      sound = subst (All DocumentIsSound) (sym pushed) (All-push DocumentIsSound _ _ c.loop-value.invariant.sound c.in_ok-document.ensures.sound);
    }
