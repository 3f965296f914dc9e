use Rattle.std.proofs.Common.{◌≡◌, ◌++◌, ℕ, List, drop, ◌+◌, ap, ◌∙◌, arith}
use Rattle.policy_model.specs.declared.set.Statement.{Statement}
use Rattle.policy_model.specs.StatementNames.{named_documents, named_statements}
use Rattle.request_schema.specs.Uses.{uses_found, uses_of_statements}
use Rattle.request_schema.proofs.Finding.{all-found, documents-left, no-documents, part-found}
use Rattle.request_schema.proofs.found.add_documents.Goals as goal

pub loop-i-init : goal.loop-i-init
loop-i-init c =
    let e : c.args.from + 0 ≡ c.args.from = omega arith in
    ap (λ (k : ℕ). uses_found c.args.uses.now.items ++ uses_of_statements c.args.second (named_documents k c.args.documents.now)) e

pub loop-i-preserved : goal.loop-i-preserved
loop-i-preserved c =
    let x = c.index-documents-i.result in
    let left = documents-left c.args.second (c.args.from + c.loop-i.i) c.loop-i.i c.args.documents.now x c.loop-i-test.true c.index-documents-i.is in
    let taken = ap (λ (ss : List Statement). uses_of_statements c.args.second (named_statements (c.args.from + c.loop-i.i) 1 ss)) c.as_slice.ensures in
    let grown = c.in_ok-add_statements.ensures ∙ ap (λ part. uses_found c.loop-i.uses.items ++ part) taken in
    let e : c.args.from + (c.loop-i.i + 1) ≡ c.args.from + c.loop-i.i + 1 = omega arith in
    let same = ap (λ (k : ℕ). uses_found c.add_statements.new.uses.items ++ uses_of_statements c.args.second (named_documents k (drop (c.loop-i.i + 1) c.args.documents.now))) e in
    same ∙ part-found _ _ (uses_of_statements c.args.second (named_statements (c.args.from + c.loop-i.i) 1 x.statements)) _ _ _ grown left c.loop-i.invariant

pub returns : goal.returns
returns c = all-found _ _ _ (no-documents c.args.second (c.args.from + c.loop-i.i) c.loop-i.i c.args.documents.now c.loop-i-test.false) c.loop-i.invariant
