use Rattle.std.proofs.Common.{◌≡◌, ℕ, ◌+◌, Bool, List, map, None, refl, ap, sym, ◌∙◌}
use Rattle.serde_json.specs.Data.{Data}
use Rattle.serde_json.specs.View.{view}
use Rattle.policy_model.specs.declared.set.Document.{Document}
use Rattle.policy_model.specs.declared.set.Statement.{Statement}
use Rattle.json_shapes.specs.Checks.{first_fault}
use Rattle.policy_json.specs.Documents.{document_checks, document_of, has_escapes, head_checks, numbered_checks, statements_in}
use Rattle.policy_json.specs.Statements.{statement_of}
use Rattle.json_shapes.proofs.Laws.{first_fault-rest, refused, refused_last}
use Rattle.policy_json.proofs.document.read_document.Goals as goal

-- behind its head, the document has the checks of its statements
behind_head : (number before : ℕ) (escapes : Bool) (ds : List Data) (d : Data) → first_fault (head_checks (record { document = number; statement = 0 }) d) ≡ None → escapes ≡ has_escapes d → ds ≡ statements_in d → first_fault (document_checks number before d) ≡ first_fault (numbered_checks number 1 (before + 1) escapes ds)
behind_head number before escapes ds d passed same_escapes same_statements =
    first_fault-rest (head_checks (record { document = number; statement = 0 }) d) (numbered_checks number 1 (before + 1) (has_escapes d) (statements_in d)) passed
    ∙ ap (λ (b : Bool). first_fault (numbered_checks number 1 (before + 1) b (statements_in d))) (sym same_escapes)
    ∙ ap (λ (some : List Data). first_fault (numbered_checks number 1 (before + 1) escapes some)) (sym same_statements)

-- its statements are what the document stands for
stands_for : (escapes : Bool) (ds : List Data) (statements : List Statement) (d : Data) → statements ≡ map (statement_of escapes) ds → escapes ≡ has_escapes d → ds ≡ statements_in d → record { statements = statements } ≡ document_of d
stands_for escapes ds statements d is same_escapes same_statements =
    ap (λ (some : List Statement). let document : Document = record { statements = some } in document) (is ∙ ap (λ (b : Bool). map (statement_of b) ds) same_escapes ∙ ap (map (statement_of (has_escapes d))) same_statements)

pub returns-in_err-check_head-clause-read : goal.returns-in_err-check_head-clause-read
returns-in_err-check_head-clause-read c =
    let d = view c.args.document.now in
    let n = c.args.number in
    refused (document_checks n c.args.before d) (head_checks (record { document = n; statement = 0 }) d) (numbered_checks n 1 (c.args.before + 1) (has_escapes d) (statements_in d)) (document_of d) _ _ refl c.in_err-check_head.ensures c.from_residual.ensures.1

pub returns-in_err-statements-clause-read : goal.returns-in_err-statements-clause-read
returns-in_err-statements-clause-read c =
    let d = view c.args.document.now in
    let n = c.args.number in
    let same = behind_head n c.args.before _ _ d c.in_ok-check_head.ensures.0 c.has_escapes-escapes.ensures c.statements_in-values.ensures in
    let rest = numbered_checks n 1 (c.args.before + 1) c.has_escapes-escapes.result (map view c.statements_in-values.result.now) in
    refused_last (document_checks n c.args.before d) rest (document_of d) _ _ same c.in_err-statements.ensures.read c.from_residual-in_err-statements.ensures.1

pub returns-clause-read : goal.returns-clause-read
returns-clause-read c =
    let d = view c.args.document.now in
    let n = c.args.number in
    let same = behind_head n c.args.before _ _ d c.in_ok-check_head.ensures.0 c.has_escapes-escapes.ensures c.statements_in-values.ensures in
    (same ∙ c.in_ok-statements.ensures.read.0, stands_for _ _ _ d c.in_ok-statements.ensures.read.1 c.has_escapes-escapes.ensures c.statements_in-values.ensures)
