use Rattle.std.proofs.Common.{◌≡◌, ◌++◌, refl, ap, sym, subst, ◌∙◌}
use Rattle.json_shapes.proofs.Laws.{first_fault-rest, passed_two, passed_three, passes_at, refused, refused_last, refuses_at}
use Rattle.serde_json.specs.View.{view}
use Rattle.policy_model.specs.declared.request.Request.{Request}
use Rattle.policy_model.specs.Requests.{KeysAreValid}
use Rattle.policy_model.proofs.Laws.{there-of}
use Rattle.request_json.specs.RequestFiles.{context_of, request_checks, request_of, request_with, whole_checks, word_checks_of}
use Rattle.request_json.specs.RequestKeys.{context_checks, required_checks}
use Rattle.request_json.specs.RequestShapes.{keys_of_request}
use Rattle.request_json.proofs.KeysRead.{Keys}
use Rattle.request_json.proofs.Requiring.{faults-of, refuses-of}
use Rattle.request_json.proofs.read.read_file.Goals as goal

pub returns-in_err-check_shape-clause-read : goal.returns-in_err-check_shape-clause-read
unfolding request_checks
returns-in_err-check_shape-clause-read c =
    let d = view c.args.file.now in
    let schema = c.args.schema.now in
    let context = context_checks schema.keys (keys_of_request d) in
    let rest = required_checks schema.keys (context_of schema d) ++ word_checks_of schema.shapes (request_of schema d) in
    refused (request_checks schema d) (whole_checks d) (context ++ rest) (request_of schema d) _ _ refl c.in_err-check_shape.ensures c.from_residual.ensures.1

pub returns-in_err-context-clause-read : goal.returns-in_err-context-clause-read
unfolding request_checks
returns-in_err-context-clause-read c =
    let d = view c.args.file.now in
    let schema = c.args.schema.now in
    let context = context_checks schema.keys (keys_of_request d) in
    let rest = required_checks schema.keys (context_of schema d) ++ word_checks_of schema.shapes (request_of schema d) in
    let same = first_fault-rest (whole_checks d) (context ++ rest) c.in_ok-check_shape.ensures.0 in
    refused (request_checks schema d) context rest (request_of schema d) _ _ same c.in_err-context.ensures.read c.from_residual-in_err-context.ensures.1

pub returns-in_err-require_values-clause-read : goal.returns-in_err-require_values-clause-read
unfolding request_checks
returns-in_err-require_values-clause-read c =
    let d = view c.args.file.now in
    let schema = c.args.schema.now in
    let context = context_checks schema.keys (keys_of_request d) in
    let required = required_checks schema.keys (context_of schema d) in
    let words = word_checks_of schema.shapes (request_of schema d) in
    let same = passed_two (whole_checks d) context (required ++ words) c.in_ok-check_shape.ensures.0 c.in_ok-context.ensures.read.0 in
    let is = refuses_at (λ (given : Keys). required_checks schema.keys given) c.in_ok-context.context (context_of schema d) _ c.in_ok-context.ensures.read.1 (refuses-of schema.keys c.args.required.now c.in_ok-context.context _ c.requires c.in_err-require_values.ensures.read) in
    refused (request_checks schema d) required words (request_of schema d) _ _ same is c.from_residual-in_err-require_values.ensures.1

pub returns-in_err-check_words-clause-read : goal.returns-in_err-check_words-clause-read
unfolding request_checks
returns-in_err-check_words-clause-read c =
    let d = view c.args.file.now in
    let schema = c.args.schema.now in
    let context = context_checks schema.keys (keys_of_request d) in
    let required = required_checks schema.keys (context_of schema d) in
    let words = word_checks_of schema.shapes (request_of schema d) in
    let listed = faults-of schema.keys c.args.required.now c.in_ok-context.context c.requires in
    let there = passes_at (λ (given : Keys). required_checks schema.keys given) c.in_ok-context.context (context_of schema d) c.in_ok-context.ensures.read.1 (listed ∙ c.in_ok-require_values.ensures.read.0) in
    let same = passed_three (whole_checks d) context required words c.in_ok-check_shape.ensures.0 c.in_ok-context.ensures.read.0 there in
    let request_is : c.in_ok-request.request ≡ request_of schema d = c.in_ok-request.ensures ∙ ap (request_with d) c.in_ok-context.ensures.read.1 in
    let is = refuses_at (λ (r : Request). word_checks_of schema.shapes r) c.in_ok-request.request (request_of schema d) _ request_is c.in_err-check_words.ensures.read in
    refused_last (request_checks schema d) words (request_of schema d) _ _ same is c.from_residual-in_err-check_words.ensures.1

pub returns-clause-read : goal.returns-clause-read
unfolding request_checks
returns-clause-read c =
    let d = view c.args.file.now in
    let schema = c.args.schema.now in
    let context = context_checks schema.keys (keys_of_request d) in
    let required = required_checks schema.keys (context_of schema d) in
    let words = word_checks_of schema.shapes (request_of schema d) in
    let listed = faults-of schema.keys c.args.required.now c.in_ok-context.context c.requires in
    let there = passes_at (λ (given : Keys). required_checks schema.keys given) c.in_ok-context.context (context_of schema d) c.in_ok-context.ensures.read.1 (listed ∙ c.in_ok-require_values.ensures.read.0) in
    let same = passed_three (whole_checks d) context required words c.in_ok-check_shape.ensures.0 c.in_ok-context.ensures.read.0 there in
    let request_is : c.in_ok-request.request ≡ request_of schema d = c.in_ok-request.ensures ∙ ap (request_with d) c.in_ok-context.ensures.read.1 in
    (same ∙ passes_at (λ (r : Request). word_checks_of schema.shapes r) c.in_ok-request.request (request_of schema d) request_is c.in_ok-check_words.ensures.read.0, request_is)

pub returns-clause-valid : goal.returns-clause-valid
returns-clause-valid c =
    let same = ap (λ (r : Request). r.context) c.in_ok-request.ensures in
    let keys : KeysAreValid c.args.schema.now.keys c.in_ok-context.context = record { each = c.in_ok-context.ensures.valid; required = (there-of c.in_ok-context.context c.args.schema.now.keys c.args.required.now c.requires).0 c.in_ok-require_values.ensures.there } in
    record { words = c.in_ok-check_words.ensures.valid; keys = subst (KeysAreValid c.args.schema.now.keys) (sym same) keys }
