use Rattle.std.proofs.Common.{◌≡◌, ◌∙◌, ℕ, List, [], ◌∷◌, Bool, true, Option, Result, Ok, Err, OnOk, refl, ap, subst, codes}
use Rattle.wildcard_lang.specs.declared.piece.Piece.{Piece}
use Rattle.json_shapes.specs.Checks.{IsReadOf}
use Rattle.json_shapes.proofs.Laws.{first_fault-rest, passed_two, passes_one, passes_at, continued, refused, refuses_at}
use Rattle.policy_model.specs.Requests.{IsWord, shape_of}
use Rattle.request_json.specs.RequestChecks.{request_check, RequestCheck, RequestAnswer}
use Rattle.request_json.specs.RequestFiles.{is_word, word_checks_of}
use Rattle.request_json.specs.declared.fault.RequestCode.TheVariants.{Q4NotValid}
use Rattle.request_json.proofs.words.check_words.Goals as goal

-- the check of a word at its name
abbrev at_name : List ℕ → Bool → List RequestCheck
at_name name passes = request_check passes Q4NotValid name ∷ []

-- what holds where the last check is passed
where_passed : (W : Type 0) (name : List ℕ) (passes : Bool) (answer : Result (Unit {0}) RequestAnswer) → IsReadOf (at_name name passes) tt answer → (passes ≡ true → W) → OnOk answer W
where_passed W name passes (Ok x) is holds = holds (passes_one (request_check passes Q4NotValid name) is.0)
where_passed W name passes (Err e) is holds = tt

pub returns-in_err-require-clause-read : goal.returns-in_err-require-clause-read
returns-in_err-require-clause-read c =
    let shapes = c.args.shapes.now in
    let r = c.args.request.now in
    let id = is_word (shape_of shapes r.kind) r.id in
    let is_id = c.is_word-id.ensures.value ∙ ap (λ (s : Option (List Piece)). is_word s r.id) c.shape_of.ensures in
    let rest = request_check (is_word shapes.action r.action) Q4NotValid (codes "Action") ∷ at_name (codes "Resource") (is_word shapes.resource r.resource) in
    let is = refuses_at (at_name (codes "Principal")) c.is_word-id.result id _ is_id c.in_err-require.ensures in
    refused (word_checks_of shapes r) (at_name (codes "Principal") id) rest tt _ _ refl is c.from_residual.ensures.1

pub returns-in_err-require-2-clause-read : goal.returns-in_err-require-2-clause-read
returns-in_err-require-2-clause-read c =
    let shapes = c.args.shapes.now in
    let r = c.args.request.now in
    let id = is_word (shape_of shapes r.kind) r.id in
    let is_id = c.is_word-id.ensures.value ∙ ap (λ (s : Option (List Piece)). is_word s r.id) c.shape_of.ensures in
    let action = is_word shapes.action r.action in
    let rest = at_name (codes "Resource") (is_word shapes.resource r.resource) in
    let passed = passes_at (at_name (codes "Principal")) c.is_word-id.result id is_id c.in_ok-require.ensures.0 in
    let same = first_fault-rest (at_name (codes "Principal") id) (request_check action Q4NotValid (codes "Action") ∷ rest) passed in
    let is = refuses_at (at_name (codes "Action")) c.is_word-action.result action _ c.is_word-action.ensures.value c.in_err-require-2.ensures in
    refused (word_checks_of shapes r) (at_name (codes "Action") action) rest tt _ _ same is c.from_residual-in_err-require-2.ensures.1

pub returns-clause-read : goal.returns-clause-read
returns-clause-read c =
    let shapes = c.args.shapes.now in
    let r = c.args.request.now in
    let id = is_word (shape_of shapes r.kind) r.id in
    let is_id = c.is_word-id.ensures.value ∙ ap (λ (s : Option (List Piece)). is_word s r.id) c.shape_of.ensures in
    let action = is_word shapes.action r.action in
    let resource = is_word shapes.resource r.resource in
    let passed = passes_at (at_name (codes "Principal")) c.is_word-id.result id is_id c.in_ok-require.ensures.0 in
    let passed_too = passes_at (at_name (codes "Action")) c.is_word-action.result action c.is_word-action.ensures.value c.in_ok-require-2.ensures.0 in
    let same = passed_two (at_name (codes "Principal") id) (at_name (codes "Action") action) (at_name (codes "Resource") resource) passed passed_too in
    continued (word_checks_of shapes r) (at_name (codes "Resource") resource) tt _ same (subst (λ (p : Bool). IsReadOf (at_name (codes "Resource") p) tt c.require-3.result) c.is_word-resource.ensures.value c.require-3.ensures)

pub returns-clause-valid : goal.returns-clause-valid
returns-clause-valid c =
    let r = c.args.request.now in
    let id = c.is_word-id.ensures.word (passes_one (request_check c.is_word-id.result Q4NotValid (codes "Principal")) c.in_ok-require.ensures.0) in
    let action = c.is_word-action.ensures.word (passes_one (request_check c.is_word-action.result Q4NotValid (codes "Action")) c.in_ok-require-2.ensures.0) in
    where_passed _ (codes "Resource") c.is_word-resource.result _ c.require-3.ensures (λ passes. record {
      id = subst (λ (s : Option (List Piece)). IsWord s r.id) c.shape_of.ensures id;
      action = action;
      resource = c.is_word-resource.ensures.word passes;
    })
