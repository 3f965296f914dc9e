use Rattle.std.proofs.Common.{◌≡◌, false, ℕ, List, [], ◌∷◌, ◌++◌, string_bytes, ap, ◌∙◌, arith}
use Rattle.serde_json.specs.View.{view}
use Rattle.serde_json.specs.Written.{compact_text, has_float}
use Rattle.findings.specs.Summaries.{findings_of}
use Rattle.policy_emit.specs.Emitted.{policy_data}
use Rattle.policy_emit.proofs.Flat.{policy-no_float}
use Rattle.policy_emit.proofs.policy.document_text.Goals as goal

pub returns-clause-text : goal.returns-clause-text
returns-clause-text c =
    let whole = policy_data c.args.schema.now c.args.strata.now.dimensions (findings_of c.args.summary.now) in
    let none : has_float (view c.in_ok-document.document) ≡ false = ap has_float c.in_ok-document.ensures.data ∙ policy-no_float c.args.schema.now c.args.strata.now.dimensions (findings_of c.args.summary.now) in
    let printed : string_bytes c.in_ok-text.text ≡ compact_text whole = c.in_ok-text.ensures.text none ∙ ap compact_text c.in_ok-document.ensures.data in
    let pushed : string_bytes c.push.new.self ≡ string_bytes c.in_ok-text.text ++ 10 ∷ [] = c.in_ok-push.ensures.bytes ∙ ap (λ (end : List ℕ). string_bytes c.in_ok-text.text ++ end) (c.push.ensures.ascii (omega arith)) in
    pushed ∙ ap (λ (t : List ℕ). t ++ 10 ∷ []) printed
