use Rattle.std.proofs.Common.{ap, sym, subst, ◌∙◌, option_map, string_bytes, Err, List, ℕ}
use Rattle.serde_json.specs.View.{view}
use Rattle.policy_json.specs.Operands.{IsPatternUnder}
use Rattle.policy_json.proofs.Patterns.{refused_text}
use Rattle.policy_json.proofs.operands.read_text.Goals as goal

pub returns : goal.returns
returns c =
    let at = c.args.at in
    let is = sym c.in_ok-text.ensures ∙ ap (option_map string_bytes) c.in-Some.is in
    let read = subst (λ (t : List ℕ). IsPatternUnder at.operator.base at.escapes t (Err c.in-Err.fault)) c.as_str.ensures.value c.in-Err.ensures in
    refused_text at (view c.args.value.now) (string_bytes c.in-Some.text) c.in-Err.fault _ c.requires is read c.refused_pattern.ensures
