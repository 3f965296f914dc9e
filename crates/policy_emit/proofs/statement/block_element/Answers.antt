use Rattle.std.proofs.Common.{◌∙◌, ap, rules, ◌≢◌, length, Some}
use Rattle.serde_json.specs.Data.{Data}
use Rattle.serde_json.proofs.Views.{view-Object}
use Rattle.policy_emit.proofs.Keeping.{block-some}
use Rattle.policy_emit.proofs.statement.block_element.Goals as goal

pub returns : goal.returns
returns c =
    let some : length c.args.block.entries ≢ 0 = search rules in
    ap (λ (d : Data). Some d) (view-Object c.args.block) ∙ block-some c.args.block.entries some
