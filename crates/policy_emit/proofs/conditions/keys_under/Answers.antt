use Rattle.std.proofs.Common.{◌∙◌, ap}
use Rattle.std.specs.Prelude.{Some, option_map}
use Rattle.serde_json.specs.Data.{Data}
use Rattle.serde_json.specs.View.{members_view, view}
use Rattle.serde_json.proofs.Views.{view-lookup}
use Rattle.policy_emit.specs.Written.{members_in}
use Rattle.policy_emit.proofs.conditions.keys_under.Goals as goal

pub returns-in_ok-clone-in-Some : goal.returns-in_ok-clone-in-Some
returns-in_ok-clone-in-Some c =
    let found = ap (option_map view) c.in-Some.ensures.value ∙ view-lookup c.args.operator.now c.args.block.now.entries in
    c.members_of.ensures ∙ ap (λ (d : Data). members_in (Some d)) c.in_ok-clone-in-Some.ensures.cases ∙ ap members_in found

pub returns-in-None : goal.returns-in-None
returns-in-None c =
    let found = ap (option_map view) c.in-None.ensures.value ∙ view-lookup c.args.operator.now c.args.block.now.entries in
    ap members_view c.new.ensures.empty ∙ ap members_in found
