use Rattle.std.proofs.Common.{◌∙◌, ap}
use Rattle.serde_json.specs.Data.{put}
use Rattle.serde_json.specs.View.{members_view, view}
use Rattle.serde_json.proofs.Views.{members_view-insert_entry}
use Rattle.policy_emit.proofs.conditions.put_key.Goals as goal

pub returns-clause-put : goal.returns-clause-put
returns-clause-put c =
    ap members_view c.in_ok-insert.ensures.entries ∙ members_view-insert_entry c.args.keys.now.entries c.in_ok-to_utf8.field-0 c.args.value
    ∙ ap (λ k. put k (view c.args.value) (members_view c.args.keys.now.entries)) c.in_ok-to_utf8.ensures
