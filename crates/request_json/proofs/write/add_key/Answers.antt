use Rattle.std.proofs.Common.{◌∙◌, ap}
use Rattle.serde_json.specs.View.{members_view}
use Rattle.serde_json.proofs.Views.{members_view-insert_entry}
use Rattle.request_json.proofs.write.add_key.Goals as goal

pub returns : goal.returns
returns c =
    let stands = ap members_view c.in_ok-insert.ensures.entries ∙ members_view-insert_entry c.args.members.now.entries c.in_ok-to_utf8.field-0 c.in_ok-values_json.field-0 in
    rw (c.in_ok-to_utf8.ensures, c.in_ok-values_json.ensures) at stands
