use Rattle.std.proofs.Common.{◌∙◌, ap}
use Rattle.serde_json.specs.View.{members_view}
use Rattle.serde_json.proofs.Views.{members_view-insert_entry, view-Object}
use Rattle.policy_emit.proofs.conditions.add_condition.Goals as goal

pub returns-clause-added : goal.returns-clause-added
returns-clause-added c =
    let stands = ap members_view c.in_ok-insert.ensures.entries ∙ members_view-insert_entry c.args.block.now.entries c.in_ok-operator.operator _ in
    rw (view-Object c.put_key.new.keys, c.in_ok-put_key.ensures.put, c.in_ok-keys.ensures, c.in_ok-cond_json.ensures.data, c.as_str.ensures.value, c.in_ok-operator.ensures) at stands
