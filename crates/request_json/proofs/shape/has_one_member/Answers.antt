use Rattle.serde_json.specs.View.{view}
use Rattle.request_json.proofs.Shaped.{one-member}
use Rattle.request_json.proofs.shape.has_one_member.Goals as goal

pub returns-in-Some : goal.returns-in-Some
returns-in-Some c = one-member (view c.args.value.now) c.in-Some.members.now.entries c.len.result c.in-Some.ensures c.len.ensures.len
