use Rattle.std.proofs.Common.{◌≡◌, length, take}
use Rattle.serde_json.specs.View.{members_view}
use Rattle.request_json.specs.RequestTexts.{context_members}
use Rattle.request_json.proofs.write.context_json.Given as goal

abbrev pub invariant-loop-key : goal.invariant-loop-key
invariant-loop-key l = members_view l.members.entries ≡ context_members (take (length l.yielded) l.context)
