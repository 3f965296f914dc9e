use Rattle.std.proofs.Common.{◌≡◌, length, take}
use Rattle.request_build.specs.Taken.{context_in}
use Rattle.request_build.proofs.context.context_in.Given as goal

abbrev pub invariant-loop-key : goal.invariant-loop-key
invariant-loop-key l = l.context ≡ context_in l.values (take (length l.yielded) l.schema.keys)
