use Rattle.std.proofs.Common.{◌≤◌, ℕ, subst}
use Rattle.policy_compile.specs.declared.builder.TheConstants.{MOST_TESTS}
use Rattle.policy_compile.proofs.Asking.{had-or-full}
use Rattle.policy_compile.proofs.builder.Builder.has_room.Goals as goal

pub returns : goal.returns
returns c = had-or-full c.args.self.now.tests.keys c.args.test.now c.contains.result c.contains.ensures (subst (λ (k : ℕ). MOST_TESTS ≤ k) c.len.ensures.len c.if-len-lt-MOST_TESTS.false)
