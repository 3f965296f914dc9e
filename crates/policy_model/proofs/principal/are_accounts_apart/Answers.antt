use Rattle.std.proofs.Common.{arith, length, rules, ◌≡◌, ◌≢◌, ◌↔◌}
use Rattle.std.specs.Prelude.{IsTrue}
use Rattle.policy_model.proofs.Accounts.{accounts-apart}
use Rattle.policy_model.proofs.principal.are_accounts_apart.Goals as goal

pub returns-then-len : goal.returns-then-len
returns-then-len c =
    let same : length c.args.one.now ≡ length c.args.other.now = omega (arith, c.if-len.true, c.len.ensures.length, c.len-2.ensures.length) in
    let differ : IsTrue c.ne.result ↔ (c.args.one.now ≢ c.args.other.now) = search rules in
    let apart = accounts-apart c.args.one.now c.args.other.now same in
    (λ yes. (same, apart.0 (differ.0 yes)), λ own. differ.1 (apart.1 own.1))
