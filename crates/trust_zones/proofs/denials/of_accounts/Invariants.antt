use Rattle.std.proofs.Common.{◌≡◌, take, map}
use Rattle.policy_model.specs.declared.principal.Entry.TheVariants.{Account}
use Rattle.trust_zones.proofs.denials.of_accounts.Given as goal

abbrev pub invariant-loop-account : goal.invariant-loop-account
invariant-loop-account l = l.items ≡ map Account (take l.account-index l.accounts)
