use Rattle.std.proofs.Common.{subst}
use Rattle.policy_model.specs.declared.principal.Entry.{Entry}
use Rattle.policy_model.specs.Principals.{EntryNames}
use Rattle.policy_model.proofs.principal.are_entries_apart.Goals as goal

pub returns-in-Account-Account : goal.returns-in-Account-Account
returns-in-Account-Account c = λ yes kind id one other.
    let first = subst (λ (e : Entry). EntryNames kind id e) c.in-Account-Account.is-0 one in
    let second = subst (λ (e : Entry). EntryNames kind id e) c.in-Account-Account.is-1 other in
    (c.are_accounts_apart.ensures.0 yes).1 id first.1 second.1
