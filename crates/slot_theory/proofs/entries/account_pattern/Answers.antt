use Rattle.std.proofs.Common.{◌∙◌, sym, subst}
use Rattle.wildcard_lang.specs.Patterns.{IsPattern}
use Rattle.slot_theory.proofs.Accounts.{account-is-pattern, account-made}
use Rattle.slot_theory.proofs.entries.account_pattern.Goals as goal

pub from_pieces-requires : goal.from_pieces-requires
from_pieces-requires c =
    let made = account-made c.args.account.now _ _ _ _ _ c.as_slice-c-items.ensures.value c.loop-c-test.false c.loop-c.invariant c.in_ok-push-2.ensures.items c.in_ok-push-3.ensures.items in
    subst IsPattern (sym made) (account-is-pattern c.args.account.now c.requires)

pub returns : goal.returns
returns c =
    c.from_pieces.ensures
    ∙ account-made c.args.account.now _ _ _ _ _ c.as_slice-c-items.ensures.value c.loop-c-test.false c.loop-c.invariant c.in_ok-push-2.ensures.items c.in_ok-push-3.ensures.items
