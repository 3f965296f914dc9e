use Rattle.summary_search.proofs.Sampling.{account-chars, account-text}
use Rattle.summary_search.proofs.samples.account_id.Goals as goal

pub from_chars-requires : goal.from_chars-requires
from_chars-requires c = account-text c.args.account.now _ _ _ _ c.as_slice.ensures.text c.as_slice.ensures.value c.in_ok-chars.ensures.items c.in_ok-extend_from_slice.ensures.items c.in_ok-push.ensures.items

pub returns : goal.returns
returns c = account-chars c.args.account.now _ _ _ _ _ c.as_slice.ensures.value c.in_ok-chars.ensures.items c.in_ok-extend_from_slice.ensures.items c.in_ok-push.ensures.items c.from_chars.ensures
