-- The lemmas that crates above may cite.

-- a text with a rest behind its first colon is a front without colons, the colon, and the rest
pub use Rattle.policy_model.proofs.Accounts.{behind_colon-is}
-- behind a front without colons and a colon comes the rest
pub use Rattle.policy_model.proofs.Accounts.{behind_colon-append}
-- a text with a rest behind a prefix is the prefix and the rest
pub use Rattle.policy_model.proofs.Accounts.{behind_prefix-is}
-- an id passes the computed test exactly where it is an ARN of the account
pub use Rattle.policy_model.proofs.Accounts.{account_test-is, account_test-of}
-- the item that a list has at an index
pub use Rattle.policy_model.proofs.Items.{slice_get-at}
-- what holds of the items before an index holds of all, where none stands there
pub use Rattle.policy_model.proofs.Items.{All-done}
-- some item of a list: at the front, behind it, either of these, one that a function gave, and what is decided of each item
pub use Rattle.policy_model.proofs.Quantified.{Any-nil, Any-here, Any-later, Any-split, Any-map, Any-decided}
-- it is decided whether a value meets what is asked, and whether it meets some of what is asked
pub use Rattle.policy_model.proofs.Meets.{meets-decided, meets-some-decided}
-- a value meets some of what a condition's values ask where it meets what one of them asks
pub use Rattle.policy_model.proofs.Meets.{meets-some-asked}
-- a key has a value where the request gives it some
pub use Rattle.policy_model.proofs.Valued.{has-value-some}
-- the rule of a key permits the values that a valid request gives it
pub use Rattle.policy_model.proofs.Valued.{values-permitted}
-- a valid request gives a key at most one value where what is known of its rule keeps it from having several
pub use Rattle.policy_model.proofs.Valued.{one-value-permitted}
-- the names of the required keys, entry by entry, and that keys are there exactly where those that are required have values
pub use Rattle.policy_model.proofs.Requiring.{required_keys-of, there-of}
