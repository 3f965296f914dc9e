-- The laws of lists of values, for crates above.
use Rattle.set_operators.specs.Laws.{AsksAreOfMembers, OneMemberEach, OneValueOrNone, ShownIsRight, WantsAreOfMembers}
use Rattle.set_operators.proofs.Membership as members
use Rattle.set_operators.proofs.Texts as texts

-- an ask holds of values exactly where some of them meets it
pub asks_are_of_members : AsksAreOfMembers
asks_are_of_members = members.asks_are_of_members

-- of a key with several values one member for each ask that is answered yes is enough, and there must be one
pub one_member_each : OneMemberEach
one_member_each = members.one_member_each

-- of a key with at most one value either the empty list does, or one value meets all asks
pub one_value_or_none : OneValueOrNone
one_value_or_none = members.one_value_or_none

-- a text meets the clauses of asks and rule exactly where it is a member
pub wants_are_of_members : WantsAreOfMembers
wants_are_of_members = texts.wants_are_of_members

-- what shows that there are no values is right
pub shown_is_right : ShownIsRight
shown_is_right = members.shown_is_right
