-- What holds between the parts of tests: between entries, between bounds, and between what is asked of a value.
use Rattle.std.specs.Prelude.{◌≡◌, ℕ, ℤ, List, Option, All, true, false}
use Rattle.cidr_bits.specs.Blocks.{LiesIn}
use Rattle.cidr_bits.specs.declared.address.Address.{Address}
use Rattle.cidr_bits.specs.declared.block.Block.{Block}
use Rattle.intervals.specs.declared.compare.Compare.{Compare}
use Rattle.intervals.specs.Compare.{StandsTo}
use Rattle.policy_model.specs.declared.cond.Cond.{Cond}
use Rattle.policy_model.specs.declared.principal.Entry.{Entry}
use Rattle.policy_model.specs.declared.principal.PrincipalKind.{PrincipalKind}
use Rattle.policy_model.specs.declared.schema.KeyRule.{KeyRule}
use Rattle.policy_model.specs.declared.value.Value.{Value}
use Rattle.policy_model.specs.Conds.{CondMeets, MeetsSome, SharesNoValue}
use Rattle.policy_model.specs.Principals.{EntryNames}
use Rattle.policy_model.specs.Requests.{FitsShape, IsValueOf}
use Rattle.wildcard_lang.specs.declared.piece.Piece.{Piece}
use Rattle.wildcard_lang.specs.Matching.{Matches}

-- each principal of the one entry is one of the other
abbrev pub EntryLeads : Entry → Entry → Type 0
EntryLeads one other = (kind : PrincipalKind) (id : List ℕ) → EntryNames kind id one → EntryNames kind id other

-- each number that stands to the one bound as named stands to the other
abbrev pub BoundLeads : Compare → ℤ → Compare → ℤ → Type 0
BoundLeads one bound other limit = (n : ℤ) → StandsTo one bound n → StandsTo other limit n

-- no number stands to both
abbrev pub BoundExcludes : Compare → ℤ → Compare → ℤ → Type 0
BoundExcludes one bound other limit = (n : ℤ) → StandsTo one bound n → ¬ StandsTo other limit n

-- each address of the one block lies in the other
abbrev pub BlockLeads : Block → Block → Type 0
BlockLeads one other = (a : Address) → LiesIn one a → LiesIn other a

-- each value that meets the one meets the other
abbrev pub CondLeads : Cond → Cond → Type 0
CondLeads one other = (v : Value) → CondMeets v one → CondMeets v other

-- each value that meets it meets some of the list
abbrev pub CondLeadsToSome : Cond → List Cond → Type 0
CondLeadsToSome one others = (v : Value) → CondMeets v one → MeetsSome others v

-- so does each value that meets some of the first list
abbrev pub EachLeadsToSome : List Cond → List Cond → Type 0
EachLeadsToSome ones others = All (λ one. CondLeadsToSome one others) ones

-- no value that meets it meets some of the list
abbrev pub CondExcludesEach : Cond → List Cond → Type 0
CondExcludesEach one others = All (SharesNoValue one) others

-- the pattern matches each text of the shape
abbrev pub MatchesEach : List Piece → Option (List Piece) → Type 0
MatchesEach pattern shape = (t : List ℕ) → FitsShape shape t → Matches pattern t

-- a key with this rule has one value at most
abbrev pub IsSingle : KeyRule → Type 0
IsSingle rule = rule.many ≡ false

-- a key with this rule has one value at least
abbrev pub IsRequired : KeyRule → Type 0
IsRequired rule = rule.required ≡ true

-- each value that the rule permits meets what is asked
abbrev pub EachValueMeets : Cond → KeyRule → Type 0
EachValueMeets one rule = (v : Value) → IsValueOf rule v → CondMeets v one
