-- What a policy asks of one value of a condition key (IAM JSON policy reference, condition operators), and which values meet it.
use Rattle.std.specs.Prelude.{◌≡◌, List, Any, true, if◌then◌else◌}
use Rattle.intervals.specs.Compare.{StandsTo}
use Rattle.cidr_bits.specs.Blocks.{LiesIn}
use Rattle.wildcard_lang.specs.Matching.{Matches}
use Rattle.policy_model.specs.declared.value.Kind.{Kind}
use Rattle.policy_model.specs.declared.value.Kind.TheVariants as kind
use Rattle.policy_model.specs.declared.value.Value.{Value}
use Rattle.policy_model.specs.declared.value.Value.TheVariants as value
use Rattle.policy_model.specs.declared.cond.Cond.{Cond}
use Rattle.policy_model.specs.declared.cond.Cond.TheVariants as cond

-- the value meets what is asked: a text matches, a number stands to the bound as named, an address lies in the block, true and
-- false are asked for each by its own flag, and bytes are the same. A value of another kind never does
abbrev pub CondMeets : Value → Cond → Type 0
CondMeets (value.Word t) (cond.Matches p) = Matches p t
CondMeets (value.Word t) c = ⊥
CondMeets (value.Truth b) (cond.Flag at_true at_false) = (if b then at_true else at_false) ≡ true
CondMeets (value.Truth b) c = ⊥
CondMeets (value.Number n) (cond.Compares how bound) = StandsTo how bound n
CondMeets (value.Number n) c = ⊥
CondMeets (value.Address a) (cond.Inside block) = LiesIn block a
CondMeets (value.Address a) c = ⊥
CondMeets (value.Bytes bs) (cond.Equals bytes) = bs ≡ bytes
CondMeets (value.Bytes bs) c = ⊥

-- no value meets both
abbrev pub SharesNoValue : Cond → Cond → Type 0
SharesNoValue one other = (v : Value) → CondMeets v one → ¬ CondMeets v other

-- the value meets some of what is asked
abbrev pub MeetsSome : List Cond → Value → Type 0
MeetsSome cs v = Any (CondMeets v) cs

-- the kind of the values that it is about
abbrev pub cond_kind : Cond → Kind
cond_kind (cond.Matches p) = kind.Text
cond_kind (cond.Flag at_true at_false) = kind.Truth
cond_kind (cond.Compares how bound) = kind.Number
cond_kind (cond.Inside block) = kind.Address
cond_kind (cond.Equals bytes) = kind.Bytes

-- it is asked of values of this kind
abbrev pub IsCondOf : Kind → Cond → Type 0
IsCondOf k c = cond_kind c ≡ k
