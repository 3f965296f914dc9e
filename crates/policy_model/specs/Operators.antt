-- The condition operators (IAM JSON policy reference, condition operators): their families, which are negated, which kinds of
-- keys take them, and what a policy's value asks of a value of a key.
use Rattle.std.specs.Prelude.{⊤, ℕ, List, Bool, true, false, not, codes}
use Rattle.intervals.specs.declared.compare.Compare.{Compare}
use Rattle.intervals.specs.declared.compare.Compare.TheVariants.{Equal, Less, LessOrEqual, Greater, GreaterOrEqual}
use Rattle.wildcard_lang.specs.Accepts.{accepts}
use Rattle.wildcard_lang.specs.Reading.{literals}
use Rattle.wildcard_lang.specs.declared.piece.Piece.{Piece}
use Rattle.policy_model.specs.declared.value.Kind.{Kind}
use Rattle.policy_model.specs.declared.value.Kind.TheVariants as kind
use Rattle.policy_model.specs.declared.cond.Cond.{Cond}
use Rattle.policy_model.specs.declared.cond.Cond.TheVariants as cond
use Rattle.policy_model.specs.declared.operator.Base.{Base}
use Rattle.policy_model.specs.declared.operator.Base.TheVariants as base
use Rattle.policy_model.specs.declared.operator.Family.{Family}
use Rattle.policy_model.specs.declared.operator.Family.TheVariants as family
use Rattle.policy_model.specs.declared.operator.Operand.{Operand}
use Rattle.policy_model.specs.declared.operator.Operand.TheVariants as operand

-- the family of an operator
abbrev pub family_of : Base → Family
family_of base.StringEquals = family.Text
family_of base.StringNotEquals = family.Text
family_of base.StringEqualsIgnoreCase = family.Text
family_of base.StringNotEqualsIgnoreCase = family.Text
family_of base.StringLike = family.Text
family_of base.StringNotLike = family.Text
family_of base.NumericEquals = family.Numeric
family_of base.NumericNotEquals = family.Numeric
family_of base.NumericLessThan = family.Numeric
family_of base.NumericLessThanEquals = family.Numeric
family_of base.NumericGreaterThan = family.Numeric
family_of base.NumericGreaterThanEquals = family.Numeric
family_of base.DateEquals = family.Date
family_of base.DateNotEquals = family.Date
family_of base.DateLessThan = family.Date
family_of base.DateLessThanEquals = family.Date
family_of base.DateGreaterThan = family.Date
family_of base.DateGreaterThanEquals = family.Date
family_of base.Bool = family.Bool
family_of base.BinaryEquals = family.Binary
family_of base.IpAddress = family.Address
family_of base.NotIpAddress = family.Address
family_of base.ArnEquals = family.Arn
family_of base.ArnLike = family.Arn
family_of base.ArnNotEquals = family.Arn
family_of base.ArnNotLike = family.Arn
family_of base.Null = family.Null

-- whether the operator is negated: these are the eight with `Not` in their names
abbrev pub is_negated : Base → Bool
is_negated base.StringNotEquals = true
is_negated base.StringNotEqualsIgnoreCase = true
is_negated base.StringNotLike = true
is_negated base.NumericNotEquals = true
is_negated base.DateNotEquals = true
is_negated base.NotIpAddress = true
is_negated base.ArnNotEquals = true
is_negated base.ArnNotLike = true
is_negated b = false

-- whether the operator asks for absence alone
abbrev pub is_null : Base → Bool
is_null base.Null = true
is_null b = false

-- how a number or a moment is to stand to the policy's, where a negated operator is read without its `Not`. Operators of other
-- families compare nothing
abbrev pub compare_of : Base → Compare
compare_of base.NumericLessThan = Less
compare_of base.NumericLessThanEquals = LessOrEqual
compare_of base.NumericGreaterThan = Greater
compare_of base.NumericGreaterThanEquals = GreaterOrEqual
compare_of base.DateLessThan = Less
compare_of base.DateLessThanEquals = LessOrEqual
compare_of base.DateGreaterThan = Greater
compare_of base.DateGreaterThanEquals = GreaterOrEqual
compare_of b = Equal

-- the value of a policy is of the form that operators of this family take
abbrev pub IsOperandOf : Family → Operand → Type 0
IsOperandOf family.Text (operand.Pattern p) = ⊤
IsOperandOf family.Text o = ⊥
IsOperandOf family.Arn (operand.Pattern p) = ⊤
IsOperandOf family.Arn o = ⊥
IsOperandOf family.Numeric (operand.Number n) = ⊤
IsOperandOf family.Numeric o = ⊥
IsOperandOf family.Date (operand.Number n) = ⊤
IsOperandOf family.Date o = ⊥
IsOperandOf family.Bool (operand.Truth b) = ⊤
IsOperandOf family.Bool o = ⊥
IsOperandOf family.Null (operand.Truth b) = ⊤
IsOperandOf family.Null o = ⊥
IsOperandOf family.Address (operand.Block block) = ⊤
IsOperandOf family.Address o = ⊥
IsOperandOf family.Binary (operand.Bytes bytes) = ⊤
IsOperandOf family.Binary o = ⊥

-- whether keys of the kind take the operators of the family. Every key takes `Null`. That a key of truth values takes operators
-- of texts, and a key of texts `Bool`, is this project's own choice
abbrev pub takes_family : Kind → Family → Bool
takes_family k family.Null = true
takes_family kind.Text family.Text = true
takes_family kind.Text family.Arn = true
takes_family kind.Text family.Bool = true
takes_family kind.Truth family.Text = true
takes_family kind.Truth family.Bool = true
takes_family kind.Number family.Numeric = true
takes_family kind.Number family.Date = true
takes_family kind.Address family.Address = true
takes_family kind.Bytes family.Binary = true
takes_family k f = false

-- how a truth value is written
abbrev pub truth_word : Bool → List ℕ
truth_word true = codes "true"
truth_word false = codes "false"

-- what a pattern asks: of a text that it matches, and of a truth value that it matches the value's word (own choice)
abbrev pub pattern_cond : Kind → List Piece → Cond
pattern_cond kind.Truth p = cond.Flag (accepts p (truth_word true)) (accepts p (truth_word false))
pattern_cond k p = cond.Matches p

-- what a truth value asks: of a truth value that it is the same, and of a text that it is its word in any case of letters (own
-- choice)
abbrev pub truth_cond : Kind → Bool → Cond
truth_cond kind.Text b = cond.Matches (literals true (truth_word b))
truth_cond k b = cond.Flag b (not b)

-- what a policy's value asks of a value of a key of this kind, where a negated operator is read without its `Not`
abbrev pub cond_of : Kind → Base → Operand → Cond
cond_of k b (operand.Pattern p) = pattern_cond k p
cond_of k b (operand.Number n) = cond.Compares (compare_of b) n
cond_of k b (operand.Block block) = cond.Inside block
cond_of k b (operand.Truth t) = truth_cond k t
cond_of k b (operand.Bytes bytes) = cond.Equals bytes
