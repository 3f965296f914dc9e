-- The two sets of a number of keys.
use Rattle.std.specs.Prelude.{◌≡◌, ◌+◌, ◌/◌, ◌%◌, ℕ, zero, suc, List, [], ◌∷◌, ◌++◌, Some, false, true, chars, codes}
use Rattle.wildcard_lang.specs.declared.piece.Piece.{Piece}
use Rattle.wildcard_lang.specs.Reading.{literals, wildcards}
use Rattle.policy_model.specs.declared.matcher.Matcher.{Matcher}
use Rattle.policy_model.specs.declared.operator.Base.TheVariants.{StringEquals}
use Rattle.policy_model.specs.declared.operator.Quantifier.TheVariants.{Plain}
use Rattle.policy_model.specs.declared.operator.Operator.{Operator}
use Rattle.policy_model.specs.declared.operator.Operand.{Operand}
use Rattle.policy_model.specs.declared.operator.Operand.TheVariants.{Pattern}
use Rattle.policy_model.specs.declared.operator.Condition.{Condition}
use Rattle.policy_model.specs.declared.principal.Entry.TheVariants.{All}
use Rattle.policy_model.specs.declared.set.Statement.{Statement}
use Rattle.policy_model.specs.declared.set.PolicySet.{PolicySet}
use Rattle.policy_load.specs.declared.keys.TheConstants.{KEY_NUMBERS}

-- how many numbers three digits write
abbrev pub LoadLimits : Type 0
LoadLimits = KEY_NUMBERS ≡ 1000

-- the decimal digits of a number of at most three
abbrev pub three_digits : ℕ → List ℕ
three_digits n = (48 + n / 100) ∷ (48 + n / 10 % 10) ∷ (48 + n % 10) ∷ []

-- the name of the key of this number
abbrev pub load_key : ℕ → List ℕ
load_key n = chars (codes "load:k") ++ three_digits n

-- the values of each key: the texts `a` and `b`
abbrev pub load_values : List Operand
load_values = Pattern (literals false (chars (codes "a"))) ∷ Pattern (literals false (chars (codes "b"))) ∷ []

-- the operator of the conditions
abbrev pub string_equals : Operator
string_equals = record { base = StringEquals; quantifier = Plain; if_exists = false }

-- the condition on the key of this number
abbrev pub load_condition : ℕ → Condition
load_condition n = record { operator = string_equals; key = load_key n; written = load_key n; values = load_values }

-- the conditions on the keys of the numbers from 1 to this one
abbrev pub load_conditions : ℕ → List Condition
load_conditions zero = []
load_conditions (suc n) = load_conditions n ++ load_condition (suc n) ∷ []

-- an element of one item
abbrev pub any_of : {T : Type 0} → T → Matcher T
any_of item = record { not = false; items = item ∷ [] }

-- the statement that allows everybody the action `load:Read` on the resources, where the conditions hold
abbrev pub load_statement : List Piece → List Condition → Statement
load_statement resource conditions = record {
  allow = true;
  principal = Some (any_of All);
  action = any_of (wildcards true (chars (codes "load:Read")));
  resource = Some (any_of resource);
  conditions = conditions;
}

-- the set of one document with one statement
abbrev pub of_one : Statement → PolicySet
of_one statement = record { grants = record { statements = statement ∷ [] } ∷ []; guards = [] }

-- the set with conditions on so many keys
abbrev pub first_load : ℕ → PolicySet
first_load n = of_one (load_statement (wildcards false (chars (codes "arn:aws:s3:::load/x"))) (load_conditions n))

-- the set without conditions
abbrev pub second_load : PolicySet
second_load = of_one (load_statement (wildcards false (chars (codes "arn:aws:s3:::load/*"))) [])

-- the two sets
abbrev pub loads : ℕ → PolicySet × PolicySet
loads n = (first_load n, second_load)
