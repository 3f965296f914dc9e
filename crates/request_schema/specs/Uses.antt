-- The uses of condition keys in the sets of a run: one for each condition of each statement, in reading order, the first set before
-- the second, the grants of a set before its guards.
use Rattle.std.specs.Prelude.{ℕ, List, ◌++◌, map, Bool, true, false, not, ◌&&◌, Option, Some, None, filter}
use Rattle.std.specs.List.{flat_map}
use Rattle.policy_model.specs.StatementNames.{Named, named_set}
use Rattle.policy_model.specs.declared.operator.Condition.{Condition}
use Rattle.policy_model.specs.declared.operator.Family.{Family}
use Rattle.policy_model.specs.declared.operator.Family.TheVariants as family
use Rattle.policy_model.specs.declared.operator.Quantifier.{Quantifier}
use Rattle.policy_model.specs.declared.operator.Quantifier.TheVariants.{Plain, ForAll, ForAny}
use Rattle.policy_model.specs.declared.set.PolicySet.{PolicySet}
use Rattle.policy_model.specs.declared.set.StatementName.{StatementName}
use Rattle.policy_model.specs.Operators.{family_of, is_null}
use Rattle.request_schema.specs.BuiltIn.{is_key}
use Rattle.request_schema.specs.declared.found.FoundUse.{FoundUse}

-- a condition with the name of its statement, in the second set or in the first
pub record Use : Type 0 where
  pub second : Bool
  pub name : StatementName
  pub condition : Condition

abbrev pub use_of : Bool → StatementName → Condition → Use
use_of second name condition = record { second = second; name = name; condition = condition }

-- the uses of a named statement, of several, and of a set
abbrev pub uses_of_statement : Bool → Named → List Use
uses_of_statement second named = map (use_of second named.0) named.1.conditions

abbrev pub uses_of_statements : Bool → List Named → List Use
uses_of_statements second statements = flat_map (uses_of_statement second) statements

abbrev pub uses_in : Bool → PolicySet → List Use
uses_in second set = uses_of_statements second (named_set set)

-- the uses of a run on one set, or on two
unfoldable pub uses_of : PolicySet → Option PolicySet → List Use
uses_of first None = uses_in false first
uses_of first (Some second) = uses_in false first ++ uses_in true second

-- what was found in a set, as a use; and all that was found
abbrev pub use_found : FoundUse → Use
use_found found = use_of found.second found.name found.condition.now

abbrev pub uses_found : List FoundUse → List Use
uses_found found = map use_found found

-- the family of a use's operator
abbrev pub use_family : Use → Family
use_family u = family_of u.condition.operator.base

abbrev pub is_bool : Family → Bool
is_bool family.Bool = true
is_bool other = false

-- the operator has no prefix
abbrev pub is_plain : Quantifier → Bool
is_plain Plain = true
is_plain ForAll = false
is_plain ForAny = false

-- the uses of the key
abbrev pub of_key : List ℕ → List Use → List Use
of_key key uses = filter (λ u. is_key key u.condition.key) uses

-- the use is of the key, and its operator compares the key's values, as all do but `Null`
abbrev pub compares_values : List ℕ → Use → Bool
compares_values key u = is_key key u.condition.key && not (is_null u.condition.operator.base)

-- the uses that compare values of the key: they settle its kind and its number of values
abbrev pub comparing_uses : List ℕ → List Use → List Use
comparing_uses key uses = filter (compares_values key) uses
