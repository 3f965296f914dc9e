-- Operators that ask a key for no more than its rule says.
use Rattle.std.specs.Prelude.{◌≡◌, Bool, true, false, not}
use Rattle.policy_model.specs.declared.operator.Operator.{Operator}
use Rattle.policy_model.specs.declared.value.Kind.{Kind}
use Rattle.policy_model.specs.declared.value.Kind.TheVariants.{Truth}
use Rattle.policy_model.specs.Operators.{family_of, is_null, takes_family}
use Rattle.request_schema.specs.Uses.{is_bool, is_plain}

-- the operator compares values of the kind, of truth values by `Bool` alone, and has a prefix exactly where there may be several
pub record IsOperatorOn (k : Kind) (many : Bool) (o : Operator) : Type 0 where
  pub compares : is_null o.base ≡ false
  pub takes : takes_family k (family_of o.base) ≡ true
  pub truth : k ≡ Truth → is_bool (family_of o.base) ≡ true
  pub prefixed : not (is_plain o.quantifier) ≡ many
