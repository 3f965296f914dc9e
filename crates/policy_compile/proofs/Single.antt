-- A valid request gives a key that takes an operator without a prefix at most one value.
use Rattle.std.proofs.Common.{◌≡◌, ◌≢◌, true, false, ap}
use Rattle.policy_model.specs.declared.operator.Base.TheVariants.{Null}
use Rattle.policy_model.specs.Operators.{is_null}
use Rattle.policy_model.specs.Requests.{IsValid}
use Rattle.policy_model.specs.Soundness.{ConditionFits, RuleTakes}
use Rattle.policy_model.specs.declared.operator.Base.{Base}
use Rattle.policy_model.specs.declared.operator.Condition.{Condition}
use Rattle.policy_model.specs.declared.request.Request.{Request}
use Rattle.policy_model.specs.declared.schema.Schema.{Schema}
use Rattle.policy_model.proofs.Laws.{one-value-permitted}
use Rattle.policy_compile.proofs.Operating.{Single}

no-null : (b : Base) → is_null b ≡ false → b ≢ Null
no-null b other e = let null : is_null b ≡ true = ap is_null e in absurd (cc)

pub valid-single : (schema : Schema) (r : Request) (c : Condition) → IsValid schema r → ConditionFits schema c → Single r c
valid-single schema r c valid fits = λ other plain. one-value-permitted schema r c.key (λ rule. RuleTakes rule c.operator) (λ rule takes. takes.single (no-null c.operator.base other) plain) valid fits
