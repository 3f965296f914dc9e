-- The condition keys that tell which requests come from a zone (IAM JSON policy reference, global condition context keys).
use Rattle.std.specs.Prelude.{◌≡◌, ℕ, List, false, chars, codes}
use Rattle.wildcard_lang.specs.Text.{folded_text}
use Rattle.policy_model.specs.declared.value.Kind.{Kind}
use Rattle.policy_model.specs.declared.schema.KeyRule.{KeyRule}
use Rattle.policy_model.specs.declared.schema.Schema.{Schema}
use Rattle.policy_model.specs.Soundness.{IsKeyWith}

-- the organisation of the principal, and the VPC and the address that the request comes from, by their names in the reference
abbrev pub organization_name : List ℕ
organization_name = codes "aws:PrincipalOrgID"

abbrev pub vpc_name : List ℕ
vpc_name = codes "aws:SourceVpc"

abbrev pub address_name : List ℕ
address_name = codes "aws:SourceIp"

-- the key of a name: its ASCII letters are lowered
abbrev pub key_named : List ℕ → List ℕ
key_named name = folded_text (chars name)

-- the rule gives the key values of this kind, and not several
pub record IsSingleOf (k : Kind) (rule : KeyRule) : Type 0 where
  pub kind : rule.kind ≡ k
  pub single : rule.many ≡ false

-- the schema gives the key of the name one value of this kind
abbrev pub HasSingleKey : Schema → List ℕ → Kind → Type 0
HasSingleKey schema name k = IsKeyWith schema (IsSingleOf k) (key_named name)
