-- The condition keys that every schema has (IAM JSON policy reference, global condition context keys), each with its kind and with
-- whether a request may give it several values. Which of the reference's keys stand here is this project's own choice.
use Rattle.std.specs.Prelude.{ℕ, List, [], ◌∷◌, ◌++◌, map, Bool, true, false, None, All, chars, codes}
use Rattle.std.specs.BTreeMap.{is_at}
use Rattle.std.specs.Cmp.Lexicographic.{slice_cmp}
use Rattle.std.specs.Ordering.{nat_cmp}
use Rattle.text_table.specs.Table.{Entries, with_item}
use Rattle.wildcard_lang.specs.Text.{folded_text}
use Rattle.policy_model.specs.declared.value.Kind.{Kind}
use Rattle.policy_model.specs.declared.value.Kind.TheVariants as kind
use Rattle.policy_model.specs.declared.schema.KeyRule.{KeyRule}
use Rattle.policy_model.specs.declared.schema.Schema.{Schema}
use Rattle.policy_model.specs.Keys.{no_shapes}
use Rattle.policy_model.specs.Soundness.{RuleIsSound}

-- a folded name of a key, with its rule
abbrev pub NamedRule : Type 0
NamedRule = List ℕ × KeyRule

-- the folded name of a key that is written so in UTF-8
abbrev pub folded_name : List ℕ → List ℕ
folded_name name = folded_text (chars name)

-- whether two names of keys are the same text
abbrev pub is_key : List ℕ → List ℕ → Bool
is_key a b = is_at (slice_cmp nat_cmp a) b

-- a rule that asks nothing but a kind and a number of values
abbrev pub plain_rule : Kind → Bool → KeyRule
plain_rule k many = record { kind = k; many = many; required = false; among = None; shape = None }

-- the rules with others, one after another, each in place of the one of the same key
abbrev pub with_rules : Entries KeyRule → List NamedRule → Entries KeyRule
with_rules rules [] = rules
with_rules rules (named ∷ more) = with_rules (with_item rules named.0 named.1) more

-- each of the rules can be met
abbrev pub RulesAreSound : Entries KeyRule → Type 0
RulesAreSound rules = All (λ entry. RuleIsSound entry.1) rules

-- keys of a kind, with one value or with several
abbrev pub keys_of_kind : Kind → Bool → List (List ℕ) → List NamedRule
keys_of_kind k many names = map (λ name. (folded_name name, plain_rule k many)) names

abbrev pub text_keys : List (List ℕ)
text_keys =
    codes "aws:PrincipalAccount" ∷ codes "aws:PrincipalArn" ∷ codes "aws:PrincipalOrgID" ∷ codes "aws:PrincipalType" ∷
    codes "aws:Referer" ∷ codes "aws:RequestedRegion" ∷ codes "aws:SourceAccount" ∷ codes "aws:SourceArn" ∷
    codes "aws:SourceVpc" ∷ codes "aws:SourceVpce" ∷ codes "aws:UserAgent" ∷ codes "aws:userid" ∷ codes "aws:username" ∷ []

abbrev pub truth_keys : List (List ℕ)
truth_keys = codes "aws:SecureTransport" ∷ codes "aws:MultiFactorAuthPresent" ∷ codes "aws:ViaAWSService" ∷ []

abbrev pub number_keys : List (List ℕ)
number_keys =
    codes "aws:MultiFactorAuthAge" ∷ codes "aws:CurrentTime" ∷ codes "aws:EpochTime" ∷ codes "aws:TokenIssueTime" ∷ []

abbrev pub address_keys : List (List ℕ)
address_keys = codes "aws:SourceIp" ∷ codes "aws:VpcSourceIp" ∷ []

abbrev pub list_keys : List (List ℕ)
list_keys = codes "aws:TagKeys" ∷ codes "aws:PrincipalOrgPaths" ∷ codes "aws:CalledVia" ∷ []

-- all of them: the last three may have several values
unfoldable pub built_in_keys : List NamedRule
built_in_keys =
    keys_of_kind kind.Text false text_keys ++ (keys_of_kind kind.Truth false truth_keys
    ++ (keys_of_kind kind.Number false number_keys ++ (keys_of_kind kind.Address false address_keys
    ++ keys_of_kind kind.Text true list_keys)))

-- by their folded names
unfoldable pub built_in_rules : Entries KeyRule
built_in_rules = with_rules [] built_in_keys

-- the schema of a run without a schema file
abbrev pub built_in_schema : Schema
built_in_schema = record { version = 1; keys = built_in_rules; shapes = no_shapes }
