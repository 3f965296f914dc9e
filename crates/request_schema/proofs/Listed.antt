-- The listed values of a key: each is what its text writes, there is one, and each is short.
use Rattle.std.proofs.Common.{◌≡◌, ◌≢◌, ℕ, List, [], ◌∷◌, ◌++◌, Bool, true, false, ◌&&◌, Option, Some, is_some, length, All, nat_le, unwrap_or, refl, ap, sym, ◌∙◌, chars}
use Rattle.std.specs.List.{list_all}
use Rattle.std.proofs.lemmas.Bool.{leb-true}
use Rattle.std.proofs.lemmas.List.{append_assoc}
use Rattle.std.proofs.lemmas.List.Elements.{All-nil, All-cons}
use Rattle.policy_model.specs.declared.value.Kind.{Kind}
use Rattle.policy_model.specs.declared.value.Kind.TheVariants as kind
use Rattle.policy_model.specs.declared.value.Value.{Value}
use Rattle.policy_model.specs.declared.value.Value.TheVariants as value
use Rattle.policy_model.specs.Requests.{IsOfKind}
use Rattle.policy_model.specs.Soundness.{IsShortValue}
use Rattle.request_schema.specs.SchemaRules.{are_few, are_of_kind, is_short, is_text_kind, value_of_kind, values_of_kind}
use Rattle.request_schema.specs.ValueTexts.{value_written}
use Rattle.request_schema.specs.declared.rules.TheConstants.{MOST_VALUES}
use Rattle.wildcard_lang.specs.declared.pattern.TheConstants.{MOST_PIECES}

pub and-both : (a b : Bool) → (a && b) ≡ true → (a ≡ true) × (b ≡ true)
and-both true b e = (refl, e)
and-both false b e = absurd (cc)

-- a text that is written is the value, and one that isn't is refused
pub written-is : (k : Kind) (s : List ℕ) (v : Value) → value_written k s ≡ Some v → value_of_kind k s ≡ v
written-is k s v is = ap (λ (o : Option Value). unwrap_or o (value.Word (chars s))) is

pub written-passes : (k : Kind) (s : List ℕ) (rest : List (List ℕ)) (v : Value) → value_written k s ≡ Some v → are_of_kind k (s ∷ rest) ≡ are_of_kind k rest
written-passes k s rest v is = ap (λ (o : Option Value). is_some o && are_of_kind k rest) is

-- one value more is read
pub one-more-value : (k : Kind) (all rest next : List (List ℕ)) (s : List ℕ) (v : Value) (listed pushed : List Value) → rest ≡ s ∷ next → value_written k s ≡ Some v → are_of_kind k all ≡ are_of_kind k rest
    → values_of_kind k all ≡ listed ++ values_of_kind k rest → pushed ≡ listed ++ v ∷ [] → (are_of_kind k all ≡ are_of_kind k next) × (values_of_kind k all ≡ pushed ++ values_of_kind k next)
one-more-value k all rest next s v listed pushed is written passes values grown = (
  passes ∙ ap (are_of_kind k) is ∙ written-passes k s next v written,
  values ∙ ap (λ (r : List (List ℕ)). listed ++ values_of_kind k r) is ∙ ap (λ (w : Value). listed ++ w ∷ values_of_kind k next) (written-is k s v written) ∙ sym (append_assoc listed (v ∷ []) (values_of_kind k next)) ∙ ap (λ (r : List Value). r ++ values_of_kind k next) (sym grown),
)

-- a value of another kind than text is short
other-short : (k : Kind) (v : Value) → is_text_kind k ≡ false → IsOfKind k v → IsShortValue v
other-short kind.Text v other is = cc
other-short kind.Truth (value.Word t) other is = absurd is
other-short kind.Number (value.Word t) other is = absurd is
other-short kind.Address (value.Word t) other is = absurd is
other-short kind.Bytes (value.Word t) other is = absurd is
other-short kind.Truth (value.Truth b) other is = tt
other-short kind.Truth (value.Number n) other is = tt
other-short kind.Truth (value.Address a) other is = tt
other-short kind.Truth (value.Bytes bs) other is = tt
other-short kind.Number (value.Truth b) other is = tt
other-short kind.Number (value.Number n) other is = tt
other-short kind.Number (value.Address a) other is = tt
other-short kind.Number (value.Bytes bs) other is = tt
other-short kind.Address (value.Truth b) other is = tt
other-short kind.Address (value.Number n) other is = tt
other-short kind.Address (value.Address a) other is = tt
other-short kind.Address (value.Bytes bs) other is = tt
other-short kind.Bytes (value.Truth b) other is = tt
other-short kind.Bytes (value.Number n) other is = tt
other-short kind.Bytes (value.Address a) other is = tt
other-short kind.Bytes (value.Bytes bs) other is = tt

others-short : (k : Kind) (vs : List Value) → is_text_kind k ≡ false → All (IsOfKind k) vs → All IsShortValue vs
others-short k vs other all = λ i d within. other-short k _ other (all i d within)

-- texts are short where they were found so
texts-short : (listed : List (List ℕ)) → list_all is_short listed ≡ true → All IsShortValue (values_of_kind kind.Text listed)
texts-short [] short = All-nil IsShortValue
texts-short (s ∷ rest) short =
    let both = and-both (is_short s) (list_all is_short rest) short in
    All-cons IsShortValue (value.Word (chars s)) (values_of_kind kind.Text rest) (leb-true (length (chars s)) MOST_PIECES both.0) (texts-short rest both.1)

pub few-short : (k : Kind) (listed : List (List ℕ)) → are_few k listed ≡ true → All (IsOfKind k) (values_of_kind k listed) → All IsShortValue (values_of_kind k listed)
few-short kind.Text listed few all = texts-short listed (and-both (nat_le (length listed) MOST_VALUES) (list_all is_short listed) few).1
few-short kind.Truth listed few all = others-short kind.Truth (values_of_kind kind.Truth listed) refl all
few-short kind.Number listed few all = others-short kind.Number (values_of_kind kind.Number listed) refl all
few-short kind.Address listed few all = others-short kind.Address (values_of_kind kind.Address listed) refl all
few-short kind.Bytes listed few all = others-short kind.Bytes (values_of_kind kind.Bytes listed) refl all

pub some-values : (k : Kind) (listed : List (List ℕ)) → nat_le 1 (length listed) ≡ true → values_of_kind k listed ≢ []
some-values k [] some = absurd (cc)
some-values k (s ∷ rest) some = λ e. cc
