-- When a statement of a zone's document denies a request.
use Rattle.std.proofs.Common.{◌≡◌, ◌≢◌, ◌≤◌, ◌↔◌, ℕ, List, [], ◌∷◌, length, map, false, Any, Option, Some, None, inl, inr, refl, subst, sym, ap}
use Rattle.std.specs.Prelude.{MatchOption, unwrap_or, option_map}
use Rattle.std.proofs.lemmas.List.Elements.{All-nil, All-cons, All-head}
use Rattle.cidr_bits.specs.declared.block.Block.{Block}
use Rattle.wildcard_lang.specs.Matching.{Matches, no_pieces, is_done, takes_more}
use Rattle.wildcard_lang.specs.Reading.{literals}
use Rattle.wildcard_lang.specs.declared.piece.Piece.{Piece}
use Rattle.wildcard_lang.proofs.Laws.{exact-matched, exact-matches}
use Rattle.text_table.specs.Table.{item_at}
use Rattle.policy_model.specs.declared.cond.Cond.{Cond}
use Rattle.policy_model.specs.declared.cond.Cond.TheVariants as cond
use Rattle.policy_model.specs.declared.operator.Base.TheVariants.{StringEquals, IpAddress}
use Rattle.policy_model.specs.declared.operator.Condition.{Condition}
use Rattle.policy_model.specs.declared.operator.Operand.TheVariants as operand
use Rattle.policy_model.specs.declared.principal.Entry.TheVariants.{Account}
use Rattle.policy_model.specs.declared.request.Request.{Request}
use Rattle.policy_model.specs.declared.schema.KeyRule.{KeyRule}
use Rattle.policy_model.specs.declared.schema.Schema.{Schema}
use Rattle.policy_model.specs.declared.set.Statement.{Statement}
use Rattle.policy_model.specs.declared.value.Kind.{Kind}
use Rattle.policy_model.specs.declared.value.Kind.TheVariants as kind
use Rattle.policy_model.specs.declared.value.Value.{Value}
use Rattle.policy_model.specs.declared.value.Value.TheVariants as value
use Rattle.policy_model.specs.Conds.{CondMeets, MeetsSome}
use Rattle.policy_model.specs.Conditions.{ConditionHolds, OneMatches, ValueMatches, kind_at, values_at}
use Rattle.policy_model.specs.Operators.{cond_of}
use Rattle.policy_model.specs.Principals.{EntryHolds}
use Rattle.policy_model.specs.Requests.{IsValid}
use Rattle.policy_model.specs.Sets.{Decides}
use Rattle.policy_model.proofs.Laws.{Any-nil, Any-here, Any-map, one-value-permitted}
use Rattle.trust_zones.specs.ZoneKeys.{HasSingleKey, IsSingleOf, address_name, key_named}
use Rattle.trust_zones.specs.Zones.{GivesAddressIn, GivesText, IsAddressIn, block_values, denial, every_action, has_one_of, of_accounts, text_values, where_some}
use Rattle.trust_zones.proofs.Items.{Meets, any-one, any-contains, any-weaker, contains-any, met-by-one, one-meets, one-weaker}

-- ---- every action

many-all : (t : List ℕ) → Matches every_action t
many-all [] = is_done refl no_pieces
many-all (c ∷ t) = takes_more refl refl (many-all t)

any-action : (t : List ℕ) → Any (λ p. Matches p t) (every_action ∷ [])
any-action t = Any-here (λ (p : List Piece). Matches p t) every_action [] (many-all t)

-- ---- statements for lists that aren't empty

pub some-denies : {X : Type 0} (P : Statement → Type 0) (Q : X → Type 0) (xs : List X) (s : Statement) → (xs ≢ [] → P s ↔ Any Q xs) → Any P (where_some xs s) ↔ Any Q xs
some-denies P Q [] s is = (λ w. absurd (Any-nil P w), λ w. absurd (Any-nil Q w))
some-denies P Q (x ∷ xs) s is =
    let own = is (λ e. cc) in
    (λ w. own.0 (any-one P s w), λ w. Any-here P s [] (own.1 w))

-- ---- accounts

pub account-denies : (schema : Schema) (r : Request) (accounts : List (List ℕ)) → Decides schema false r (denial (Some (of_accounts accounts)) []) ↔ Any (λ a. EntryHolds r (Account a)) accounts
account-denies schema r accounts = (
  λ d. (Any-map (EntryHolds r) Account accounts).0 d.1.principal,
  λ w. (
    refl,
    record {
      principal = (Any-map (EntryHolds r) Account accounts).1 w;
      action = any-action r.action;
      resource = tt;
      conditions = All-nil (ConditionHolds schema r);
    },
  ),
)

-- ---- keys

-- a denial under one condition applies where the condition holds
pub where-denies : (schema : Schema) (r : Request) (c : Condition) → Decides schema false r (denial None (c ∷ [])) ↔ ConditionHolds schema r c
where-denies schema r c = (
  λ d. All-head (ConditionHolds schema r) c [] d.1.conditions,
  λ h. (
    refl,
    record {
      principal = tt;
      action = any-action r.action;
      resource = tt;
      conditions = All-cons (ConditionHolds schema r) c [] h (All-nil (ConditionHolds schema r));
    },
  ),
)

ruled : (P : KeyRule → Type 0) (found : Option KeyRule) → MatchOption found ⊥ P → (rule : KeyRule) × (found ≡ Some rule) × P rule
ruled P None h = absurd h
ruled P (Some rule) h = (rule, refl, h)

kind-found : (found : Option KeyRule) (rule : KeyRule) (k : Kind) → found ≡ Some rule → rule.kind ≡ k → unwrap_or (option_map (λ (own : KeyRule). own.kind) found) kind.Text ≡ k
kind-found found rule k e is = rw e is

pub kind-given : (schema : Schema) (name : List ℕ) (k : Kind) → HasSingleKey schema name k → kind_at schema (key_named name) ≡ k
kind-given schema name k has =
    let found = ruled (IsSingleOf k) (item_at (key_named name) schema.keys) has in
    kind-found (item_at (key_named name) schema.keys) found.0 k found.1 found.2.kind

pub one-given : (schema : Schema) (r : Request) (name : List ℕ) (k : Kind) → IsValid schema r → HasSingleKey schema name k → length (values_at r (key_named name)) ≤ 1
one-given schema r name k valid has = one-value-permitted schema r (key_named name) (IsSingleOf k) (λ rule is. is.single) valid has

-- ---- texts

word-meets : (t : List ℕ) (v : Value) → CondMeets v (cond.Matches (literals false t)) ↔ (v ≡ value.Word t)
word-meets t (value.Word u) = (
  λ m. ap value.Word (exact-matched t u m),
  λ e. let same : u ≡ t = cc in subst (λ (x : List ℕ). Matches (literals false t) x) (sym same) (exact-matches t),
)
word-meets t (value.Truth b) = (λ m. absurd m, λ e. absurd (cc))
word-meets t (value.Number n) = (λ m. absurd m, λ e. absurd (cc))
word-meets t (value.Address a) = (λ m. absurd m, λ e. absurd (cc))
word-meets t (value.Bytes bs) = (λ m. absurd m, λ e. absurd (cc))

abbrev text-cond : List ℕ → Cond
text-cond t = cond_of kind.Text StringEquals (operand.Pattern (literals false t))

-- the value meets what some of the texts ask, where it is one of them
texts-met : (texts : List (List ℕ)) (v : Value) → MeetsSome (map (cond_of kind.Text StringEquals) (text_values texts)) v ↔ Any (λ t. v ≡ value.Word t) texts
texts-met texts v = (
  λ m. any-weaker (λ t. CondMeets v (text-cond t)) (λ t. v ≡ value.Word t) (λ t h. (word-meets t v).0 h) texts
      ((Any-map (λ o. CondMeets v (cond_of kind.Text StringEquals o)) (λ t. operand.Pattern (literals false t)) texts).0
      ((Any-map (CondMeets v) (cond_of kind.Text StringEquals) (text_values texts)).0 m)),
  λ w. (Any-map (CondMeets v) (cond_of kind.Text StringEquals) (text_values texts)).1
      ((Any-map (λ o. CondMeets v (cond_of kind.Text StringEquals o)) (λ t. operand.Pattern (literals false t)) texts).1
      (any-weaker (λ t. v ≡ value.Word t) (λ t. CondMeets v (text-cond t)) (λ t h. (word-meets t v).1 h) texts w)),
)

-- the condition of a key that has one value at most
text-holds : (schema : Schema) (r : Request) (name : List ℕ) (texts : List (List ℕ)) (k : Kind) → kind_at schema (key_named name) ≡ k → k ≡ kind.Text → length (values_at r (key_named name)) ≤ 1 →
    ConditionHolds schema r (has_one_of StringEquals name (text_values texts)) ↔ Any (GivesText r name) texts
text-holds schema r name texts k at is few =
    let values = values_at r (key_named name) in
    let c = has_one_of StringEquals name (text_values texts) in
    let same : kind_at schema (key_named name) ≡ kind.Text = cc in
    let Q = λ (t : List ℕ) (v : Value). v ≡ value.Word t in (
      λ h. elim h [
        | inl none ↦ absurd (cc)
        | inr holds ↦
            let one : OneMatches false (ValueMatches kind.Text c) values = subst (λ (own : Kind). OneMatches false (ValueMatches own c) values) same holds in
            any-weaker (λ t. Any (Q t) values) (GivesText r name) (λ t w. any-contains values (value.Word t) w) texts
            (met-by-one Q texts values (one-weaker false (ValueMatches kind.Text c) (Meets Q texts) (λ v m. (texts-met texts v).0 m) values one))
      ],
      λ w. inr (subst (λ (own : Kind). OneMatches false (ValueMatches own c) values) (sym same)
          (one-weaker false (Meets Q texts) (ValueMatches kind.Text c) (λ v m. (texts-met texts v).1 m) values
          (one-meets Q texts values few (any-weaker (GivesText r name) (λ t. Any (Q t) values) (λ t g. contains-any values (value.Word t) g) texts w)))),
    )

pub text-denies : (schema : Schema) (r : Request) (name : List ℕ) (texts : List (List ℕ)) → IsValid schema r → HasSingleKey schema name kind.Text →
    Decides schema false r (denial None (has_one_of StringEquals name (text_values texts) ∷ [])) ↔ Any (GivesText r name) texts
text-denies schema r name texts valid has =
    let holds = text-holds schema r name texts kind.Text (kind-given schema name kind.Text has) refl (one-given schema r name kind.Text valid has) in
    let denies = where-denies schema r (has_one_of StringEquals name (text_values texts)) in
    (λ d. holds.0 (denies.0 d), λ w. denies.1 (holds.1 w))

-- ---- blocks

block-meets : (k : Kind) (block : Block) (v : Value) → CondMeets v (cond_of k IpAddress (operand.Block block)) ↔ IsAddressIn block v
block-meets k block (value.Word u) = (λ m. m, λ m. m)
block-meets k block (value.Truth b) = (λ m. m, λ m. m)
block-meets k block (value.Number n) = (λ m. m, λ m. m)
block-meets k block (value.Address a) = (λ m. m, λ m. m)
block-meets k block (value.Bytes bs) = (λ m. m, λ m. m)

blocks-met : (k : Kind) (blocks : List Block) (v : Value) → MeetsSome (map (cond_of k IpAddress) (block_values blocks)) v ↔ Any (λ block. IsAddressIn block v) blocks
blocks-met k blocks v = (
  λ m. any-weaker (λ block. CondMeets v (cond_of k IpAddress (operand.Block block))) (λ block. IsAddressIn block v) (λ block h. (block-meets k block v).0 h) blocks
      ((Any-map (λ o. CondMeets v (cond_of k IpAddress o)) operand.Block blocks).0
      ((Any-map (CondMeets v) (cond_of k IpAddress) (block_values blocks)).0 m)),
  λ w. (Any-map (CondMeets v) (cond_of k IpAddress) (block_values blocks)).1
      ((Any-map (λ o. CondMeets v (cond_of k IpAddress o)) operand.Block blocks).1
      (any-weaker (λ block. IsAddressIn block v) (λ block. CondMeets v (cond_of k IpAddress (operand.Block block))) (λ block h. (block-meets k block v).1 h) blocks w)),
)

block-holds : (schema : Schema) (r : Request) (name : List ℕ) (blocks : List Block) → length (values_at r (key_named name)) ≤ 1 →
    ConditionHolds schema r (has_one_of IpAddress name (block_values blocks)) ↔ Any (GivesAddressIn r name) blocks
block-holds schema r name blocks few =
    let values = values_at r (key_named name) in
    let c = has_one_of IpAddress name (block_values blocks) in
    let k = kind_at schema (key_named name) in (
      λ h. elim h [
        | inl none ↦ absurd (cc)
        | inr holds ↦ met-by-one IsAddressIn blocks values (one-weaker false (ValueMatches k c) (Meets IsAddressIn blocks) (λ v m. (blocks-met k blocks v).0 m) values holds)
      ],
      λ w. inr (one-weaker false (Meets IsAddressIn blocks) (ValueMatches k c) (λ v m. (blocks-met k blocks v).1 m) values (one-meets IsAddressIn blocks values few w)),
    )

pub block-denies : (schema : Schema) (r : Request) (blocks : List Block) → IsValid schema r → HasSingleKey schema address_name kind.Address →
    Decides schema false r (denial None (has_one_of IpAddress address_name (block_values blocks) ∷ [])) ↔ Any (GivesAddressIn r address_name) blocks
block-denies schema r blocks valid has =
    let holds = block-holds schema r address_name blocks (one-given schema r address_name kind.Address valid has) in
    let denies = where-denies schema r (has_one_of IpAddress address_name (block_values blocks)) in
    (λ d. holds.0 (denies.0 d), λ w. denies.1 (holds.1 w))
