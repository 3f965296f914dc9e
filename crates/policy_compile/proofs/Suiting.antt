-- The tests that conditions ask suit a schema that fits.
use Rattle.std.proofs.Common.{◌≡◌, List, [], ◌∷◌, get_or, map, false, Option, Some, None, refl, ap, subst, sym}
use Rattle.std.specs.Prelude.{◌≢◌, ⊤, ℕ, IsTrue, All, Contains, MatchOption, option_map, unwrap_or}
use Rattle.std.proofs.lemmas.List.Elements.{All-cons, All-contains, All-head, All-nil, All-tail}
use Rattle.text_table.specs.Table.{item_at}
use Rattle.policy_model.specs.Conds.{IsCondOf}
use Rattle.policy_model.specs.Conditions.{conds_of, kind_at}
use Rattle.policy_model.specs.Operators.{IsOperandOf, cond_of, family_of, is_null, takes_family}
use Rattle.policy_model.specs.Soundness.{ConditionFits, ConditionIsSound, IsKeyWith, RuleTakes, TestSuits}
use Rattle.policy_model.specs.declared.cond.Cond.{Cond}
use Rattle.policy_model.specs.declared.operator.Base.{Base}
use Rattle.policy_model.specs.declared.operator.Base.TheVariants as base
use Rattle.policy_model.specs.declared.operator.Condition.{Condition}
use Rattle.policy_model.specs.declared.operator.Family.{Family}
use Rattle.policy_model.specs.declared.operator.Family.TheVariants as family
use Rattle.policy_model.specs.declared.operator.Operand.{Operand}
use Rattle.policy_model.specs.declared.operator.Operand.TheVariants as operand
use Rattle.policy_model.specs.declared.schema.KeyRule.{KeyRule}
use Rattle.policy_model.specs.declared.schema.Schema.{Schema}
use Rattle.policy_model.specs.declared.test.Test.{Test}
use Rattle.policy_model.specs.declared.test.Test.TheVariants.{Principal, Action, Resource, Present, SomeMeets, SomeMeetsNone}
use Rattle.policy_model.specs.declared.value.Kind.{Kind}
use Rattle.policy_model.specs.declared.value.Kind.TheVariants as kind
use Rattle.policy_compile.specs.Asked.{ConditionAsks}

-- what a value asks by an operator of the family f is asked of values of the kind, where that takes the family
cond-suits : (k : Kind) (f : Family) (b : Base) (o : Operand) → IsTrue (takes_family k f) → f ≢ family.Null → IsOperandOf f o → IsCondOf k (cond_of k b o)
cond-suits kind.Text family.Text b (operand.Pattern p) takes other form = refl
cond-suits kind.Truth family.Text b (operand.Pattern p) takes other form = refl
cond-suits kind.Number family.Text b (operand.Pattern p) takes other form = absurd (cc)
cond-suits kind.Address family.Text b (operand.Pattern p) takes other form = absurd (cc)
cond-suits kind.Bytes family.Text b (operand.Pattern p) takes other form = absurd (cc)
cond-suits k family.Numeric b (operand.Pattern p) takes other form = absurd form
cond-suits k family.Date b (operand.Pattern p) takes other form = absurd form
cond-suits k family.Bool b (operand.Pattern p) takes other form = absurd form
cond-suits k family.Binary b (operand.Pattern p) takes other form = absurd form
cond-suits k family.Address b (operand.Pattern p) takes other form = absurd form
cond-suits kind.Text family.Arn b (operand.Pattern p) takes other form = refl
cond-suits kind.Truth family.Arn b (operand.Pattern p) takes other form = absurd (cc)
cond-suits kind.Number family.Arn b (operand.Pattern p) takes other form = absurd (cc)
cond-suits kind.Address family.Arn b (operand.Pattern p) takes other form = absurd (cc)
cond-suits kind.Bytes family.Arn b (operand.Pattern p) takes other form = absurd (cc)
cond-suits k family.Null b (operand.Pattern p) takes other form = absurd form
cond-suits k family.Text b (operand.Number n) takes other form = absurd form
cond-suits kind.Text family.Numeric b (operand.Number n) takes other form = absurd (cc)
cond-suits kind.Truth family.Numeric b (operand.Number n) takes other form = absurd (cc)
cond-suits kind.Number family.Numeric b (operand.Number n) takes other form = refl
cond-suits kind.Address family.Numeric b (operand.Number n) takes other form = absurd (cc)
cond-suits kind.Bytes family.Numeric b (operand.Number n) takes other form = absurd (cc)
cond-suits kind.Text family.Date b (operand.Number n) takes other form = absurd (cc)
cond-suits kind.Truth family.Date b (operand.Number n) takes other form = absurd (cc)
cond-suits kind.Number family.Date b (operand.Number n) takes other form = refl
cond-suits kind.Address family.Date b (operand.Number n) takes other form = absurd (cc)
cond-suits kind.Bytes family.Date b (operand.Number n) takes other form = absurd (cc)
cond-suits k family.Bool b (operand.Number n) takes other form = absurd form
cond-suits k family.Binary b (operand.Number n) takes other form = absurd form
cond-suits k family.Address b (operand.Number n) takes other form = absurd form
cond-suits k family.Arn b (operand.Number n) takes other form = absurd form
cond-suits k family.Null b (operand.Number n) takes other form = absurd form
cond-suits k family.Text b (operand.Block block) takes other form = absurd form
cond-suits k family.Numeric b (operand.Block block) takes other form = absurd form
cond-suits k family.Date b (operand.Block block) takes other form = absurd form
cond-suits k family.Bool b (operand.Block block) takes other form = absurd form
cond-suits k family.Binary b (operand.Block block) takes other form = absurd form
cond-suits kind.Text family.Address b (operand.Block block) takes other form = absurd (cc)
cond-suits kind.Truth family.Address b (operand.Block block) takes other form = absurd (cc)
cond-suits kind.Number family.Address b (operand.Block block) takes other form = absurd (cc)
cond-suits kind.Address family.Address b (operand.Block block) takes other form = refl
cond-suits kind.Bytes family.Address b (operand.Block block) takes other form = absurd (cc)
cond-suits k family.Arn b (operand.Block block) takes other form = absurd form
cond-suits k family.Null b (operand.Block block) takes other form = absurd form
cond-suits k family.Text b (operand.Truth t) takes other form = absurd form
cond-suits k family.Numeric b (operand.Truth t) takes other form = absurd form
cond-suits k family.Date b (operand.Truth t) takes other form = absurd form
cond-suits kind.Text family.Bool b (operand.Truth t) takes other form = refl
cond-suits kind.Truth family.Bool b (operand.Truth t) takes other form = refl
cond-suits kind.Number family.Bool b (operand.Truth t) takes other form = absurd (cc)
cond-suits kind.Address family.Bool b (operand.Truth t) takes other form = absurd (cc)
cond-suits kind.Bytes family.Bool b (operand.Truth t) takes other form = absurd (cc)
cond-suits k family.Binary b (operand.Truth t) takes other form = absurd form
cond-suits k family.Address b (operand.Truth t) takes other form = absurd form
cond-suits k family.Arn b (operand.Truth t) takes other form = absurd form
cond-suits k family.Null b (operand.Truth t) takes other form = absurd (other refl)
cond-suits k family.Text b (operand.Bytes bytes) takes other form = absurd form
cond-suits k family.Numeric b (operand.Bytes bytes) takes other form = absurd form
cond-suits k family.Date b (operand.Bytes bytes) takes other form = absurd form
cond-suits k family.Bool b (operand.Bytes bytes) takes other form = absurd form
cond-suits kind.Text family.Binary b (operand.Bytes bytes) takes other form = absurd (cc)
cond-suits kind.Truth family.Binary b (operand.Bytes bytes) takes other form = absurd (cc)
cond-suits kind.Number family.Binary b (operand.Bytes bytes) takes other form = absurd (cc)
cond-suits kind.Address family.Binary b (operand.Bytes bytes) takes other form = absurd (cc)
cond-suits kind.Bytes family.Binary b (operand.Bytes bytes) takes other form = refl
cond-suits k family.Address b (operand.Bytes bytes) takes other form = absurd form
cond-suits k family.Arn b (operand.Bytes bytes) takes other form = absurd form
cond-suits k family.Null b (operand.Bytes bytes) takes other form = absurd form

-- `Null` is the only operator of its family
not-null : (b : Base) → is_null b ≡ false → family_of b ≢ family.Null
not-null base.StringEquals other = λ e. absurd (cc)
not-null base.StringNotEquals other = λ e. absurd (cc)
not-null base.StringEqualsIgnoreCase other = λ e. absurd (cc)
not-null base.StringNotEqualsIgnoreCase other = λ e. absurd (cc)
not-null base.StringLike other = λ e. absurd (cc)
not-null base.StringNotLike other = λ e. absurd (cc)
not-null base.NumericEquals other = λ e. absurd (cc)
not-null base.NumericNotEquals other = λ e. absurd (cc)
not-null base.NumericLessThan other = λ e. absurd (cc)
not-null base.NumericLessThanEquals other = λ e. absurd (cc)
not-null base.NumericGreaterThan other = λ e. absurd (cc)
not-null base.NumericGreaterThanEquals other = λ e. absurd (cc)
not-null base.DateEquals other = λ e. absurd (cc)
not-null base.DateNotEquals other = λ e. absurd (cc)
not-null base.DateLessThan other = λ e. absurd (cc)
not-null base.DateLessThanEquals other = λ e. absurd (cc)
not-null base.DateGreaterThan other = λ e. absurd (cc)
not-null base.DateGreaterThanEquals other = λ e. absurd (cc)
not-null base.Bool other = λ e. absurd (cc)
not-null base.BinaryEquals other = λ e. absurd (cc)
not-null base.IpAddress other = λ e. absurd (cc)
not-null base.NotIpAddress other = λ e. absurd (cc)
not-null base.ArnEquals other = λ e. absurd (cc)
not-null base.ArnLike other = λ e. absurd (cc)
not-null base.ArnNotEquals other = λ e. absurd (cc)
not-null base.ArnNotLike other = λ e. absurd (cc)
not-null base.Null other = λ e. absurd (cc)

-- ---- the tests of one key

-- a key that is found suits each test on it that its rule suits
found-suits : (found : Option KeyRule) (P Q : KeyRule → Type 0) → ((rule : KeyRule) → found ≡ Some rule → P rule → Q rule) → MatchOption found ⊥ P → MatchOption found ⊥ Q
found-suits None P Q suits h = absurd h
found-suits (Some rule) P Q suits h = suits rule refl h

-- the kind that is read off what is found
abbrev kind_found : Option KeyRule → Kind
kind_found found = unwrap_or (option_map (λ rule. rule.kind) found) kind.Text

All-mapped : {X Y : Type 0} (P : Y → Type 0) (f : X → Y) (xs : List X) → All (λ x. P (f x)) xs → All P (map f xs)
All-mapped P f [] h = All-nil P
All-mapped P f (x ∷ xs) h = All-cons P (f x) (map f xs) (All-head (λ y. P (f y)) x xs h) (All-mapped P f xs (All-tail (λ y. P (f y)) x xs h))

-- the condition is one that the schema's rule of the key takes, and its values are of the operator's form
abbrev pub Fine : Schema → Condition → Type 0
Fine schema c = ConditionFits schema c × ConditionIsSound c

-- the form of the condition's values, and what a value asks
abbrev Form : Condition → Operand → Type 0
Form c o = IsOperandOf (family_of c.operator.base) o

abbrev Asked : Schema → Condition → Operand → Cond
Asked schema c o = cond_of (kind_at schema c.key) c.operator.base o

module _ (schema : Schema) (c : Condition) (fine : Fine schema c) where
  -- a test on the key suits, where the rule of the key says so
  test-suits : (Q : KeyRule → Type 0) → ((rule : KeyRule) → item_at c.key schema.keys ≡ Some rule → RuleTakes rule c.operator → Q rule) → IsKeyWith schema Q c.key
  test-suits Q suits = found-suits (item_at c.key schema.keys) (λ rule. RuleTakes rule c.operator) Q suits fine.0

  -- what a value asks is asked of values of the rule's kind
  rule-suits : is_null c.operator.base ≡ false → (rule : KeyRule) → item_at c.key schema.keys ≡ Some rule → RuleTakes rule c.operator → (o : Operand) → Form c o → IsCondOf rule.kind (Asked schema c o)
  rule-suits other rule found takes o form =
      subst (λ (k : Kind). IsCondOf rule.kind (cond_of k c.operator.base o)) (sym (ap kind_found found))
      (cond-suits rule.kind (family_of c.operator.base) c.operator.base o takes.kind (not-null c.operator.base other) form)

  value-suits : is_null c.operator.base ≡ false → (o : Operand) → Form c o → IsKeyWith schema (λ rule. IsCondOf rule.kind (Asked schema c o)) c.key
  value-suits other o form = test-suits (λ rule. IsCondOf rule.kind (Asked schema c o)) (λ rule found takes. rule-suits other rule found takes o form)

  values-suit : is_null c.operator.base ≡ false → IsKeyWith schema (λ rule. All (IsCondOf rule.kind) (conds_of (kind_at schema c.key) c)) c.key
  values-suit other =
      test-suits (λ rule. All (IsCondOf rule.kind) (conds_of (kind_at schema c.key) c))
      (λ rule found takes. All-mapped (IsCondOf rule.kind) (Asked schema c) c.values (λ i o within. rule-suits other rule found takes (get_or c.values i o) (fine.1.values i o within)))

  value-form : (o : Operand) → Contains c.values o → Form c o
  value-form o at = All-contains (Form c) c.values o fine.1.values at

  -- a test that the condition asks suits
  pub asked-suits : (t : Test) → ConditionAsks schema t c → TestSuits schema t
  asked-suits (Principal entry) h = absurd h
  asked-suits (Action pattern) h = absurd h
  asked-suits (Resource pattern) h = absurd h
  asked-suits (Present key) h = subst (λ (k : List ℕ). IsKeyWith schema (λ rule. ⊤) k) h (test-suits (λ rule. ⊤) (λ rule found takes. tt))
  asked-suits (SomeMeets key asked) h =
      let some = h.value in
      subst (λ (k : List ℕ). IsKeyWith schema (λ rule. IsCondOf rule.kind asked) k) h.key_is
      (subst (λ (x : Cond). IsKeyWith schema (λ rule. IsCondOf rule.kind x) c.key) (sym some.4) (value-suits h.compares some.1 (value-form some.1 (some.0, some.2, some.3))))
  asked-suits (SomeMeetsNone key asked) h =
      subst (λ (k : List ℕ). IsKeyWith schema (λ rule. All (IsCondOf rule.kind) asked) k) h.key_is
      (subst (λ (xs : List Cond). IsKeyWith schema (λ rule. All (IsCondOf rule.kind) xs) c.key) (sym h.values) (values-suit h.compares))
