-- The tests of what is permitted tell what the model's relations say.
use Rattle.std.proofs.Common.{◌≡◌, ◌<◌, ◌≤◌, ◌⊎◌, ℕ, zero, suc, List, [], ◌∷◌, Bool, true, false, ◌&&◌, ◌||◌, Option, None, Some, length, get_or, All, nat_le, refl, sym, ap, subst, ◌∙◌, inl, inr, arith}
use Rattle.std.specs.Prelude.{Contains}
use Rattle.std.specs.Bool.{Decides, beq}
use Rattle.std.specs.List.{list_all, list_any}
use Rattle.std.proofs.lemmas.Bool.{eqb-true, eq-eqb, leb-true, le-leb}
use Rattle.std.proofs.lemmas.Bool.Decides.{Decides-int_eq}
use Rattle.std.proofs.lemmas.List.Elements.{All-nil, All-cons, All-head, All-tail}
use Rattle.std.proofs.lemmas.Slice.Eq.{bytes_eq-Decides}
use Rattle.cidr_bits.specs.declared.address.Address as address
use Rattle.cidr_bits.specs.declared.address.Address.TheVariants.{V4, V6}
use Rattle.wildcard_lang.specs.declared.piece.Piece.{Piece}
use Rattle.wildcard_lang.proofs.Laws.{Decides-accepts}
use Rattle.policy_model.specs.declared.schema.KeyRule.{KeyRule}
use Rattle.policy_model.specs.declared.value.Value.{Value}
use Rattle.policy_model.specs.declared.value.Value.TheVariants.{Word, Truth, Number, Address, Bytes}
use Rattle.policy_model.specs.Requests.{FitsShape, IsListed, IsOfKind, IsValueOf, PermitsValues, ValueFits}
use Rattle.request_json.specs.RequestKeys.{are_permitted, fits_shape, is_count, is_listed, is_same_value, same_address, value_fits}

pub and-both : (a b : Bool) → (a && b) ≡ true → (a ≡ true) × (b ≡ true)
and-both true b e = (refl, e)
and-both false b e = absurd (cc)

pub and-of : (a b : Bool) → a ≡ true → b ≡ true → (a && b) ≡ true
and-of true b p q = q
and-of false b p q = absurd (cc)

-- a test is what any answer is that says the same
pub told : (P : Type 0) (b c : Bool) → Decides c P → (b ≡ true → P) → (P → b ≡ true) → b ≡ c
told P true true d to from = refl
told P true false d to from = absurd (let e = d.1 (to refl) in cc)
told P false true d to from = absurd (let e = from (d.0 refl) in cc)
told P false false d to from = refl

-- ---- shapes

pub fits-shape : (shape : Option (List Piece)) (t : List ℕ) → Decides (fits_shape shape t) (FitsShape shape t)
fits-shape None t = (λ e. tt, λ h. refl)
fits-shape (Some ps) t = Decides-accepts ps t

fits : (shape : Option (List Piece)) (v : Value) → Decides (value_fits shape v) (ValueFits shape v)
fits shape (Word t) = fits-shape shape t
fits shape (Truth b) = (λ e. tt, λ h. refl)
fits shape (Number n) = (λ e. tt, λ h. refl)
fits shape (Address a) = (λ e. tt, λ h. refl)
fits shape (Bytes bs) = (λ e. tt, λ h. refl)

-- ---- equal values

truth-is : (a b : Bool) → beq a b ≡ true → a ≡ b
truth-is true true e = refl
truth-is true false e = absurd (cc)
truth-is false true e = absurd (cc)
truth-is false false e = refl

truth-itself : (a : Bool) → beq a a ≡ true
truth-itself true = refl
truth-itself false = refl

address-is : (a b : address.Address) → same_address a b ≡ true → a ≡ b
address-is (V4 n) (V4 m) e = ap V4 (eqb-true n m e)
address-is (V4 n) (V6 m) e = absurd (cc)
address-is (V6 n) (V4 m) e = absurd (cc)
address-is (V6 n) (V6 m) e = ap V6 (eqb-true n m e)

address-itself : (a : address.Address) → same_address a a ≡ true
address-itself (V4 n) = eq-eqb n n refl
address-itself (V6 n) = eq-eqb n n refl

same-is : (v w : Value) → is_same_value v w ≡ true → v ≡ w
same-is (Word t) (Word u) e = ap Word ((bytes_eq-Decides t u).0 e)
same-is (Truth a) (Truth b) e = ap Truth (truth-is a b e)
same-is (Number n) (Number m) e = ap Number ((Decides-int_eq n m).0 e)
same-is (Address a) (Address b) e = ap Address (address-is a b e)
same-is (Bytes bs) (Bytes cs) e = ap Bytes ((bytes_eq-Decides bs cs).0 e)
same-is (Word t) (Truth b) e = absurd (cc)
same-is (Word t) (Number m) e = absurd (cc)
same-is (Word t) (Address b) e = absurd (cc)
same-is (Word t) (Bytes cs) e = absurd (cc)
same-is (Truth a) (Word u) e = absurd (cc)
same-is (Truth a) (Number m) e = absurd (cc)
same-is (Truth a) (Address b) e = absurd (cc)
same-is (Truth a) (Bytes cs) e = absurd (cc)
same-is (Number n) (Word u) e = absurd (cc)
same-is (Number n) (Truth b) e = absurd (cc)
same-is (Number n) (Address b) e = absurd (cc)
same-is (Number n) (Bytes cs) e = absurd (cc)
same-is (Address a) (Word u) e = absurd (cc)
same-is (Address a) (Truth b) e = absurd (cc)
same-is (Address a) (Number m) e = absurd (cc)
same-is (Address a) (Bytes cs) e = absurd (cc)
same-is (Bytes bs) (Word u) e = absurd (cc)
same-is (Bytes bs) (Truth b) e = absurd (cc)
same-is (Bytes bs) (Number m) e = absurd (cc)
same-is (Bytes bs) (Address b) e = absurd (cc)

same-itself : (v : Value) → is_same_value v v ≡ true
same-itself (Word t) = (bytes_eq-Decides t t).1 refl
same-itself (Truth b) = truth-itself b
same-itself (Number n) = (Decides-int_eq n n).1 refl
same-itself (Address a) = address-itself a
same-itself (Bytes bs) = (bytes_eq-Decides bs bs).1 refl

-- ---- listed values

any-here : (b : Bool) (v w : Value) (rest : List Value) → is_same_value v w ≡ b → (list_any (is_same_value v) rest ≡ true → Contains rest v) → (b || list_any (is_same_value v) rest) ≡ true → Contains (w ∷ rest) v
any-here true v w rest is later e = (0, omega arith, sym (same-is v w is))
any-here false v w rest is later e = let r = later e in (suc r.0, omega arith, r.2)

contains-of : (v : Value) (listed : List Value) → list_any (is_same_value v) listed ≡ true → Contains listed v
contains-of v [] e = absurd (cc)
contains-of v (w ∷ rest) e = any-here (is_same_value v w) v w rest refl (contains-of v rest) e

or-first : (a b : Bool) → a ≡ true → (a || b) ≡ true
or-first true b e = refl
or-first false b e = absurd (cc)

or-second : (a b : Bool) → b ≡ true → (a || b) ≡ true
or-second true b e = refl
or-second false b e = e

any-of : (v : Value) (listed : List Value) (k : ℕ) → k < length listed → get_or listed k v ≡ v → list_any (is_same_value v) listed ≡ true
any-of v [] k within at = absurd (omega arith)
any-of v (w ∷ rest) zero within at = or-first (is_same_value v w) _ (subst (λ (u : Value). is_same_value v u ≡ true) (sym at) (same-itself v))
any-of v (w ∷ rest) (suc k) within at = or-second (is_same_value v w) _ (any-of v rest k (omega arith) at)

listed-is : (among : Option (List Value)) (v : Value) → Decides (is_listed among v) (IsListed among v)
listed-is None v = (λ e. tt, λ h. refl)
listed-is (Some listed) v = (contains-of v listed, λ h. any-of v listed h.0 h.1 h.2)

-- ---- each value, and all of them

each-to : (rule : KeyRule) (vs : List Value) → All (IsOfKind rule.kind) vs → list_all (λ v. value_fits rule.shape v && is_listed rule.among v) vs ≡ true → All (IsValueOf rule) vs
each-to rule [] kinds e = All-nil (IsValueOf rule)
each-to rule (v ∷ vs) kinds e =
    let both = and-both (value_fits rule.shape v && is_listed rule.among v) (list_all (λ v. value_fits rule.shape v && is_listed rule.among v) vs) e in
    let own = and-both (value_fits rule.shape v) (is_listed rule.among v) both.0 in
    All-cons (IsValueOf rule) v vs (record { kind = All-head (IsOfKind rule.kind) v vs kinds; fits = (fits rule.shape v).0 own.0; listed = (listed-is rule.among v).0 own.1 }) (each-to rule vs (All-tail (IsOfKind rule.kind) v vs kinds) both.1)

each-from : (rule : KeyRule) (vs : List Value) → All (IsValueOf rule) vs → list_all (λ v. value_fits rule.shape v && is_listed rule.among v) vs ≡ true
each-from rule [] all = refl
each-from rule (v ∷ vs) all =
    let own = All-head (IsValueOf rule) v vs all in
    and-of (value_fits rule.shape v && is_listed rule.among v) _ (and-of (value_fits rule.shape v) (is_listed rule.among v) ((fits rule.shape v).1 own.fits) ((listed-is rule.among v).1 own.listed)) (each-from rule vs (All-tail (IsValueOf rule) v vs all))

count-to : (many few : Bool) (n : ℕ) → nat_le n 1 ≡ few → (many || few) ≡ true → (many ≡ true) ⊎ (n ≤ 1)
count-to true few n is e = inl refl
count-to false few n is e = inr (leb-true n 1 (is ∙ e))

count-from : (many : Bool) (n : ℕ) → (many ≡ true) ⊎ (n ≤ 1) → (many || nat_le n 1) ≡ true
count-from many n (inl e) = or-first many (nat_le n 1) e
count-from many n (inr few) = or-second many (nat_le n 1) (le-leb n 1 few)

-- values of the kind are permitted by the test exactly where the rule permits them
pub permitted : (rule : KeyRule) (vs : List Value) → All (IsOfKind rule.kind) vs → Decides (are_permitted rule vs) (PermitsValues rule vs)
permitted rule vs kinds = (
  λ e. let both = and-both (is_count rule vs) (list_all (λ v. value_fits rule.shape v && is_listed rule.among v) vs) e in
      record { each = each-to rule vs kinds both.1; count = count-to rule.many (nat_le (length vs) 1) (length vs) refl both.0 },
  λ h. and-of (is_count rule vs) _ (count-from rule.many (length vs) h.count) (each-from rule vs h.each),
)
