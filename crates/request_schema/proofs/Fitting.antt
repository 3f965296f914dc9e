-- The schema of a run without a fault takes each use.
use Rattle.std.proofs.Common.{◌≡◌, ◌≢◌, ◌<◌, ℕ, zero, suc, List, [], ◌∷◌, ◌++◌, Bool, true, false, not, ◌&&◌, is_none, Option, Some, None, option_map, unwrap_or, filter, length, get_or, All, refl, ap, sym, ◌∙◌, subst, arith}
use Rattle.std.specs.Prelude.{if◌then◌else◌, MatchOption}
use Rattle.std.specs.List.{flat_map, list_all}
use Rattle.std.proofs.lemmas.List.Elements.{All-cons, All-nil}
use Rattle.text_table.specs.Table.{item_at}
use Rattle.json_shapes.specs.Checks.{first_fault}
use Rattle.policy_model.specs.declared.operator.Base.{Base}
use Rattle.policy_model.specs.declared.operator.Base.TheVariants as base
use Rattle.policy_model.specs.declared.operator.Family.{Family}
use Rattle.policy_model.specs.declared.operator.Family.TheVariants as family
use Rattle.policy_model.specs.declared.operator.Operator.{Operator}
use Rattle.policy_model.specs.declared.operator.Quantifier.TheVariants.{Plain}
use Rattle.policy_model.specs.declared.schema.KeyRule.{KeyRule}
use Rattle.policy_model.specs.declared.schema.Schema.{Schema}
use Rattle.policy_model.specs.declared.value.Kind.{Kind}
use Rattle.policy_model.specs.declared.value.Kind.TheVariants as kind
use Rattle.policy_model.specs.Operators.{family_of, is_null, takes_family}
use Rattle.policy_model.specs.Soundness.{ConditionFits, RuleTakes}
use Rattle.request_schema.specs.BuiltIn.{is_key}
use Rattle.request_schema.specs.RunSchemas.{UseCheck, are_bools, asks_one, checks_among, expected_kind, fixed_kind, infer_checks, is_named_plural, many_from, rule_from, rule_in_use, schema_for, use_check}
use Rattle.request_schema.specs.Uses.{Use, comparing_uses, compares_values, is_bool, is_plain, of_key, use_family}
use Rattle.request_schema.proofs.Entries.{is_key-same}
use Rattle.request_schema.proofs.Further.{run-rule-found}
use Rattle.request_schema.proofs.Listed.{and-both}

-- ---- checks that are passed

if-none : {F : Type 0} (b : Bool) (own : F) (rest : Option F) → (if b then rest else Some own) ≡ None → (b ≡ true) × (rest ≡ None)
if-none true own rest e = (refl, e)
if-none false own rest e = absurd (cc)

none-both : (a b : List UseCheck) → first_fault (a ++ b) ≡ None → (first_fault a ≡ None) × (first_fault b ≡ None)
none-both [] b e = (refl, e)
none-both (c ∷ cs) b e =
    let here = if-none c.passes c.fault (first_fault (cs ++ b)) e in
    let rest = none-both cs b here.1 in
    (ap (λ (p : Bool). if p then first_fault cs else Some c.fault) here.0 ∙ rest.0, rest.1)

each-passed : (f : Use → List UseCheck) (us : List Use) → first_fault (flat_map f us) ≡ None → All (λ u. first_fault (f u) ≡ None) us
each-passed f [] e = All-nil (λ u. first_fault (f u) ≡ None)
each-passed f (u ∷ us) e = let both = none-both (f u) (flat_map f us) e in All-cons (λ v. first_fault (f v) ≡ None) u us both.0 (each-passed f us both.1)

two-passed : (u : Use) (p q : Bool) → first_fault (use_check u p false ∷ use_check u q true ∷ []) ≡ None → (p ≡ true) × (q ≡ true)
two-passed u p q e =
    let first = if-none p (use_check u p false).fault (first_fault (use_check u q true ∷ [])) e in
    (first.0, (if-none q (use_check u q true).fault None first.1).0)

-- ---- uses among others

in-use : (q : Use → Bool) (us cs : List Use) (i : ℕ) (d : Use) → i < length us → q (get_or us i d) ≡ true → rule_in_use (filter q us) cs ≡ Some (rule_from cs)
in-use q [] cs i d within is = absurd (omega (arith, within))
in-use q (x ∷ xs) cs zero d within is = ap (λ (b : Bool). rule_in_use (if b then x ∷ filter q xs else filter q xs) cs) is
in-use q (x ∷ xs) cs (suc i) d within is = more-use (q x) x (filter q xs) cs (in-use q xs cs i d (omega (arith, within)) is)
  where
    more-use : (b : Bool) (x : Use) (f cs : List Use) → rule_in_use f cs ≡ Some (rule_from cs) → rule_in_use (if b then x ∷ f else f) cs ≡ Some (rule_from cs)
    more-use true x f cs e = refl
    more-use false x f cs e = e

rest-all : (p : Use → Bool) (b : Bool) (x : Use) (f : List Use) → list_all p (if b then x ∷ f else f) ≡ true → list_all p f ≡ true
rest-all p true x f e = (and-both (p x) (list_all p f) e).1
rest-all p false x f e = e

all-filtered : (p q : Use → Bool) (us : List Use) (i : ℕ) (d : Use) → list_all p (filter q us) ≡ true → i < length us → q (get_or us i d) ≡ true → p (get_or us i d) ≡ true
all-filtered p q [] i d all within is = absurd (omega (arith, within))
all-filtered p q (x ∷ xs) zero d all within is =
    let here : list_all p (x ∷ filter q xs) ≡ true = subst (λ (b : Bool). list_all p (if b then x ∷ filter q xs else filter q xs) ≡ true) is all in
    (and-both (p x) (list_all p (filter q xs)) here).0
all-filtered p q (x ∷ xs) (suc i) d all within is = all-filtered p q xs i d (rest-all p (q x) x (filter q xs) all) (omega (arith, within)) is

-- ---- operators

null-is : (b : Base) → is_null b ≡ true → b ≡ base.Null
null-is base.Null e = refl
null-is b e = absurd (cc)

bool-is : (f : Family) → is_bool f ≡ true → f ≡ family.Bool
bool-is family.Bool e = refl
bool-is f e = absurd (cc)

not-true : (b : Bool) → (b ≡ true → ⊥) → b ≡ false
not-true true no_way = absurd (no_way refl)
not-true false no_way = refl

compares-null : (b : Base) → b ≢ base.Null → is_null b ≡ false
compares-null b other = not-true (is_null b) (λ e. other (null-is b e))

-- an operator without a prefix but `Null` asks for one value
asks : (o : Operator) → o.base ≢ base.Null → o.quantifier ≡ Plain → asks_one o ≡ true
asks o other plain = ap (λ q. is_plain q && not (is_null o.base)) plain ∙ ap not (compares-null o.base other)

-- ---- a named key

single : (many ask : Bool) → not (many && ask) ≡ true → ask ≡ true → many ≡ false
single true true e asks = absurd (cc)
single true false e asks = absurd (cc)
single false ask e asks = refl

named-takes : (rule : KeyRule) (o : Operator) → takes_family rule.kind (family_of o.base) ≡ true → not (rule.many && asks_one o) ≡ true → RuleTakes rule o
named-takes rule o takes one = record {
  kind = takes;
  single = λ other plain. single rule.many (asks_one o) one (asks o other plain);
}

-- ---- a further key

bools-all : (cs : List Use) → are_bools cs ≡ true → list_all (λ v. is_bool (use_family v)) cs ≡ true
bools-all [] e = absurd (cc)
bools-all (c ∷ cs) e = e

truth-takes : (b : Base) (f : Family) → f ≡ family_of b → (is_null b ≡ false → is_bool f ≡ true) → takes_family kind.Truth f ≡ true
truth-takes b f is bool = by (is_null b) refl
  where
    by : (null : Bool) → is_null b ≡ null → takes_family kind.Truth f ≡ true
    by true e = ap (takes_family kind.Truth) (is ∙ ap family_of (null-is b e))
    by false e = ap (takes_family kind.Truth) (bool-is f (bool e))

kind-takes : (bools : Bool) (k : Kind) (f : Family) → takes_family k f ≡ true → (bools ≡ true → takes_family kind.Truth f ≡ true) → takes_family (if bools then kind.Truth else k) f ≡ true
kind-takes true k f takes truth = truth refl
kind-takes false k f takes truth = takes

module _ (us : List Use) (i : ℕ) (d : Use) (within : i < length us) where
  abbrev this : Use
  this = get_or us i d

  abbrev mine : List Use
  mine = comparing_uses this.condition.key us

  here : is_null this.condition.operator.base ≡ false → compares_values this.condition.key this ≡ true
  here compared = ap (λ (b : Bool). b && not (is_null this.condition.operator.base)) (is_key-same this.condition.key) ∙ ap not compared

  further-takes : takes_family (fixed_kind mine) (use_family this) ≡ true → RuleTakes (rule_from mine) this.condition.operator
  further-takes takes = record {
    kind = kind-takes (are_bools mine) (fixed_kind mine) (use_family this) takes (λ bools. truth-takes this.condition.operator.base (use_family this) refl (λ compared.
        all-filtered (λ v. is_bool (use_family v)) (compares_values this.condition.key) us i d (bools-all mine bools) within (here compared)));
    single = λ other plain. not-true (many_from mine) (λ all.
        let prefixed = all-filtered (λ v. not (is_plain v.condition.operator.quantifier)) (compares_values this.condition.key) us i d all within (here (compares-null this.condition.operator.base other)) in
        let lacks : not (is_plain this.condition.operator.quantifier) ≡ false = ap (λ q. not (is_plain q)) plain in
        cc);
  }

  -- the rule that a run gives the use's key
  taken : (named : Schema) (o : Option KeyRule) → takes_family (unwrap_or (option_map (λ rule. rule.kind) o) (fixed_kind mine)) (use_family this) ≡ true → not (unwrap_or (option_map (λ rule. rule.many) o) false && asks_one this.condition.operator) ≡ true
      → MatchOption (if is_none o then rule_in_use (of_key this.condition.key us) mine else o) ⊥ (λ rule. RuleTakes rule this.condition.operator)
  taken named (Some rule) takes one = named-takes rule this.condition.operator takes one
  taken named None takes one =
      let found = in-use (λ v. is_key this.condition.key v.condition.key) us mine i d within (is_key-same this.condition.key) in
      subst (λ (o : Option KeyRule). MatchOption o ⊥ (λ rule. RuleTakes rule this.condition.operator)) (sym found) (further-takes takes)

  use-fits : (named : Schema) → first_fault (checks_among named us this) ≡ None → ConditionFits (schema_for named us) this.condition
  use-fits named passed =
      let both = two-passed this (takes_family (expected_kind named (fixed_kind mine) this) (use_family this)) (not (is_named_plural named this && asks_one this.condition.operator)) passed in
      subst (λ (o : Option KeyRule). MatchOption o ⊥ (λ rule. RuleTakes rule this.condition.operator)) (sym (run-rule-found named.keys us this.condition.key)) (taken named (item_at this.condition.key named.keys) both.0 both.1)

-- the schema of a run without a fault fits each use
pub run-fits : (named : Schema) (us : List Use) → first_fault (infer_checks named us) ≡ None → All (λ u. ConditionFits (schema_for named us) u.condition) us
run-fits named us none = λ i d within. use-fits us i d within named (each-passed (checks_among named us) us none i d within)
