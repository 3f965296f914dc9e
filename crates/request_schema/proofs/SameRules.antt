-- Uses that ask no more of a key than others do make no other rule of it.
use Rattle.std.proofs.Common.{◌≡◌, ◌≢◌, List, [], ◌∷◌, ◌++◌, ◌&&◌, Bool, true, false, not, map, if◌then◌else◌, All as Each, refl, ap, ap₂, sym, ◌∙◌, subst}
use Rattle.std.specs.List.{list_all}
use Rattle.std.proofs.lemmas.List.Folds.{list_all-append}
use Rattle.std.proofs.lemmas.List.Elements.{All-head, All-tail}
use Rattle.policy_model.specs.Operators.{family_of, is_null, takes_family}
use Rattle.policy_model.specs.declared.operator.Base.{Base}
use Rattle.policy_model.specs.declared.operator.Base.TheVariants as base
use Rattle.policy_model.specs.declared.operator.Family.{Family}
use Rattle.policy_model.specs.declared.operator.Family.TheVariants as family
use Rattle.policy_model.specs.declared.set.StatementName.{StatementName}
use Rattle.policy_model.specs.declared.value.Kind.{Kind}
use Rattle.policy_model.specs.declared.value.Kind.TheVariants as kind
use Rattle.request_schema.specs.BuiltIn.{plain_rule}
use Rattle.request_schema.specs.RunSchemas.{are_bools, fixed_kind, group_kind, kind_from, many_from, rule_from}
use Rattle.request_schema.specs.Uses.{Use, is_bool, is_plain, use_family, use_of}

-- ---- families and kinds

null-family : (b : Base) → is_null b ≡ false → family_of b ≢ family.Null
null-family base.StringEquals e is = absurd (cc)
null-family base.StringNotEquals e is = absurd (cc)
null-family base.StringEqualsIgnoreCase e is = absurd (cc)
null-family base.StringNotEqualsIgnoreCase e is = absurd (cc)
null-family base.StringLike e is = absurd (cc)
null-family base.StringNotLike e is = absurd (cc)
null-family base.NumericEquals e is = absurd (cc)
null-family base.NumericNotEquals e is = absurd (cc)
null-family base.NumericLessThan e is = absurd (cc)
null-family base.NumericLessThanEquals e is = absurd (cc)
null-family base.NumericGreaterThan e is = absurd (cc)
null-family base.NumericGreaterThanEquals e is = absurd (cc)
null-family base.DateEquals e is = absurd (cc)
null-family base.DateNotEquals e is = absurd (cc)
null-family base.DateLessThan e is = absurd (cc)
null-family base.DateLessThanEquals e is = absurd (cc)
null-family base.DateGreaterThan e is = absurd (cc)
null-family base.DateGreaterThanEquals e is = absurd (cc)
null-family base.Bool e is = absurd (cc)
null-family base.BinaryEquals e is = absurd (cc)
null-family base.IpAddress e is = absurd (cc)
null-family base.NotIpAddress e is = absurd (cc)
null-family base.ArnEquals e is = absurd (cc)
null-family base.ArnLike e is = absurd (cc)
null-family base.ArnNotEquals e is = absurd (cc)
null-family base.ArnNotLike e is = absurd (cc)
null-family base.Null e is = absurd (cc)

-- a kind other than truth that takes a family is that of its group
taken-group : (k : Kind) (f : Family) → k ≢ kind.Truth → f ≢ family.Null → takes_family k f ≡ true → group_kind f ≡ k
taken-group kind.Truth f other some e = absurd (other refl)
taken-group k family.Null other some e = absurd (some refl)
taken-group kind.Text family.Text other some e = refl
taken-group kind.Text family.Arn other some e = refl
taken-group kind.Text family.Bool other some e = refl
taken-group kind.Text family.Numeric other some e = absurd (cc)
taken-group kind.Text family.Date other some e = absurd (cc)
taken-group kind.Text family.Address other some e = absurd (cc)
taken-group kind.Text family.Binary other some e = absurd (cc)
taken-group kind.Number family.Text other some e = absurd (cc)
taken-group kind.Number family.Arn other some e = absurd (cc)
taken-group kind.Number family.Bool other some e = absurd (cc)
taken-group kind.Number family.Numeric other some e = refl
taken-group kind.Number family.Date other some e = refl
taken-group kind.Number family.Address other some e = absurd (cc)
taken-group kind.Number family.Binary other some e = absurd (cc)
taken-group kind.Address family.Text other some e = absurd (cc)
taken-group kind.Address family.Arn other some e = absurd (cc)
taken-group kind.Address family.Bool other some e = absurd (cc)
taken-group kind.Address family.Numeric other some e = absurd (cc)
taken-group kind.Address family.Date other some e = absurd (cc)
taken-group kind.Address family.Address other some e = refl
taken-group kind.Address family.Binary other some e = absurd (cc)
taken-group kind.Bytes family.Text other some e = absurd (cc)
taken-group kind.Bytes family.Arn other some e = absurd (cc)
taken-group kind.Bytes family.Bool other some e = absurd (cc)
taken-group kind.Bytes family.Numeric other some e = absurd (cc)
taken-group kind.Bytes family.Date other some e = absurd (cc)
taken-group kind.Bytes family.Address other some e = absurd (cc)
taken-group kind.Bytes family.Binary other some e = refl

group-other : (f : Family) → group_kind f ≢ kind.Truth
group-other family.Text is = absurd (cc)
group-other family.Arn is = absurd (cc)
group-other family.Bool is = absurd (cc)
group-other family.Null is = absurd (cc)
group-other family.Numeric is = absurd (cc)
group-other family.Date is = absurd (cc)
group-other family.Address is = absurd (cc)
group-other family.Binary is = absurd (cc)

bool-group : (f : Family) → is_bool f ≡ true → group_kind f ≡ kind.Text
bool-group family.Bool e = refl
bool-group family.Text e = refl
bool-group family.Arn e = refl
bool-group family.Null e = refl
bool-group family.Numeric e = absurd (cc)
bool-group family.Date e = absurd (cc)
bool-group family.Address e = absurd (cc)
bool-group family.Binary e = absurd (cc)

bool-taken : (f : Family) → is_bool f ≡ true → takes_family kind.Text f ≡ true
bool-taken family.Bool e = refl
bool-taken family.Text e = refl
bool-taken family.Arn e = refl
bool-taken family.Null e = refl
bool-taken family.Numeric e = absurd (cc)
bool-taken family.Date e = absurd (cc)
bool-taken family.Address e = absurd (cc)
bool-taken family.Binary e = absurd (cc)

-- ---- tests of lists with others among them

and-among : (a b c : Bool) → ((a && c) ≡ true → b ≡ true) → (a && (b && c)) ≡ (a && c)
and-among false b c h = refl
and-among true true c h = refl
and-among true false true h = absurd (let no = h refl in cc)
and-among true false false h = refl

all-among : (p : Use → Bool) (s r e : List Use) → (list_all p (s ++ r) ≡ true → list_all p e ≡ true) → list_all p (s ++ (e ++ r)) ≡ list_all p (s ++ r)
all-among p s r e h =
    list_all-append p s (e ++ r) ∙ ap (λ (b : Bool). list_all p s && b) (list_all-append p e r)
    ∙ and-among (list_all p s) (list_all p e) (list_all p r) (λ both. h (list_all-append p s r ∙ both)) ∙ sym (list_all-append p s r)

-- ---- uses that ask no more

-- the use fits the rule that these uses make, and there is one of them
pub record IsNoMore (s : List Use) (v : Use) : Type 0 where
  pub nonempty : s ≢ []
  pub compares : is_null v.condition.operator.base ≡ false
  pub takes : takes_family (kind_from s) (use_family v) ≡ true
  pub truth : kind_from s ≡ kind.Truth → is_bool (use_family v) ≡ true
  pub prefixed : not (is_plain v.condition.operator.quantifier) ≡ many_from s

-- the same rule, and the same kind for all of them
pub record MakeTheSame (t s : List Use) : Type 0 where
  pub rule : rule_from t ≡ rule_from s
  pub fixed : fixed_kind t ≡ fixed_kind s

abbrev bool_use : Use → Bool
bool_use v = is_bool (use_family v)

abbrev prefix_use : Use → Bool
prefix_use v = not (is_plain v.condition.operator.quantifier)

module _ (x : Use) (xs : List Use) where
  abbrev s : List Use
  s = x ∷ xs

  truth-kind : are_bools s ≡ true → kind_from s ≡ kind.Truth
  truth-kind bools = ap (λ (b : Bool). if b then kind.Truth else fixed_kind s) bools

  plain-kind : are_bools s ≡ false → kind_from s ≡ group_kind (use_family x)
  plain-kind none = ap (λ (b : Bool). if b then kind.Truth else fixed_kind s) none

  bools-too : (e : List Use) → Each (IsNoMore s) e → list_all bool_use s ≡ true → list_all bool_use e ≡ true
  bools-too [] fits bools = refl
  bools-too (y ∷ e) fits bools =
      let here = (All-head (IsNoMore s) y e fits).truth (truth-kind bools) in
      rw (here, bools-too e (All-tail (IsNoMore s) y e fits) bools) refl

  prefixed-too : (e : List Use) → Each (IsNoMore s) e → list_all prefix_use s ≡ true → list_all prefix_use e ≡ true
  prefixed-too [] fits many = refl
  prefixed-too (y ∷ e) fits many =
      let here = (All-head (IsNoMore s) y e fits).prefixed ∙ many in
      rw (here, prefixed-too e (All-tail (IsNoMore s) y e fits) many) refl

  first-bool : list_all bool_use s ≡ true → is_bool (use_family x) ≡ true
  first-bool bools = by (is_bool (use_family x)) bools
    where
      by : (b : Bool) → (b && list_all bool_use xs) ≡ true → b ≡ true
      by true e = refl
      by false e = absurd (cc)

  -- the kind that the first of them fixes
  group-same : (y : Use) → IsNoMore s y → group_kind (use_family y) ≡ group_kind (use_family x)
  group-same y fits = by (list_all bool_use s) refl
    where
      by : (b : Bool) → list_all bool_use s ≡ b → group_kind (use_family y) ≡ group_kind (use_family x)
      by true bools = bool-group (use_family y) (fits.truth (truth-kind bools)) ∙ sym (bool-group (use_family x) (first-bool bools))
      by false none =
          let own : takes_family (group_kind (use_family x)) (use_family y) ≡ true = subst (λ (k : Kind). takes_family k (use_family y) ≡ true) (plain-kind none) fits.takes in
          taken-group (group_kind (use_family x)) (use_family y) (group-other (use_family x)) (null-family y.condition.operator.base fits.compares) own

  -- the fixed kind takes each of them
  pub fixed-takes : (y : Use) → IsNoMore s y → takes_family (fixed_kind s) (use_family y) ≡ true
  fixed-takes y fits = by (list_all bool_use s) refl
    where
      by : (b : Bool) → list_all bool_use s ≡ b → takes_family (group_kind (use_family x)) (use_family y) ≡ true
      by true bools =
          subst (λ (k : Kind). takes_family k (use_family y) ≡ true) (sym (bool-group (use_family x) (first-bool bools))) (bool-taken (use_family y) (fits.truth (truth-kind bools)))
      by false none = subst (λ (k : Kind). takes_family k (use_family y) ≡ true) (plain-kind none) fits.takes

  make : (t : List Use) → are_bools t ≡ are_bools s → fixed_kind t ≡ fixed_kind s → many_from t ≡ many_from s → MakeTheSame t s
  make t bools fixed many = record {
    rule = ap₂ (λ k m. plain_rule k m) (ap₂ (λ (b : Bool) (k : Kind). if b then kind.Truth else k) bools fixed) many;
    fixed = fixed;
  }

  behind-some : (y : Use) (e : List Use) → Each (IsNoMore s) (y ∷ e) → MakeTheSame ((y ∷ e) ++ s) s
  behind-some y e fits =
      make ((y ∷ e) ++ s) (all-among bool_use [] s (y ∷ e) (bools-too (y ∷ e) fits)) (group-same y (All-head (IsNoMore s) y e fits)) (all-among prefix_use [] s (y ∷ e) (prefixed-too (y ∷ e) fits))

same : (s : List Use) → MakeTheSame s s
same s = record { rule = refl; fixed = refl }

-- among the others
pub same-among : (s r e : List Use) → Each (IsNoMore (s ++ r)) e → MakeTheSame (s ++ (e ++ r)) (s ++ r)
same-among (x ∷ xs) r e fits =
    make x (xs ++ r) ((x ∷ xs) ++ (e ++ r)) (all-among bool_use (x ∷ xs) r e (bools-too x (xs ++ r) e fits)) refl (all-among prefix_use (x ∷ xs) r e (prefixed-too x (xs ++ r) e fits))
same-among [] r [] fits = same r
same-among [] [] (y ∷ e) fits = absurd ((All-head (IsNoMore []) y e fits).nonempty refl)
same-among [] (x ∷ xs) (y ∷ e) fits = behind-some x xs y e fits

-- the fixed kind of these uses takes one that asks no more
pub no-more-taken : (s : List Use) (y : Use) → IsNoMore s y → takes_family (fixed_kind s) (use_family y) ≡ true
no-more-taken [] y fits = absurd (fits.nonempty refl)
no-more-taken (x ∷ xs) y fits = fixed-takes x xs y fits

-- ---- the same uses by other names

abbrev pub renamed : (Use → Bool) → (Use → StatementName) → Use → Use
renamed second name u = use_of (second u) (name u) u.condition

module _ (second : Use → Bool) (name : Use → StatementName) where
  abbrev other : Use → Use
  other = renamed second name

  tested-renamed : (p : Use → Bool) → ((u : Use) → p (other u) ≡ p u) → (s r : List Use) → list_all p (s ++ map other r) ≡ list_all p (s ++ r)
  tested-renamed p each [] [] = refl
  tested-renamed p each [] (u ∷ us) = ap₂ (λ (a b : Bool). a && b) (each u) (tested-renamed p each [] us)
  tested-renamed p each (x ∷ s) r = ap (λ (b : Bool). p x && b) (tested-renamed p each s r)

  pub renamed-same : (s r : List Use) → MakeTheSame (s ++ map other r) (s ++ r)
  renamed-same [] [] = same []
  renamed-same [] (x ∷ xs) =
      make x xs (map other (x ∷ xs)) (tested-renamed bool_use (λ u. refl) [] (x ∷ xs)) refl (tested-renamed prefix_use (λ u. refl) [] (x ∷ xs))
  renamed-same (x ∷ s) r =
      make x (s ++ r) ((x ∷ s) ++ map other r) (tested-renamed bool_use (λ u. refl) (x ∷ s) r) refl (tested-renamed prefix_use (λ u. refl) (x ∷ s) r)
