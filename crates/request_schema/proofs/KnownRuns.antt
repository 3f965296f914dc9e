-- A run on uses that are known among others has the schema of a run on the others alone, whatever the names of uses.
use Rattle.std.proofs.Common.{◌≡◌, ◌≢◌, ℕ, List, [], ◌∷◌, ◌++◌, ◌&&◌, ◌||◌, Bool, true, false, not, map, get_or, filter, is_none, if◌then◌else◌, All as Each, Option, Some, None, refl, ap, sym, ◌∙◌, subst}
use Rattle.std.specs.Prelude.{MatchOption}
use Rattle.std.specs.List.{flat_map, list_any}
use Rattle.std.proofs.lemmas.Bool.{and_parts}
use Rattle.std.proofs.lemmas.List.{map-append}
use Rattle.std.proofs.lemmas.List.Concat.{flat_map-append}
use Rattle.std.proofs.lemmas.List.Elements.{All-append, All-cons, All-head, All-map, All-nil, All-tail, filter-append}
use Rattle.text_table.specs.Table.{Entries, item_at}
use Rattle.json_shapes.specs.Checks.{first_fault}
use Rattle.json_shapes.proofs.Laws.{first_fault-rest}
use Rattle.policy_model.specs.Operators.{is_null, takes_family}
use Rattle.policy_model.specs.declared.operator.Operator.{Operator}
use Rattle.policy_model.specs.declared.schema.KeyRule.{KeyRule}
use Rattle.policy_model.specs.declared.schema.Schema.{Schema}
use Rattle.policy_model.specs.declared.set.StatementName.{StatementName}
use Rattle.policy_model.specs.declared.value.Kind.{Kind}
use Rattle.request_schema.specs.BuiltIn.{NamedRule, is_key, with_rules}
use Rattle.request_schema.specs.KeyOperators.{IsOperatorOn}
use Rattle.request_schema.specs.RunSchemas.{UseCheck, asks_one, checks_among, expected_kind, fixed_kind, infer_checks, is_further, is_named_plural, rule_from, rule_in_use, run_rule, schema_for, use_check, use_checks}
use Rattle.request_schema.specs.Uses.{Use, comparing_uses, compares_values, is_plain, of_key, use_family}
use Rattle.request_schema.proofs.Entries.{is_key-is}
use Rattle.request_schema.proofs.PutRules.{AreAmong, among-others, ruled}
use Rattle.request_schema.proofs.SameRules.{IsNoMore, MakeTheSame, no-more-taken, renamed, renamed-same, same-among}

-- the uses compare values of the use's key, unless the key is named, and the rule that a run on them gives the key has its operator
pub record IsKnownUse (named : Schema) (us : List Use) (u : Use) : Type 0 where
  pub in_use : is_none (item_at u.condition.key named.keys) ≡ true → list_any (compares_values u.condition.key) us ≡ true
  pub rule : MatchOption (run_rule named us u.condition.key) ⊥ (λ rule. IsOperatorOn rule.kind rule.many u.condition.operator)

-- ---- lists

any-filter : (p : Use → Bool) (xs : List Use) → list_any p xs ≡ true → filter p xs ≢ []
any-filter p [] some none = absurd (cc)
any-filter p (x ∷ xs) some none = by (p x) some none (any-filter p xs)
  where
    by : (b : Bool) → (b || list_any p xs) ≡ true → (if b then x ∷ filter p xs else filter p xs) ≡ [] → (list_any p xs ≡ true → filter p xs ≢ []) → ⊥
    by true some none later = absurd (cc)
    by false some none later = later some none

each-filtered : (P Q : Use → Type 0) (p : Use → Bool) → ((u : Use) → P u → p u ≡ true → Q u) → (xs : List Use) → Each P xs → Each Q (filter p xs)
each-filtered P Q p step [] each = All-nil Q
each-filtered P Q p step (x ∷ xs) each = by (p x) refl (each-filtered P Q p step xs (All-tail P x xs each))
  where
    by : (b : Bool) → p x ≡ b → Each Q (filter p xs) → Each Q (if b then x ∷ filter p xs else filter p xs)
    by true is later = All-cons Q x (filter p xs) (step x (All-head P x xs each) is) later
    by false is later = later

-- ---- checks

if-none : {F : Type 0} (b : Bool) (own : F) (rest : Option F) → (if b then rest else Some own) ≡ None → (b ≡ true) × (rest ≡ None)
if-none true own rest e = (refl, e)
if-none false own rest e = absurd (cc)

pub two-passed : (u : Use) (p q : Bool) → first_fault (use_check u p false ∷ use_check u q true ∷ []) ≡ None → (p ≡ true) × (q ≡ true)
two-passed u p q e =
    let first = if-none p (use_check u p false).fault (first_fault (use_check u q true ∷ [])) e in
    (first.0, (if-none q (use_check u q true).fault None first.1).0)

pub both-pass : (u : Use) (p q : Bool) → p ≡ true → q ≡ true → first_fault (use_check u p false ∷ use_check u q true ∷ []) ≡ None
both-pass u true true first second = refl
both-pass u true false first second = absurd (cc)
both-pass u false q first second = absurd (cc)

-- where each is passed, there is no fault, and the other way round
pub all-passed : (f : Use → List UseCheck) (us : List Use) → Each (λ u. first_fault (f u) ≡ None) us → first_fault (flat_map f us) ≡ None
all-passed f [] each = refl
all-passed f (u ∷ us) each =
    let passes : Use → Type 0 = λ (v : Use). first_fault (f v) ≡ None in
    first_fault-rest (f u) (flat_map f us) (All-head passes u us each) ∙ all-passed f us (All-tail passes u us each)

none-both : (a b : List UseCheck) → first_fault (a ++ b) ≡ None → (first_fault a ≡ None) × (first_fault b ≡ None)
none-both [] b e = (refl, e)
none-both (c ∷ cs) b e =
    let here = if-none c.passes c.fault (first_fault (cs ++ b)) e in
    let rest = none-both cs b here.1 in
    (ap (λ (p : Bool). if p then first_fault cs else Some c.fault) here.0 ∙ rest.0, rest.1)

pub each-passed : (f : Use → List UseCheck) (us : List Use) → first_fault (flat_map f us) ≡ None → Each (λ u. first_fault (f u) ≡ None) us
each-passed f [] e = All-nil (λ u. first_fault (f u) ≡ None)
each-passed f (u ∷ us) e = let both = none-both (f u) (flat_map f us) e in All-cons (λ v. first_fault (f v) ≡ None) u us both.0 (each-passed f us both.1)

-- ---- against the uses alone

module _ (named : Schema) (us : List Use) where
  abbrev Known : Use → Type 0
  Known u = IsKnownUse named us u

  abbrev IsFurther : List ℕ → Type 0
  IsFurther k = is_none (item_at k named.keys) ≡ true

  -- of a further key a known use asks no more
  no-more : (k : List ℕ) → IsFurther k → (u : Use) → Known u → k ≡ u.condition.key → IsNoMore (comparing_uses k us) u
  no-more k further u known is = by (of_key k us) rule
    where
      at : list_any (compares_values k) us ≡ true
      at = subst (λ (l : List ℕ). IsFurther l → list_any (compares_values l) us ≡ true) (sym is) known.in_use further

      own : MatchOption (run_rule named us k) ⊥ (λ rule. IsOperatorOn rule.kind rule.many u.condition.operator)
      own = subst (λ (l : List ℕ). MatchOption (run_rule named us l) ⊥ (λ rule. IsOperatorOn rule.kind rule.many u.condition.operator)) (sym is) known.rule

      rule : MatchOption (rule_in_use (of_key k us) (comparing_uses k us)) ⊥ (λ rule. IsOperatorOn rule.kind rule.many u.condition.operator)
      rule = subst (λ (b : Bool). MatchOption (if b then rule_in_use (of_key k us) (comparing_uses k us) else item_at k named.keys) ⊥ (λ rule. IsOperatorOn rule.kind rule.many u.condition.operator)) further own

      by : (mine : List Use) → MatchOption (rule_in_use mine (comparing_uses k us)) ⊥ (λ rule. IsOperatorOn rule.kind rule.many u.condition.operator) → IsNoMore (comparing_uses k us) u
      by [] fits = absurd fits
      by (v ∷ mine) fits = record { nonempty = any-filter (compares_values k) us at; compares = fits.compares; takes = fits.takes; truth = fits.truth; prefixed = fits.prefixed }

  each-no-more : (k : List ℕ) → IsFurther k → (es : List Use) → Each Known es → Each (IsNoMore (comparing_uses k us)) (comparing_uses k es)
  each-no-more k further es known =
      each-filtered Known (IsNoMore (comparing_uses k us)) (compares_values k)
      (λ u is at. no-more k further u is (is_key-is k u.condition.key (and_parts (is_key k u.condition.key) (not (is_null u.condition.operator.base)) at).0)) es known

  abbrev Agrees : List Use → Type 0
  Agrees ts = (k : List ℕ) → IsFurther k → MakeTheSame (comparing_uses k ts) (comparing_uses k us)

  -- the uses in two parts
  comparing-parts : (xs ys : List Use) → us ≡ xs ++ ys → (k : List ℕ) → comparing_uses k us ≡ comparing_uses k xs ++ comparing_uses k ys
  comparing-parts xs ys is k = ap (comparing_uses k) is ∙ filter-append (compares_values k) xs ys

  agree-among : (xs ys : List Use) → us ≡ xs ++ ys → (es : List Use) → Each Known es → Agrees (xs ++ (es ++ ys))
  agree-among xs ys is es known k further =
      let c : List Use → List Use = comparing_uses k in
      let all : c (xs ++ (es ++ ys)) ≡ c xs ++ (c es ++ c ys) =
      filter-append (compares_values k) xs (es ++ ys) ∙ ap (λ (t : List Use). c xs ++ t) (filter-append (compares_values k) es ys) in
      let fits : Each (IsNoMore (c xs ++ c ys)) (c es) = subst (λ (s : List Use). Each (IsNoMore s) (c es)) (comparing-parts xs ys is k) (each-no-more k further es known) in
      subst (λ (t : List Use). MakeTheSame t (c us)) (sym all)
      (subst (MakeTheSame (c xs ++ (c es ++ c ys))) (sym (comparing-parts xs ys is k)) (same-among (c xs) (c ys) (c es) fits))

  -- ---- the rules of further keys, by the keys

  abbrev key_of : Use → List ℕ
  key_of u = u.condition.key

  abbrev rule_of : List ℕ → KeyRule
  rule_of k = rule_from (comparing_uses k us)

  abbrev keys_in : List Use → List (List ℕ)
  keys_in xs = map key_of (filter (is_further named.keys) xs)

  abbrev with_rule : List ℕ → KeyRule → NamedRule
  with_rule k rule = (k, rule)

  -- ---- the checks of a run on more uses that agree

  module _ (ts : List Use) (agrees : Agrees ts) where
    expected-same : (u : Use) → expected_kind named (fixed_kind (comparing_uses u.condition.key ts)) u ≡ expected_kind named (fixed_kind (comparing_uses u.condition.key us)) u
    expected-same u = by (item_at u.condition.key named.keys) refl
      where
        by : (o : Option KeyRule) → item_at u.condition.key named.keys ≡ o → expected_kind named (fixed_kind (comparing_uses u.condition.key ts)) u ≡ expected_kind named (fixed_kind (comparing_uses u.condition.key us)) u
        by None is = ap (λ (k : Kind). expected_kind named k u) (agrees u.condition.key (ap is_none is)).fixed
        by (Some rule) is = rw is refl

    own-passes : (u : Use) → first_fault (checks_among named us u) ≡ None → first_fault (checks_among named ts u) ≡ None
    own-passes u passed =
        let plural = not (is_named_plural named u && asks_one u.condition.operator) in
        let both = two-passed u (takes_family (expected_kind named (fixed_kind (comparing_uses u.condition.key us)) u) (use_family u)) plural passed in
        both-pass u (takes_family (expected_kind named (fixed_kind (comparing_uses u.condition.key ts)) u) (use_family u)) plural
        (ap (λ (k : Kind). takes_family k (use_family u)) (expected-same u) ∙ both.0) both.1

    prefixed-plural : (many : Bool) (o : Operator) → not (is_plain o.quantifier) ≡ many → not (many && asks_one o) ≡ true
    prefixed-plural false o e = refl
    prefixed-plural true o e = by (is_plain o.quantifier) e
      where
        by : (b : Bool) → not b ≡ true → not (b && not (is_null o.base)) ≡ true
        by true e = absurd (cc)
        by false e = refl

    known-passes : (u : Use) → Known u → first_fault (checks_among named ts u) ≡ None
    known-passes u known = by (item_at u.condition.key named.keys) refl
      where
        by : (o : Option KeyRule) → item_at u.condition.key named.keys ≡ o → first_fault (checks_among named ts u) ≡ None
        by None is =
            let taken = no-more-taken (comparing_uses u.condition.key us) u (no-more u.condition.key (ap is_none is) u known refl) in
            let kind : expected_kind named (fixed_kind (comparing_uses u.condition.key ts)) u ≡ fixed_kind (comparing_uses u.condition.key us) = expected-same u ∙ rw is refl in
            let single : is_named_plural named u ≡ false = rw is refl in
            both-pass u _ _ (ap (λ (k : Kind). takes_family k (use_family u)) kind ∙ taken) (ap (λ (b : Bool). not (b && asks_one u.condition.operator)) single)
        by (Some rule) is =
            let fits : IsOperatorOn rule.kind rule.many u.condition.operator = rw is at known.rule in
            let kind : expected_kind named (fixed_kind (comparing_uses u.condition.key ts)) u ≡ rule.kind = rw is refl in
            let plural : is_named_plural named u ≡ rule.many = rw is refl in
            both-pass u _ _ (ap (λ (k : Kind). takes_family k (use_family u)) kind ∙ fits.takes)
            (ap (λ (b : Bool). not (b && asks_one u.condition.operator)) plural ∙ prefixed-plural rule.many u.condition.operator fits.prefixed)

    -- ---- its rules

    abbrev made_in : List Use → List NamedRule
    made_in xs = map (λ u. (u.condition.key, rule_from (comparing_uses u.condition.key ts))) xs

    rules-by-keys : (xs : List Use) → made_in (filter (is_further named.keys) xs) ≡ map (ruled rule_of) (keys_in xs)
    rules-by-keys [] = refl
    rules-by-keys (x ∷ xs) = by (is_further named.keys x) refl (rules-by-keys xs)
      where
        by : (b : Bool) → is_further named.keys x ≡ b → made_in (filter (is_further named.keys) xs) ≡ map (ruled rule_of) (keys_in xs) →
            made_in (if b then x ∷ filter (is_further named.keys) xs else filter (is_further named.keys) xs)
            ≡ map (ruled rule_of) (map key_of (if b then x ∷ filter (is_further named.keys) xs else filter (is_further named.keys) xs))
        by true is later =
            ap (λ (r : KeyRule). with_rule x.condition.key r ∷ made_in (filter (is_further named.keys) xs)) (agrees x.condition.key is).rule
            ∙ ap (λ (rest : List NamedRule). ruled rule_of x.condition.key ∷ rest) later
        by false is later = later

  -- ---- runs on both

  pub record IsRunOf (ts : List Use) : Type 0 where
    pub passed : first_fault (infer_checks named ts) ≡ None
    pub schema : schema_for named ts ≡ schema_for named us

  agrees-itself : Agrees us
  agrees-itself k further = record { rule = refl; fixed = refl }

  abbrev rules_put : List (List ℕ) → Entries KeyRule
  rules_put ks = with_rules named.keys (map (ruled rule_of) ks)

  schema-same : (ts : List Use) → Agrees ts → rules_put (keys_in ts) ≡ rules_put (keys_in us) → schema_for named ts ≡ schema_for named us
  schema-same ts agrees put =
      ap (λ (keys : Entries KeyRule). with_keys keys)
      (ap (with_rules named.keys) (rules-by-keys ts agrees ts) ∙ put ∙ sym (ap (with_rules named.keys) (rules-by-keys us agrees-itself us)))
    where
      with_keys : Entries KeyRule → Schema
      with_keys keys = record { version = named.version; keys = keys; shapes = named.shapes }

  keys-append : (xs ys : List Use) → keys_in (xs ++ ys) ≡ keys_in xs ++ keys_in ys
  keys-append xs ys = ap (map key_of) (filter-append (is_further named.keys) xs ys) ∙ map-append key_of (filter (is_further named.keys) xs) (filter (is_further named.keys) ys)

  or-left : (a c : Bool) → a ≡ true → (a || c) ≡ true
  or-left true c e = refl
  or-left false c e = absurd (cc)

  or-right : (a c : Bool) → c ≡ true → (a || c) ≡ true
  or-right true c e = refl
  or-right false c e = e

  -- the keys of uses where one more is in front, by whether its key is a further one
  abbrev keys_with : Use → List Use → Bool → List (List ℕ)
  keys_with x xs b = map key_of (if b then x ∷ filter (is_further named.keys) xs else filter (is_further named.keys) xs)

  later-among : (k : List ℕ) (x : Use) (xs : List Use) (b : Bool) → list_any (is_key k) (keys_in xs) ≡ true → list_any (is_key k) (keys_with x xs b) ≡ true
  later-among k x xs true later = or-right (is_key k x.condition.key) (list_any (is_key k) (keys_in xs)) later
  later-among k x xs false later = later

  -- a further key whose values some use compares is among the keys
  used-among : (k : List ℕ) → IsFurther k → (xs : List Use) → list_any (compares_values k) xs ≡ true → list_any (is_key k) (keys_in xs) ≡ true
  used-among k further [] some = absurd (cc)
  used-among k further (x ∷ xs) some = by (compares_values k x) refl some (used-among k further xs)
    where
      by : (b : Bool) → compares_values k x ≡ b → (b || list_any (compares_values k) xs) ≡ true → (list_any (compares_values k) xs ≡ true → list_any (is_key k) (keys_in xs) ≡ true) →
          list_any (is_key k) (keys_with x xs (is_further named.keys x)) ≡ true
      by true is some later =
          let here : is_key k x.condition.key ≡ true = (and_parts (is_key k x.condition.key) (not (is_null x.condition.operator.base)) is).0 in
          let same : k ≡ x.condition.key = is_key-is k x.condition.key here in
          let own : is_further named.keys x ≡ true = subst (λ (l : List ℕ). is_none (item_at l named.keys) ≡ true) same further in
          ap (λ (b : Bool). list_any (is_key k) (keys_with x xs b)) own ∙ or-left (is_key k x.condition.key) (list_any (is_key k) (keys_in xs)) here
      by false is some later = later-among k x xs (is_further named.keys x) (later some)

  known-among : (es : List Use) → Each Known es → AreAmong rule_of (keys_in es) (keys_in us)
  known-among es known =
      All-map (λ (k : List ℕ). list_any (is_key k) (keys_in us) ≡ true) key_of (filter (is_further named.keys) es)
      (each-filtered Known (λ u. list_any (is_key u.condition.key) (keys_in us) ≡ true) (is_further named.keys) (λ u own further. used-among u.condition.key further us (own.in_use further)) es known)

  keys-parts : (xs ys : List Use) → us ≡ xs ++ ys → keys_in us ≡ keys_in xs ++ keys_in ys
  keys-parts xs ys is = ap keys_in is ∙ keys-append xs ys

  abbrev Passes : List Use → Use → Type 0
  Passes ts u = first_fault (checks_among named ts u) ≡ None

  module _ (passed : first_fault (infer_checks named us) ≡ None) (xs ys : List Use) (is : us ≡ xs ++ ys) where
    -- no use of either part is at fault
    parts-passed : (first_fault (flat_map (checks_among named us) xs) ≡ None) × (first_fault (flat_map (checks_among named us) ys) ≡ None)
    parts-passed =
        let f : Use → List UseCheck = checks_among named us in
        none-both (flat_map f xs) (flat_map f ys)
        (subst (λ (cs : List UseCheck). first_fault cs ≡ None) (flat_map-append f xs ys) (subst (λ (ts : List Use). first_fault (flat_map f ts) ≡ None) is passed))

    each-first : (ts : List Use) → Agrees ts → Each (Passes ts) xs
    each-first ts agrees = λ i d within. own-passes ts agrees (get_or xs i d) (each-passed (checks_among named us) xs parts-passed.0 i d within)

    each-second : (ts : List Use) → Agrees ts → Each (Passes ts) ys
    each-second ts agrees = λ i d within. own-passes ts agrees (get_or ys i d) (each-passed (checks_among named us) ys parts-passed.1 i d within)

    -- known uses among the others
    pub run-among : (es : List Use) → Each Known es → IsRunOf (xs ++ (es ++ ys))
    run-among es known =
        let ts = xs ++ (es ++ ys) in
        let agrees : Agrees (xs ++ (es ++ ys)) = agree-among xs ys is es known in
        let each : Each (Passes ts) es = λ i d within. known-passes ts agrees (get_or es i d) (known i d within) in
        let put = ap rules_put (keys-append xs (es ++ ys) ∙ ap (λ (ks : List (List ℕ)). keys_in xs ++ ks) (keys-append es ys)) in
        let among : AreAmong rule_of (keys_in es) (keys_in xs ++ keys_in ys) = subst (AreAmong rule_of (keys_in es)) (keys-parts xs ys is) (known-among es known) in
        record {
          passed = all-passed (checks_among named ts) ts (All-append (Passes ts) xs (es ++ ys) (each-first ts agrees) (All-append (Passes ts) es ys each (each-second ts agrees)));
          schema = schema-same ts agrees (put ∙ among-others rule_of (keys_in es) (keys_in xs) (keys_in ys) named.keys among ∙ ap rules_put (sym (keys-parts xs ys is)));
        }

  -- ---- the same uses by other names

  module _ (second : Use → Bool) (name : Use → StatementName) where
    abbrev other : Use → Use
    other = renamed second name

    comparing-renamed : (k : List ℕ) (xs : List Use) → comparing_uses k (map other xs) ≡ map other (comparing_uses k xs)
    comparing-renamed k [] = refl
    comparing-renamed k (x ∷ xs) = by (compares_values k x) (comparing-renamed k xs)
      where
        by : (b : Bool) → comparing_uses k (map other xs) ≡ map other (comparing_uses k xs) → (if b then other x ∷ comparing_uses k (map other xs) else comparing_uses k (map other xs)) ≡ map other (if b then x ∷ comparing_uses k xs else comparing_uses k xs)
        by true later = ap (λ (us : List Use). other x ∷ us) later
        by false later = later

    keys-renamed : (xs : List Use) → keys_in (map other xs) ≡ keys_in xs
    keys-renamed [] = refl
    keys-renamed (x ∷ xs) = by (is_further named.keys x) (keys-renamed xs)
      where
        by : (b : Bool) → keys_in (map other xs) ≡ keys_in xs →
            map key_of (if b then other x ∷ filter (is_further named.keys) (map other xs) else filter (is_further named.keys) (map other xs)) ≡ map key_of (if b then x ∷ filter (is_further named.keys) xs else filter (is_further named.keys) xs)
        by true later = ap (λ (ks : List (List ℕ)). x.condition.key ∷ ks) later
        by false later = later

    agrees-renamed : (xs ys : List Use) → us ≡ xs ++ ys → Agrees (xs ++ map other ys)
    agrees-renamed xs ys is k further =
        let c : List Use → List Use = comparing_uses k in
        let all : c (xs ++ map other ys) ≡ c xs ++ map other (c ys) = filter-append (compares_values k) xs (map other ys) ∙ ap (λ (t : List Use). c xs ++ t) (comparing-renamed k ys) in
        subst (λ (t : List Use). MakeTheSame t (c us)) (sym all) (subst (MakeTheSame (c xs ++ map other (c ys))) (sym (comparing-parts xs ys is k)) (renamed-same second name (c xs) (c ys)))

    renamed-passes : (k : Kind) (u : Use) → first_fault (use_checks named k u) ≡ None → first_fault (use_checks named k (other u)) ≡ None
    renamed-passes k u passed =
        let takes = takes_family (expected_kind named k u) (use_family u) in
        let plural = not (is_named_plural named u && asks_one u.condition.operator) in
        let both = two-passed u takes plural passed in
        both-pass (other u) takes plural both.0 both.1

    -- the last of the uses have other names
    pub run-renamed : first_fault (infer_checks named us) ≡ None → (xs ys : List Use) → us ≡ xs ++ ys → IsRunOf (xs ++ map other ys)
    run-renamed passed xs ys is =
        let ts = xs ++ map other ys in
        let agrees : Agrees (xs ++ map other ys) = agrees-renamed xs ys is in
        let each : Each (Passes ts) (map other ys) = All-map (Passes ts) other ys
        (λ i d within. renamed-passes (fixed_kind (comparing_uses (get_or ys i d).condition.key ts)) (get_or ys i d) (each-second passed xs ys is ts agrees i d within)) in
        record {
          passed = all-passed (checks_among named ts) ts (All-append (Passes ts) xs (map other ys) (each-first passed xs ys is ts agrees) each);
          schema =
              schema-same ts agrees
              (ap rules_put (keys-append xs (map other ys) ∙ ap (λ (ks : List (List ℕ)). keys_in xs ++ ks) (keys-renamed ys) ∙ sym (keys-parts xs ys is)));
        }
