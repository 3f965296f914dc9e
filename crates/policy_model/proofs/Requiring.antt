-- The keys that a schema requires: that each has a value is asked of them alone.
use Rattle.std.proofs.Common.{◌≡◌, ◌↔◌, ℕ, List, [], ◌∷◌, ◌++◌, Bool, true, false, true≢false, All, map, refl, sym, subst}
use Rattle.std.specs.Prelude.{if◌then◌else◌, filter}
use Rattle.std.proofs.lemmas.List.Elements.{All-nil, All-cons, All-head, All-tail}
use Rattle.text_table.specs.Table.{Entries}
use Rattle.policy_model.specs.declared.schema.KeyRule.{KeyRule}
use Rattle.policy_model.specs.declared.value.Value.{Value}
use Rattle.policy_model.specs.Requests.{HasValue, IsThere}
use Rattle.policy_model.specs.RequiredKeys.{required_keys}

abbrev Rule : Type 0
Rule = List ℕ × KeyRule

-- the names of an entry that is required and of those behind it, or of these alone
abbrev names : Bool → List ℕ → List (List ℕ) → List (List ℕ)
names required own rest = (if required then own ∷ rest else rest)

listed : (required : Bool) (e : Rule) (es : List Rule) → map (λ (entry : Rule). entry.0) (if required then e ∷ es else es) ≡ names required e.0 (map (λ (entry : Rule). entry.0) es)
listed true e es = refl
listed false e es = refl

pub required_keys-of : (e : List ℕ × KeyRule) (es : Entries KeyRule) → required_keys (e ∷ es) ≡ (if e.1.required then e.0 ∷ required_keys es else required_keys es)
required_keys-of e es = listed e.1.required e (filter (λ (entry : Rule). entry.1.required) es)

-- ---- listing them

-- the names so far, and those of the entries that are left
abbrev pub AreListed : Entries KeyRule → List (List ℕ) → Entries KeyRule → Type 0
AreListed all got rest = required_keys all ≡ got ++ required_keys rest

-- ---- asking of them

module _ (context : Entries (List Value)) where
  one-there : (required : Bool) (own : List ℕ) (rest : List (List ℕ)) → All (HasValue context) (names required own rest) → (required ≡ true → HasValue context own) × All (HasValue context) rest
  one-there true own rest all = (λ _. All-head (HasValue context) own rest all, All-tail (HasValue context) own rest all)
  one-there false own rest all = (λ e. absurd (true≢false (sym e)), all)

  one-named : (required : Bool) (own : List ℕ) (rest : List (List ℕ)) → (required ≡ true → HasValue context own) → All (HasValue context) rest → All (HasValue context) (names required own rest)
  one-named true own rest here all = All-cons (HasValue context) own rest (here refl) all
  one-named false own rest here all = all

  -- where those that are required have values, each key is there
  pub required-there : (keys : Entries KeyRule) → All (HasValue context) (required_keys keys) → All (IsThere context) keys
  required-there [] all = All-nil (IsThere context)
  required-there (e ∷ es) all =
      let both = one-there e.1.required e.0 (required_keys es) (subst (All (HasValue context)) (required_keys-of e es) all) in
      All-cons (IsThere context) e es both.0 (required-there es both.1)

  -- and the other way round
  pub there-required : (keys : Entries KeyRule) → All (IsThere context) keys → All (HasValue context) (required_keys keys)
  there-required [] all = All-nil (HasValue context)
  there-required (e ∷ es) all =
      subst (All (HasValue context)) (sym (required_keys-of e es)) (one-named e.1.required e.0 (required_keys es) (All-head (IsThere context) e es all) (there-required es (All-tail (IsThere context) e es all)))

  -- of a list that is theirs
  pub there-of : (keys : Entries KeyRule) (own : List (List ℕ)) → own ≡ required_keys keys → All (HasValue context) own ↔ All (IsThere context) keys
  there-of keys own are = (
    λ all. required-there keys (subst (All (HasValue context)) are all),
    λ all. subst (All (HasValue context)) (sym are) (there-required keys all),
  )
