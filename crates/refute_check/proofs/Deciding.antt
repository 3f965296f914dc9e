-- Each test is decided on each request.
use Rattle.std.proofs.Common.{◌≡◌, ◌≢◌, ◌⊎◌, ℕ, List, [], ◌∷◌, Bool, true, false, ◌&&◌, Decides, Option, Some, None, MatchBool, inl, inr, refl}
use Rattle.std.specs.Prelude.{MatchOption}
use Rattle.std.proofs.lemmas.Bool.Decides.{Decides-and}
use Rattle.std.proofs.lemmas.Slice.Eq.{bytes_eq-Decides}
use Rattle.std.specs.Str.{bytes_eq}
use Rattle.wildcard_lang.specs.Accepts.{accepts}
use Rattle.wildcard_lang.proofs.Laws.{Decides-accepts}
use Rattle.policy_model.specs.declared.principal.Entry.{Entry}
use Rattle.policy_model.specs.declared.principal.Entry.TheVariants.{All, Kind, Account, Exact}
use Rattle.policy_model.specs.declared.principal.PrincipalKind.{PrincipalKind}
use Rattle.policy_model.specs.declared.principal.PrincipalKind.TheVariants.{Aws}
use Rattle.policy_model.specs.declared.request.Request.{Request}
use Rattle.policy_model.specs.declared.test.Test.{Test}
use Rattle.policy_model.specs.declared.test.Test.TheVariants.{Principal, Action, Resource, Present, SomeMeets, SomeMeetsNone}
use Rattle.text_table.specs.Table.{item_at}
use Rattle.policy_model.specs.declared.value.Value.{Value}
use Rattle.policy_model.specs.Conds.{CondMeets, MeetsSome}
use Rattle.policy_model.specs.Conditions.{values_at}
use Rattle.policy_model.specs.Principals.{EntryNames, IsOfAccount, account_test}
use Rattle.policy_model.specs.Tests.{TestHolds}
use Rattle.policy_model.proofs.Laws.{Any-decided, account_test-is, account_test-of, meets-decided, meets-some-decided}
use Rattle.slot_theory.specs.Entries.{is_kind}
use Rattle.slot_theory.proofs.Laws.{kind-same, same-kind}

Decides-kind : (j k : PrincipalKind) → Decides (is_kind j k) (j ≡ k)
Decides-kind j k = (same-kind j k, kind-same j k)

Decides-account : (account id : List ℕ) → Decides (account_test account id) (IsOfAccount account id)
Decides-account account id = (account_test-is account id, account_test-of account id)

-- whether the principal of this kind and id is one of the entry
abbrev pub is_named : PrincipalKind → List ℕ → Entry → Bool
is_named kind id All = true
is_named kind id (Kind own) = is_kind kind own
is_named kind id (Account account) = is_kind kind Aws && account_test account id
is_named kind id (Exact own text) = is_kind kind own && bytes_eq id text

pub Decides-named : (kind : PrincipalKind) (id : List ℕ) (entry : Entry) → Decides (is_named kind id entry) (EntryNames kind id entry)
Decides-named kind id All = (λ e. tt, λ h. refl)
Decides-named kind id (Kind own) = Decides-kind kind own
Decides-named kind id (Account account) = Decides-and (is_kind kind Aws) (account_test account id) (Decides-kind kind Aws) (Decides-account account id)
Decides-named kind id (Exact own text) = Decides-and (is_kind kind own) (bytes_eq id text) (Decides-kind kind own) (bytes_eq-Decides id text)

pub by-test : {P : Type 0} (b : Bool) → Decides b P → P ⊎ ¬ P
by-test true d = inl (d.0 refl)
by-test false d = inr (λ h. let bad : false ≡ true = d.1 h in absurd (cc))

-- a key's values, where they are given, are some
some-decided : (o : Option (List Value)) → MatchOption o ⊥ (λ vs. vs ≢ []) ⊎ ¬ MatchOption o ⊥ (λ vs. vs ≢ [])
some-decided None = inr (λ h. h)
some-decided (Some []) = inr (λ some. some refl)
some-decided (Some (v ∷ vs)) = inl (λ e. absurd (cc))

not-decided : {P : Type 0} → P ⊎ ¬ P → ¬ P ⊎ ¬ ¬ P
not-decided (inl h) = inr (λ never. never h)
not-decided (inr never) = inl never

-- each test holds on the request or doesn't
pub decision : (r : Request) (t : Test) → TestHolds r t ⊎ ¬ TestHolds r t
decision r (Principal entry) = by-test (is_named r.kind r.id entry) (Decides-named r.kind r.id entry)
decision r (Action pattern) = by-test (accepts pattern r.action) (Decides-accepts pattern r.action)
decision r (Resource pattern) = by-test (accepts pattern r.resource) (Decides-accepts pattern r.resource)
decision r (Present key) = some-decided (item_at key r.context)
decision r (SomeMeets key c) = Any-decided (λ v. CondMeets v c) (λ v. meets-decided v c) (values_at r key)
decision r (SomeMeetsNone key cs) = Any-decided (λ v. ¬ MeetsSome cs v) (λ v. not-decided (meets-some-decided cs v)) (values_at r key)

abbrev said : {P : Type 0} → P ⊎ ¬ P → Bool
said (inl h) = true
said (inr never) = false

Decides-said : {P : Type 0} (d : P ⊎ ¬ P) → Decides (said d) P
Decides-said (inl h) = (λ e. h, λ again. refl)
Decides-said (inr never) = (λ e. absurd (cc), λ h. absurd (never h))

-- whether the test holds on the request
abbrev pub holds_on : Request → Test → Bool
holds_on r t = said (decision r t)

pub Decides-test : (r : Request) (t : Test) → Decides (holds_on r t) (TestHolds r t)
Decides-test r t = Decides-said (decision r t)

decided : (b : Bool) (A : Type 0) → Decides b A → MatchBool b A (¬ A)
decided true A d = d.0 refl
decided false A d = λ h. let bad : false ≡ true = d.1 h in absurd (cc)

pub test-decided : (r : Request) (t : Test) → MatchBool (holds_on r t) (TestHolds r t) (¬ TestHolds r t)
test-decided r t = decided (holds_on r t) (TestHolds r t) (Decides-test r t)
