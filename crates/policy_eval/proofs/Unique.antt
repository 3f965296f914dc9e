-- A request has one decider: the first item of a kind stands at one index of a list.
use Rattle.std.proofs.Common.{◌≡◌, ◌+◌, ℕ, suc, List, [], ◌∷◌, ◌++◌, length, drop, get_or, Bool, true, false, All, refl, ap, sym, ◌∙◌, subst, inl, inr, arith}
use Rattle.std.proofs.lemmas.List.Elements.{All-tail}
use Rattle.policy_model.specs.Sets.{SomeDecides}
use Rattle.policy_model.specs.declared.schema.Schema.{Schema}
use Rattle.policy_model.specs.declared.request.Request.{Request}
use Rattle.policy_model.specs.declared.set.PolicySet.{PolicySet}
use Rattle.policy_model.specs.declared.set.Document.{Document}
use Rattle.policy_model.specs.declared.set.StatementName.{StatementName}
use Rattle.policy_eval.specs.declared.outcome.Decider.{Decider}
use Rattle.policy_eval.specs.declared.outcome.Decider.TheVariants as by
use Rattle.policy_model.specs.StatementNames.{Named, named_set, named_grants}
use Rattle.policy_eval.specs.Deciding.{NamedDecides, NoneDecides, IsFirstDeciding, IsFirstSilent, IsDecider}

head-same : {T : Type 0} (a b : T) (us vs : List T) → a ∷ us ≡ b ∷ vs → a ≡ b
head-same a b us vs e = ap (λ xs. get_or xs 0 a) e

tail-same : {T : Type 0} (a b : T) (us vs : List T) → a ∷ us ≡ b ∷ vs → us ≡ vs
tail-same a b us vs e = ap (drop 1) e

-- what holds of each item holds of one in the middle
at-middle : {T : Type 0} (P : T → Type 0) (xs : List T) (a : T) (us : List T) → All P (xs ++ a ∷ us) → P a
at-middle P [] a us all = all 0 a (omega arith)
at-middle P (x ∷ xs) a us all = at-middle P xs a us (All-tail P x (xs ++ a ∷ us) all)

module _ {T : Type 0} (Before Here : T → Type 0) (apart : (x : T) → Before x → Here x → ⊥) where
  -- two splits of a list before an item that is unlike those before it are one
  one-split : (xs ys : List T) (a b : T) (us vs : List T) → xs ++ a ∷ us ≡ ys ++ b ∷ vs → All Before xs → All Before ys → Here a → Here b → (length xs ≡ length ys) × (a ≡ b)
  one-split [] [] a b us vs e before also here there = (refl, head-same a b us vs e)
  one-split [] (y ∷ ys) a b us vs e before also here there = absurd (apart y (also 0 y (omega arith)) (subst Here (head-same a y us (ys ++ b ∷ vs) e) here))
  one-split (x ∷ xs) [] a b us vs e before also here there = absurd (apart x (before 0 x (omega arith)) (subst Here (sym (head-same x b (xs ++ a ∷ us) vs e)) there))
  one-split (x ∷ xs) (y ∷ ys) a b us vs e before also here there =
      let rest = one-split xs ys a b us vs (tail-same x y (xs ++ a ∷ us) (ys ++ b ∷ vs) e) (All-tail Before x xs before) (All-tail Before y ys also) here there in
      (ap suc rest.0, rest.1)

-- a list has one first statement that decides, or none
one-first : (schema : Schema) (allow : Bool) (r : Request) (xs : List Named) (m n : StatementName) → IsFirstDeciding schema allow r xs m → IsFirstDeciding schema allow r xs n → m ≡ n
one-first schema allow r xs m n first second =
    let split = one-split (λ x. ¬ NamedDecides schema allow r x) (NamedDecides schema allow r) (λ x not here. not here) first.before second.before (m, first.statement) (n, second.statement) first.after second.after
    (sym first.is ∙ second.is) first.none_before second.none_before first.here second.here in
    ap (λ (x : Named). x.0) split.1

none-first : (schema : Schema) (allow : Bool) (r : Request) (xs : List Named) (n : StatementName) → NoneDecides schema allow r xs → IsFirstDeciding schema allow r xs n → ⊥
none-first schema allow r xs n none first =
    at-middle (λ x. ¬ NamedDecides schema allow r x) first.before (n, first.statement) first.after (subst (λ (ys : List Named). NoneDecides schema allow r ys) first.is none) first.here

-- the guards have one first that allows nothing, or none
one-silent : (schema : Schema) (r : Request) (guards : List (List Document)) (g h : ℕ) → IsFirstSilent schema r guards g → IsFirstSilent schema r guards h → g ≡ h
one-silent schema r guards g h first second =
    let split = one-split (SomeDecides schema true r) (λ x. ¬ SomeDecides schema true r x) (λ x here not. not here) first.before second.before first.guard second.guard first.after second.after
    (sym first.is ∙ second.is) first.none_before second.none_before first.silent second.silent in
    first.number ∙ ap (λ k. k + 1) split.0 ∙ sym second.number

pub none-silent : (schema : Schema) (r : Request) (guards : List (List Document)) (g : ℕ) → All (SomeDecides schema true r) guards → IsFirstSilent schema r guards g → ⊥
none-silent schema r guards g all first =
    first.silent (at-middle (SomeDecides schema true r) first.before first.guard first.after (subst (λ (gs : List (List Document)). All (SomeDecides schema true r) gs) first.is all))

module _ (schema : Schema) (set : PolicySet) (r : Request) where
  one-statement : (m n : StatementName) → IsDecider schema set r (by.Statement m) → IsDecider schema set r (by.Statement n) → m ≡ n
  one-statement m n (inl deny) (inl other) = one-first schema false r (named_set set) m n deny other
  one-statement m n (inl deny) (inr allowed) = absurd (none-first schema false r (named_set set) m allowed.not_denied deny)
  one-statement m n (inr allowed) (inl deny) = absurd (none-first schema false r (named_set set) n allowed.not_denied deny)
  one-statement m n (inr allowed) (inr other) = one-first schema true r (named_grants set) m n allowed.first other.first

  -- a statement decides only where no lack of one does
  granted : (n : StatementName) → IsDecider schema set r (by.Statement n) → IsDecider schema set r by.NoGrant → ⊥
  granted n (inl deny) lacks = none-first schema false r (named_set set) n lacks.not_denied deny
  granted n (inr allowed) lacks = none-first schema true r (named_grants set) n lacks.not_granted allowed.first

  guarded : (n : StatementName) (g : ℕ) → IsDecider schema set r (by.Statement n) → IsDecider schema set r (by.NoGuard g) → ⊥
  guarded n g (inl deny) lacks = none-first schema false r (named_set set) n lacks.not_denied deny
  guarded n g (inr allowed) lacks = none-silent schema r set.guards g allowed.guarded lacks.silent

  pub one-decider : (a b : Decider) → IsDecider schema set r a → IsDecider schema set r b → a ≡ b
  one-decider (by.Statement m) (by.Statement n) p q = ap by.Statement (one-statement m n p q)
  one-decider (by.Statement m) by.NoGrant p q = absurd (granted m p q)
  one-decider (by.Statement m) (by.NoGuard g) p q = absurd (guarded m g p q)
  one-decider by.NoGrant (by.Statement n) p q = absurd (granted n q p)
  one-decider by.NoGrant by.NoGrant p q = refl
  one-decider by.NoGrant (by.NoGuard g) p q = absurd (none-first schema true r (named_grants set) q.name p.not_granted q.granted)
  one-decider (by.NoGuard g) (by.Statement n) p q = absurd (guarded n g q p)
  one-decider (by.NoGuard g) by.NoGrant p q = absurd (none-first schema true r (named_grants set) p.name q.not_granted p.granted)
  one-decider (by.NoGuard g) (by.NoGuard h) p q = ap by.NoGuard (one-silent schema r set.guards g h p.silent q.silent)
