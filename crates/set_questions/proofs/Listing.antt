-- Names that are gone through in order, and what is found of each.
use Rattle.std.proofs.Common.{◌≡◌, ◌+◌, ◌<◌, ℕ, suc, zero, List, [], ◌∷◌, ◌++◌, length, get_or, slice_get, take, Some, refl, sym, subst, arith}
use Rattle.std.specs.Prelude.{Contains}
use Rattle.std.specs.List.{AllZip}
use Rattle.std.proofs.lemmas.Option.{get_or_from_slice_get, same_Some, slice_get_within}
use Rattle.policy_model.specs.declared.set.PolicySet.{PolicySet}
use Rattle.policy_model.specs.declared.set.Statement.{Statement}
use Rattle.policy_model.specs.declared.set.StatementName.{StatementName}
use Rattle.policy_model.specs.StatementNames.{Named, named_set}
use Rattle.policy_model.specs.declared.schema.Schema.{Schema}
use Rattle.set_questions.specs.declared.outcome.Use.{Use}
use Rattle.set_questions.specs.Idle.{IsNameIn}
use Rattle.set_questions.specs.Uses.{IsUseAt, IsUseOf}
use Rattle.set_questions.proofs.Counting.{names_in}
use Rattle.set_questions.proofs.Zipped.{zip-next}

-- the named statement at an index
pub name-at : (ns : List Named) (i : ℕ) (d : StatementName) → i < length (names_in ns) → (s : Statement) × (slice_get ns i ≡ Some (get_or (names_in ns) i d, s))
name-at [] i d h = absurd (omega (arith, h))
name-at (n ∷ ns) zero d h = (n.1, refl)
name-at (n ∷ ns) (suc i) d h = name-at ns i d (omega (arith, h))

pub there-at : (ns : List Named) (i : ℕ) (n : Named) → slice_get ns i ≡ Some n → Contains ns n
there-at ns i n e = (i, slice_get_within ns i n e, get_or_from_slice_get ns i n n e)

pub name-there : (set : PolicySet) (i : ℕ) (x : StatementName) (s : Statement) → slice_get (named_set set) i ≡ Some (x, s) → IsNameIn set x
name-there set i x s e = (i, (x, s), slice_get_within (named_set set) i (x, s) e, get_or_from_slice_get (named_set set) i (x, s) (x, s) e, refl)

-- ---- names in a list that is the names of the set

module _ (set : PolicySet) (i : ℕ) (d : StatementName) (items : List StatementName) (same : items ≡ names_in (named_set set)) (h : i < length items) where
  statement-there : (s : Statement) × (slice_get (named_set set) i ≡ Some (get_or items i d, s))
  statement-there =
      let at = name-at (named_set set) i d (subst (λ (xs : List StatementName). i < length xs) same h) in
      (at.0, subst (λ (xs : List StatementName). slice_get (named_set set) i ≡ Some (get_or xs i d, at.0)) (sym same) at.1)

  pub item-there : IsNameIn set (get_or items i d)
  item-there = name-there set i (get_or items i d) statement-there.0 statement-there.1

  -- one use more
  pub use-next : (schema : Schema) (splits states own_splits own_states : ℕ) (found new : List Use) (one : Use) → own_splits ≡ splits → own_states ≡ states → IsUseAt schema own_splits own_states set (get_or items i d) one → new ≡ found ++ one ∷ [] →
      AllZip (IsUseOf schema splits states set) (take i (named_set set)) found → AllZip (IsUseOf schema splits states set) (take (i + 1) (named_set set)) new
  use-next schema splits states own_splits own_states found new one same_splits same_states at more so_far =
      let n = get_or items i d in
      let s = statement-there.0 in
      let own : IsUseOf schema own_splits own_states set (n, s) one = at s (there-at (named_set set) i (n, s) statement-there.1) in
      let told : IsUseOf schema splits states set (n, s) one =
      subst (λ (k : ℕ). IsUseOf schema k states set (n, s) one) same_splits (subst (λ (k : ℕ). IsUseOf schema own_splits k set (n, s) one) same_states own) in
      subst (λ (us : List Use). AllZip (IsUseOf schema splits states set) (take (i + 1) (named_set set)) us) (sym more)
      (zip-next (IsUseOf schema splits states set) i (named_set set) found (n, s) one statement-there.1 told so_far)
