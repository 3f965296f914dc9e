-- The table of the first values of each key: what a look-up finds where a key's values were put in, and that the values of a key are
-- found in it.
use Rattle.std.proofs.Common.{◌≡◌, ◌++◌, ℕ, List, [], ◌∷◌, Bool, true, false, Option, Some, None, Ordering, Less, Equal, Greater, unwrap_or, is_some, Bor, inl, inr, refl, ap, sym, subst, ◌∙◌}
use Rattle.std.specs.Prelude.{if◌then◌else◌}
use Rattle.std.specs.Option.{option_copied, option_or}
use Rattle.std.specs.Cmp.Lexicographic.{slice_cmp}
use Rattle.std.specs.Ordering.{is_eq, match_ordering, nat_cmp}
use Rattle.std.specs.Str.{bytes_eq}
use Rattle.std.proofs.lemmas.Bool.{cases_Bool}
use Rattle.std.proofs.lemmas.Cmp.{nat_list_cmp_total, tied_itself}
use Rattle.std.proofs.lemmas.Map.Text.{is_eq-slice_cmp}
use Rattle.std.proofs.lemmas.Slice.Eq.{bytes_eq-Decides}
use Rattle.text_table.specs.Table.{Entries, item_at, with_item}
use Rattle.policy_model.specs.declared.schema.KeyRule.{KeyRule}
use Rattle.policy_model.specs.declared.test.Slot.{Slot}
use Rattle.policy_model.specs.declared.value.Value.{Value}
use Rattle.slot_theory.specs.declared.outcome.SlotValue.{SlotValue}
use Rattle.slot_theory.specs.Unasked.{stated_values}
use Rattle.request_build.specs.Taken.{HasFirstValues, IsWithFirst, first_values, key_values, values_at_key, values_under}

abbrev cmp : List ℕ → List ℕ → Ordering
cmp = slice_cmp nat_cmp

abbrev is_key : List ℕ → List ℕ → Bool
is_key q key = is_eq (cmp q key)

abbrev Found : Type 0
Found = Entries (List Value)

abbrev Valued : Type 0
Valued = Slot × SlotValue

-- ---- one key's values put in

key-is : (q key : List ℕ) → is_key q key ≡ true → q ≡ key
key-is q key h = (bytes_eq-Decides q key).0 (sym (is_eq-slice_cmp q key) ∙ h)

tied-is : (a b : List ℕ) → cmp a b ≡ Equal → a ≡ b
tied-is a b e = key-is a b (ap is_eq e)

either-first : (b c : Bool) (v w : List Value) (o : Option (List Value)) → (b ≡ true → c ≡ true → ⊥) → (if c then Some w else (if b then Some v else o)) ≡ (if b then Some v else (if c then Some w else o))
either-first true true v w o apart = absurd (apart refl refl)
either-first true false v w o apart = refl
either-first false true v w o apart = refl
either-first false false v w o apart = refl

in-place : (b : Bool) (v w : List Value) (o : Option (List Value)) → (if b then Some v else o) ≡ (if b then Some v else (if b then Some w else o))
in-place true v w o = refl
in-place false v w o = refl

put-at : (q k : List ℕ) (v : List Value) (e : List ℕ × List Value) (es later : Found) (r : Ordering) → cmp k e.0 ≡ r → item_at q later ≡ (if is_key q k then Some v else item_at q es) →
    item_at q (match_ordering r ((k, v) ∷ e ∷ es) ((e.0, v) ∷ es) (e ∷ later)) ≡ (if is_key q k then Some v else (if is_key q e.0 then Some e.1 else item_at q es))
put-at q k v e es later Less is rest = refl
put-at q k v e es later Equal is rest =
    subst (λ (own : List ℕ). (if is_key q e.0 then Some v else item_at q es) ≡ (if is_key q own then Some v else (if is_key q e.0 then Some e.1 else item_at q es))) (sym (tied-is k e.0 is)) (in-place (is_key q e.0) v e.1 (item_at q es))
put-at q k v e es later Greater is rest =
    ap (λ (o : Option (List Value)). if is_key q e.0 then Some e.1 else o) rest
    ∙ either-first (is_key q k) (is_key q e.0) v e.1 (item_at q es) (λ at_k at_e. let same : k ≡ e.0 = sym (key-is q k at_k) ∙ key-is q e.0 at_e in let tied : cmp k e.0 ≡ Equal = subst (λ (x : List ℕ). cmp k x ≡ Equal) same (tied_itself nat_list_cmp_total k) in cc)

-- what was put in is found at its key, and otherwise what was there
item-put : (q k : List ℕ) (v : List Value) (es : Found) → item_at q (with_item es k v) ≡ (if is_key q k then Some v else item_at q es)
item-put q k v [] = refl
item-put q k v (e ∷ es) = put-at q k v e es (with_item es k v) (cmp k e.0) refl (item-put q k v es)

-- ---- the first values

or-none : (o : Option (List Value)) → option_or o None ≡ o
or-none None = refl
or-none (Some vs) = refl

or-either : (a b c : Option (List Value)) → option_or (option_or a b) c ≡ option_or a (option_or b c)
or-either None b c = refl
or-either (Some vs) b c = refl

-- at the key itself, and at another one
at-same : (b : Bool) (v : List Value) (o : Option (List Value)) → (b ≡ true → o ≡ None) → (if b then Some v else o) ≡ option_or o (if b then Some v else None)
at-same true v o none = rw (none refl) refl
at-same false v o none = sym (or-none o)

-- where nothing is found the key isn't there
pub none-copied : (found : Option (Bor (List Value))) (item : Option (List Value)) → option_copied found ≡ item → is_some found ≡ false → item ≡ None
none-copied None item is none = sym is
none-copied (Some vs) item is none = absurd (cc)

-- what a key that had no values is given
pub put-first : (old new : Found) (key : List ℕ) (vs : List Value) → item_at key old ≡ None → new ≡ with_item old key vs → IsWithFirst old (λ name. values_under name key vs) new
put-first old new key vs none is name =
    let same : is_key name key ≡ bytes_eq key name = is_eq-slice_cmp name key ∙ bytes-either name key in
    ap (item_at name) is ∙ item-put name key vs old
    ∙ ap (λ (b : Bool). if b then Some vs else item_at name old) same
    ∙ at-same (bytes_eq key name) vs (item_at name old) (λ t. ap (λ (k : List ℕ). item_at k old) (sym ((bytes_eq-Decides key name).0 t)) ∙ none)
  where
    bytes-either : (a b : List ℕ) → bytes_eq a b ≡ bytes_eq b a
    bytes-either a b = elim (cases_Bool (bytes_eq a b)) [
      | inl t ↦ t ∙ sym ((bytes_eq-Decides b a).1 (sym ((bytes_eq-Decides a b).0 t)))
      | inr f ↦ elim (cases_Bool (bytes_eq b a)) [
        | inl t ↦ absurd (let back = (bytes_eq-Decides a b).1 (sym ((bytes_eq-Decides b a).0 t)) in cc)
        | inr g ↦ f ∙ sym g
      ]
    ]

first-behind : (ps : List Valued) (p : Valued) (name : List ℕ) → first_values (ps ++ p ∷ []) name ≡ option_or (first_values ps name) (values_at_key name p.0 p.1)
first-behind [] p name = or-none (values_at_key name p.0 p.1)
first-behind (q ∷ ps) p name =
    ap (option_or (values_at_key name q.0 q.1)) (first-behind ps p name) ∙ sym (or-either (values_at_key name q.0 q.1) (first_values ps name) (values_at_key name p.0 p.1))

-- one slot more
pub one-more-slot : (before after : List Valued) (p : Valued) (old new : Found) → after ≡ before ++ p ∷ [] → HasFirstValues before old → IsWithFirst old (λ name. values_at_key name p.0 p.1) new → HasFirstValues after new
one-more-slot before after p old new are so_far with_ name =
    with_ name ∙ ap (λ (o : Option (List Value)). option_or o (values_at_key name p.0 p.1)) (so_far name) ∙ sym (first-behind before p name)
    ∙ ap (λ (ps : List Valued). first_values ps name) (sym are)

-- ---- the values of a key

unwrap-either : (a b : Option (List Value)) (d : List Value) → unwrap_or a (unwrap_or b d) ≡ unwrap_or (option_or a b) d
unwrap-either None b d = refl
unwrap-either (Some vs) b d = refl

first-or-stated : (values : List Valued) (name : List ℕ) (rule : KeyRule) → key_values values name rule ≡ unwrap_or (first_values values name) (stated_values rule)
first-or-stated [] name rule = refl
first-or-stated (p ∷ ps) name rule =
    ap (unwrap_or (values_at_key name p.0 p.1)) (first-or-stated ps name rule) ∙ unwrap-either (values_at_key name p.0 p.1) (first_values ps name) (stated_values rule)

-- what the table has of a key, or else the stated values
pub found-or-stated : (values : List Valued) (found : Found) (name : List ℕ) (rule : KeyRule) (vs : List Value) → HasFirstValues values found → vs ≡ unwrap_or (item_at name found) (stated_values rule) → vs ≡ key_values values name rule
found-or-stated values found name rule vs has is =
    is ∙ ap (λ (o : Option (List Value)). unwrap_or o (stated_values rule)) (has name) ∙ sym (first-or-stated values name rule)
