-- What a look-up finds among entries where one was put in.
use Rattle.std.proofs.Common.{◌≡◌, ℕ, List, [], ◌∷◌, Bool, true, false, ◌||◌, is_some, Option, Some, Ordering, Less, Equal, Greater, refl, ap, sym, subst, ◌∙◌}
use Rattle.std.specs.Prelude.{if◌then◌else◌}
use Rattle.std.specs.Ordering.{is_eq, match_ordering, nat_cmp}
use Rattle.std.specs.Cmp.Lexicographic.{slice_cmp}
use Rattle.std.proofs.lemmas.Cmp.{nat_list_cmp_total, tied_itself}
use Rattle.std.proofs.lemmas.Map.Text.{is_eq-slice_cmp}
use Rattle.std.proofs.lemmas.Slice.Eq.{bytes_eq-Decides}
use Rattle.text_table.specs.Table.{Entries, item_at, with_item}
use Rattle.request_schema.specs.BuiltIn.{is_key}

abbrev pub cmp : List ℕ → List ℕ → Ordering
cmp = slice_cmp nat_cmp

pub is_key-is : (a b : List ℕ) → is_key a b ≡ true → a ≡ b
is_key-is a b h = (bytes_eq-Decides a b).0 (sym (is_eq-slice_cmp a b) ∙ h)

pub is_key-same : (a : List ℕ) → is_key a a ≡ true
is_key-same a = ap is_eq (tied_itself nat_list_cmp_total a)

pub equal-keys : (a b : List ℕ) → cmp a b ≡ Equal → a ≡ b
equal-keys a b e = is_key-is a b (ap is_eq e)

over : {V : Type 0} (b c : Bool) (v w : V) (o : Option V) → (b ≡ true → c ≡ true → ⊥) → (if c then Some w else (if b then Some v else o)) ≡ (if b then Some v else (if c then Some w else o))
over true true v w o apart = absurd (apart refl refl)
over true false v w o apart = refl
over false true v w o apart = refl
over false false v w o apart = refl

replaced : {V : Type 0} (b : Bool) (v w : V) (o : Option V) → (if b then Some v else o) ≡ (if b then Some v else (if b then Some w else o))
replaced true v w o = refl
replaced false v w o = refl

at-step : {V : Type 0} (q k : List ℕ) (v : V) (e : List ℕ × V) (es later : Entries V) (r : Ordering) → cmp k e.0 ≡ r → item_at q later ≡ (if is_key q k then Some v else item_at q es) →
    item_at q (match_ordering r ((k, v) ∷ e ∷ es) ((e.0, v) ∷ es) (e ∷ later)) ≡ (if is_key q k then Some v else (if is_key q e.0 then Some e.1 else item_at q es))
at-step q k v e es later Less is rest = refl
at-step {V} q k v e es later Equal is rest =
    subst (λ (own : List ℕ). (if is_key q e.0 then Some v else item_at q es) ≡ (if is_key q own then Some v else (if is_key q e.0 then Some e.1 else item_at q es))) (sym (equal-keys k e.0 is)) (replaced (is_key q e.0) v e.1 (item_at q es))
at-step {V} q k v e es later Greater is rest =
    ap (λ (o : Option V). if is_key q e.0 then Some e.1 else o) rest
    ∙ over (is_key q k) (is_key q e.0) v e.1 (item_at q es) (λ at_k at_e. let same : k ≡ e.0 = sym (is_key-is q k at_k) ∙ is_key-is q e.0 at_e in let tied : cmp k e.0 ≡ Equal = subst (λ (x : List ℕ). cmp k x ≡ Equal) same (tied_itself nat_list_cmp_total k) in cc)

-- it finds what was put in at the same key, and otherwise what was there
pub item_at-with : {V : Type 0} (q k : List ℕ) (v : V) (entries : Entries V) → item_at q (with_item entries k v) ≡ (if is_key q k then Some v else item_at q entries)
item_at-with q k v [] = refl
item_at-with q k v (e ∷ es) = at-step q k v e es (with_item es k v) (cmp k e.0) refl (item_at-with q k v es)

some-if : {V : Type 0} (b : Bool) (v : V) (o : Option V) → is_some (if b then Some v else o) ≡ (b || is_some o)
some-if true v o = refl
some-if false v o = refl

pub some-with : {V : Type 0} (q k : List ℕ) (v : V) (entries : Entries V) → is_some (item_at q (with_item entries k v)) ≡ (is_key q k || is_some (item_at q entries))
some-with q k v entries = ap is_some (item_at-with q k v entries) ∙ some-if (is_key q k) v (item_at q entries)
