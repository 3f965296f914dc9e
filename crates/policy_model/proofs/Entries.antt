-- What holds of the keys and of the values of entries.
use Rattle.std.proofs.Common.{◌≡◌, ℕ, List, All, Option, Some, None, slice_get, option_map, sym, ap, ◌∙◌, subst}
use Rattle.std.specs.Prelude.{Result, Ok, Err, OnOk, OnErr, IfSome}
use Rattle.std.specs.Map.{keys_of, values_of}
use Rattle.std.proofs.lemmas.Option.{slice_get-map}
use Rattle.text_table.specs.Table.{Entries}
use Rattle.policy_model.proofs.Items.{slice_get-at}

-- what holds with and without an insertion holds whether there was memory or not
pub inserted : {V T E : Type 0} (P : Entries V → Type 0) (r : Result T E) (old new more : Entries V) → P old → P more → OnOk r (new ≡ more) → OnErr r (new ≡ old) → P new
inserted P (Ok x) old new more before after ok err = subst P (sym ok) after
inserted P (Err e) old new more before after ok err = subst P (sym err) before

all-at : {T : Type 0} (P : T → Type 0) (xs : List T) (i : ℕ) (x : T) → All P xs → slice_get xs i ≡ Some x → P x
all-at P xs i x all e =
    let at = slice_get-at xs i x x e in
    subst P at.1 (all i x at.0)

pub key-at : {V : Type 0} (P : List ℕ → Type 0) (entries : Entries V) (i : ℕ) → All P (keys_of entries) → (e : List ℕ × V) → slice_get entries i ≡ Some e → P e.0
key-at P entries i all e h = all-at P (keys_of entries) i e.0 all (slice_get-map (λ x. x.0) entries i ∙ ap (option_map (λ x. x.0)) h)

pub value-at : {V : Type 0} (P : V → Type 0) (entries : Entries V) (i : ℕ) → All P (values_of entries) → (e : List ℕ × V) → slice_get entries i ≡ Some e → P e.1
value-at P entries i all e h = all-at P (values_of entries) i e.1 all (slice_get-map (λ x. x.1) entries i ∙ ap (option_map (λ x. x.1)) h)

-- what holds of the entry at an index holds of what was found there
pub found : {A B : Type 0} (f : A → B) (Q : B → Type 0) (r : Option A) (o : Option B) → option_map f r ≡ o → ((b : B) → o ≡ Some b → Q b) → IfSome r (λ a. Q (f a))
found f Q None o e each = tt
found f Q (Some a) o e each = each (f a) (sym e)
