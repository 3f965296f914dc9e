-- What holds of entries where one was put in.
use Rattle.std.proofs.Common.{◌≡◌, ℕ, List, [], ◌∷◌, All, Ordering, Less, Equal, Greater, refl, subst}
use Rattle.std.specs.Ordering.{match_ordering}
use Rattle.std.proofs.lemmas.List.Elements.{All-cons, All-head, All-tail}
use Rattle.text_table.specs.Table.{Entries, with_item}
use Rattle.request_schema.proofs.Entries.{cmp, equal-keys}

All-at : {V : Type 0} (P : List ℕ × V → Type 0) (e : List ℕ × V) (es : Entries V) (key : List ℕ) (item : V) (later : Entries V) (r : Ordering) → cmp key e.0 ≡ r → All P (e ∷ es) → P (key, item) → All P later → All P (match_ordering r ((key, item) ∷ e ∷ es) ((e.0, item) ∷ es) (e ∷ later))
All-at P e es key item later Less is all here behind = All-cons P (key, item) (e ∷ es) here all
All-at P e es key item later Equal is all here behind = All-cons P (e.0, item) es (subst (λ (own : List ℕ). P (own, item)) (equal-keys key e.0 is) here) (All-tail P e es all)
All-at P e es key item later Greater is all here behind = All-cons P e later (All-head P e es all) behind

-- what holds of each entry and of one that is put in holds of all
pub All-with_item : {V : Type 0} (P : List ℕ × V → Type 0) (entries : Entries V) (key : List ℕ) (item : V) → All P entries → P (key, item) → All P (with_item entries key item)
All-with_item P [] key item all here = All-cons P (key, item) [] here all
All-with_item P (e ∷ es) key item all here = All-at P e es key item (with_item es key item) (cmp key e.0) refl all here (All-with_item P es key item (All-tail P e es all) here)
