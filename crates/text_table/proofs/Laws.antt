-- Lemmas that crates above cite. Loops over the entries of a map: `rest` are the entries that are left, `e` the next of them and
-- `left` those behind it.
use Rattle.std.proofs.Common.{◌≡◌, ◌↔◌, List, ◌∷◌, All, subst}
use Rattle.std.proofs.lemmas.List.Elements.{All-head, All-tail, All-cons}
-- what a look-up finds is an entry with this key, and what holds of each entry holds of it
pub use Rattle.text_table.proofs.Found.{item_at-entry, item_at-All}

module _ {E : Type 0} (P : E → Type 0) (all rest left : List E) (e : E) (split : rest ≡ e ∷ left) (so_far : All P all ↔ All P rest) where
  -- where P holds of the next entry, it holds of all exactly where it holds of those behind it
  pub walk-next : P e → All P all ↔ All P left
  walk-next here = (
    λ h. All-tail P e left (subst (All P) split (so_far.0 h)),
    λ h. so_far.1 (rw split (All-cons P e left here h)),
  )

  -- where it doesn't hold of the next entry, it doesn't hold of all
  pub walk-stops : ¬ P e → ¬ All P all
  walk-stops not h = not (All-head P e left (subst (All P) split (so_far.0 h)))
