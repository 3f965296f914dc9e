-- What a look-up finds.
use Rattle.std.proofs.Common.{◌≡◌, ℕ, List, All, Some, true, sym, subst, ◌∙◌}
use Rattle.std.specs.Prelude.{slice_get}
use Rattle.std.specs.BTreeMap.{is_at}
use Rattle.std.specs.Ordering.{nat_cmp}
use Rattle.std.specs.Cmp.Lexicographic.{slice_cmp}
use Rattle.std.proofs.lemmas.Map.Entries.{place_from_lookup}
use Rattle.std.proofs.lemmas.Map.Text.{is_eq-slice_cmp}
use Rattle.std.proofs.lemmas.Option.{slice_get_within, get_or_from_slice_get}
use Rattle.std.proofs.lemmas.Slice.Eq.{bytes_eq-Decides}
use Rattle.text_table.specs.Table.{Entries, item_at}

same-key : (key own : List ℕ) → is_at (slice_cmp nat_cmp key) own ≡ true → key ≡ own
same-key key own h = (bytes_eq-Decides key own).0 (sym (is_eq-slice_cmp key own) ∙ h)

pub item_at-entry : {V : Type 0} (key : List ℕ) (entries : Entries V) (item : V) → item_at key entries ≡ Some item → (i : ℕ) × (slice_get entries i ≡ Some (key, item))
item_at-entry {V} key entries item e =
    let found = place_from_lookup (is_at (slice_cmp nat_cmp key)) entries item e in
    let same : key ≡ found.1 = same-key key found.1 found.3 in
    let P : List ℕ → Type 0 = λ own. slice_get entries found.0 ≡ Some (own, item) in
    (found.0, subst P (sym same) found.2)

pub item_at-All : {V : Type 0} (P : List ℕ × V → Type 0) (key : List ℕ) (entries : Entries V) (item : V) → All P entries → item_at key entries ≡ Some item → P (key, item)
item_at-All P key entries item all e =
    let at = item_at-entry key entries item e in
    subst P (get_or_from_slice_get entries at.0 (key, item) (key, item) at.1) (all at.0 (key, item) (slice_get_within entries at.0 (key, item) at.1))
