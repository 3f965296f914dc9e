-- Ordered maps as the lists of their entries.
use Rattle.std.specs.Prelude.{ℕ, List, Option, All}
use Rattle.std.specs.Ordering.{nat_cmp}
use Rattle.std.specs.Cmp.Lexicographic.{slice_cmp}
use Rattle.std.specs.BTreeMap.{is_at, insert_entry}
use Rattle.std.specs.List.Sorted.{IsStrictlySortedBy}
use Rattle.std.specs.Map.{keys_of, lookup}
use Rattle.wildcard_lang.specs.Text.{IsText}

-- the entries of a map, each a text with its item, in the order of the texts
abbrev pub Entries : Type 0 → Type 0
Entries V = List (List ℕ × V)

-- the item of a key, or none where the key isn't there
abbrev pub item_at : {V : Type 0} → List ℕ → Entries V → Option V
item_at key entries = lookup (is_at (slice_cmp nat_cmp key)) entries

-- the entries with this item at the key, in place of one that was there
abbrev pub with_item : {V : Type 0} → Entries V → List ℕ → V → Entries V
with_item entries key item = insert_entry (slice_cmp nat_cmp) entries key item

-- the keys are in the order of texts, each below those behind it
abbrev pub IsInOrder : {V : Type 0} → Entries V → Type 0
IsInOrder entries = IsStrictlySortedBy (slice_cmp nat_cmp) (keys_of entries)

-- each key is a text: a list of Unicode scalars
abbrev pub KeysAreTexts : {V : Type 0} → Entries V → Type 0
KeysAreTexts entries = All IsText (keys_of entries)
