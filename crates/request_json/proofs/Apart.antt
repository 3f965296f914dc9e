-- The keys of a request file, of which none is an earlier one.
use Rattle.std.proofs.Common.{◌≡◌, ℕ, List, [], ◌∷◌, Bool, false, not, ◌&&◌, ◌||◌, is_some, Option, Some, None, ap, sym, ◌∙◌}
use Rattle.std.specs.Borrow.{Bor}
use Rattle.std.specs.List.{list_any}
use Rattle.std.specs.Option.{option_copied}
use Rattle.serde_json.specs.Data.{Data}
use Rattle.text_table.specs.Table.{Entries, item_at, with_item}
use Rattle.request_schema.specs.BuiltIn.{folded_name}
use Rattle.request_schema.specs.SchemaRules.{same_key}
use Rattle.request_json.specs.RequestShapes.{are_apart, names_of}
use Rattle.request_schema.proofs.Entries.{some-with}

abbrev pub FileKey : Type 0
FileKey = List ℕ × Data

abbrev pub Seen : Type 0
Seen = Entries (Unit {0})

-- the names seen are those of the keys so far
abbrev Knows : Seen → List (List ℕ) → Type 0
Knows seen before = (name : List ℕ) → is_some (item_at (folded_name name) seen) ≡ list_any (same_key name) before

-- the keys so far are apart
pub record ApartSoFar (all rest : List FileKey) (seen : Seen) : Type 0 where
  pub before : List (List ℕ)
  pub knows : Knows seen before
  pub apart : are_apart [] (names_of all) ≡ are_apart before (names_of rest)

pub some-copied : {V : Type 0} (o : Option (Bor V)) (p : Option V) → option_copied o ≡ p → is_some o ≡ is_some p
some-copied None p e = ap is_some e
some-copied (Some v) p e = ap is_some e

module _ (twice : Bool) (all rest next : List FileKey) (key : FileKey) (seen : Seen) (so_far : ApartSoFar all rest seen) (is : rest ≡ key ∷ next) (known : twice ≡ is_some (item_at (folded_name key.0) seen)) where
  next-apart : are_apart [] (names_of all) ≡ (not twice && are_apart (key.0 ∷ so_far.before) (names_of next))
  next-apart =
      so_far.apart ∙ ap (λ (ks : List FileKey). are_apart so_far.before (names_of ks)) is
      ∙ ap (λ (b : Bool). not b && are_apart (key.0 ∷ so_far.before) (names_of next)) (sym (known ∙ so_far.knows key.0))

  -- or it isn't
  pub goes-on : twice ≡ false → (more : Seen) → more ≡ with_item seen (folded_name key.0) tt → ApartSoFar all next more
  goes-on e more more_is = record {
    before = key.0 ∷ so_far.before;
    knows = λ name. ap (λ (s : Seen). is_some (item_at (folded_name name) s)) more_is ∙ some-with (folded_name name) (folded_name key.0) tt seen ∙ ap (λ (b : Bool). same_key name key.0 || b) (so_far.knows name);
    apart = next-apart ∙ ap (λ (b : Bool). not b && are_apart (key.0 ∷ so_far.before) (names_of next)) e;
  }
