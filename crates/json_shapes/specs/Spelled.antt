-- JSON values that are read again from their compact text (RFC 8259).
use Rattle.std.specs.Prelude.{◌≡◌, ◌≤◌, ◌<◌, ◌^◌, ◌++◌, ⊤, ℕ, ℤ, pos, negsuc, List, [], ◌∷◌, Some}
use Rattle.std.specs.Cmp.Lexicographic.{slice_cmp}
use Rattle.std.specs.Ordering.{nat_cmp}
use Rattle.std.specs.declared.cmp.Ordering.TheVariants.{Less}
use Rattle.std.specs.Str.{IsUtf8}
use Rattle.serde_json.specs.Data.{Num, unsigned, negative, float, Data, null, boolean, number, string, array, object, Items, no_items, item, Members, no_members, member, depth}
use Rattle.serde_json.specs.Read.{max_depth}
use Rattle.serde_json.specs.Written.{compact_text}
use Rattle.json_shapes.specs.Json.{json_of}

-- what holds of the name and the value of each member of an object
abbrev pub EachMember : (List ℕ → Data → Type 0) → Members → Type 0
EachMember P no_members = ⊤
EachMember P (member name d ms) = P name d × EachMember P ms

-- each name is below those behind it, by their bytes
abbrev pub NamesRise : Members → Type 0
NamesRise no_members = ⊤
NamesRise (member name d ms) = EachMember (λ later e. slice_cmp nat_cmp name later ≡ Less) ms × NamesRise ms

-- a negative number of 64 bits
abbrev pub IsSigned : ℤ → Type 0
IsSigned (pos n) = ⊥
IsSigned (negsuc n) = n < 2 ^ 63

-- an integer of 64 bits. Floats have no text of their own
abbrev pub IsInteger : Num → Type 0
IsInteger (unsigned n) = n < 2 ^ 64
IsInteger (negative z) = IsSigned z
IsInteger (float x) = ⊥

-- strings and names are of UTF-8 (RFC 3629), numbers are integers, and an object has each name once, in the order of the names
abbrev mutual
  pub IsSpelled : Data → Type 0
  IsSpelled null = ⊤
  IsSpelled (boolean b) = ⊤
  IsSpelled (number n) = IsInteger n
  IsSpelled (string s) = IsUtf8 s
  IsSpelled (array ds) = ItemsAreSpelled ds
  IsSpelled (object ms) = NamesRise ms × MembersAreSpelled ms

  pub ItemsAreSpelled : Items → Type 0
  ItemsAreSpelled no_items = ⊤
  ItemsAreSpelled (item d ds) = IsSpelled d × ItemsAreSpelled ds

  pub MembersAreSpelled : Members → Type 0
  MembersAreSpelled no_members = ⊤
  MembersAreSpelled (member name d ms) = (IsUtf8 name × IsSpelled d) × MembersAreSpelled ms

-- its text is read as the value, alone and with a line feed behind it
pub record IsReadAgain (d : Data) : Type 0 where
  pub alone : json_of (compact_text d) ≡ Some d
  pub ended : json_of (compact_text d ++ 10 ∷ []) ≡ Some d

-- a value that is spelled, and nested no deeper than a text that is read may be
abbrev pub CompactTextsAreReadAgain : Type 0
CompactTextsAreReadAgain = (d : Data) → IsSpelled d → depth d ≤ max_depth → IsReadAgain d
