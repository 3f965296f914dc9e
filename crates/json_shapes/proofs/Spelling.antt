-- The compact text of a value that is spelled is read as the value.
use Rattle.std.proofs.Common.{◌≡◌, ◌≤◌, ℕ, ℤ, pos, negsuc, suc, max, arith, List, [], ◌∷◌, ◌++◌, Bool, true, false, Option, Some, option_map, option_and_then, append-nil, refl, ap, sym, ◌∙◌, subst}
use Rattle.std.specs.Str.{IsUtf8}
use Rattle.std.specs.Prelude.{decimal}
use Rattle.std.proofs.lemmas.Fmt.{IsAscii-decimal}
use Rattle.std.proofs.lemmas.Str.{IsUtf8-append, IsUtf8-from_ascii}
use Rattle.std.proofs.lemmas.Str.Ascii.{IsAscii-cons}
use Rattle.json.specs.Json as json
use Rattle.json.specs.Lex.{tokens}
use Rattle.json.specs.Print.{quoted}
use Rattle.json.specs.Token.{Token}
use Rattle.json.specs.Tree as tree
use Rattle.json.proofs.Printed.Decimals.{IsNumber-decimal, IsNumber-signed_decimal}
use Rattle.json.proofs.Printed.Tokens.{tokens-print}
use Rattle.json.proofs.Printed.Trees.{ArePrintable-json_tokens, value-json_tokens}
use Rattle.json.proofs.Printed.Utf8.{IsUtf8-are_ascii, IsUtf8-boolean, IsUtf8-quoted}
use Rattle.serde_json.specs.Data.{Num, unsigned, negative, float, Data, null, boolean, number, string, array, object, Items, no_items, item, Members, no_members, member, put, depth, items_depth, members_depth}
use Rattle.serde_json.specs.Read.{max_depth, number_of, of_items, of_json, of_members, read}
use Rattle.serde_json.specs.Written.{comma_if, compact_text, items_outline, items_text, members_outline, members_text, number_text, outline}
use Rattle.serde_json.proofs.Numbers.{number_of-decimal, number_of-negative}
use Rattle.serde_json.proofs.Texts.{print-outline}
use Rattle.json_shapes.specs.Spelled.{EachMember, IsInteger, IsReadAgain, IsSigned, IsSpelled, ItemsAreSpelled, MembersAreSpelled}
use Rattle.json_shapes.proofs.LineFeeds.{tokens-fed}
use Rattle.json_shapes.proofs.Readings.{json_of-some}
use Rattle.json_shapes.proofs.Rising.{each-put, joined, joined-rising, rising-put}

-- ---- numbers

signed-number : (z : ℤ) → IsSigned z → tree.HasNumbers (outline (number (negative z)))
signed-number (pos n) fits = absurd fits
signed-number (negsuc n) fits = IsNumber-signed_decimal (negsuc n) fits

number-number : (n : Num) → IsInteger n → tree.HasNumbers (outline (number n))
number-number (unsigned n) fits = IsNumber-decimal n fits
number-number (negative z) fits = signed-number z fits
number-number (float x) fits = absurd fits

signed-read : (z : ℤ) → IsSigned z → number_of (number_text (negative z)) ≡ Some (negative z)
signed-read (pos n) fits = absurd fits
signed-read (negsuc n) fits = number_of-negative n fits

number-read : (n : Num) → IsInteger n → number_of (number_text n) ≡ Some n
number-read (unsigned n) fits = number_of-decimal n fits
number-read (negative z) fits = signed-read z fits
number-read (float x) fits = absurd fits

signed-utf8 : (z : ℤ) → IsSigned z → IsUtf8 (number_text (negative z))
signed-utf8 (pos n) fits = absurd fits
signed-utf8 (negsuc n) fits =
    IsUtf8-from_ascii (45 ∷ decimal (suc n)) (IsAscii-cons 45 (decimal (suc n)) (omega arith) (IsAscii-decimal (suc n) (omega arith)))

number-utf8 : (n : Num) → IsInteger n → IsUtf8 (number_text n)
number-utf8 (unsigned n) fits = IsUtf8-from_ascii (decimal n) (IsAscii-decimal n fits)
number-utf8 (negative z) fits = signed-utf8 z fits
number-utf8 (float x) fits = absurd fits

mutual
  has-numbers : (d : Data) → IsSpelled d → tree.HasNumbers (outline d)
  has-numbers null spelled = tt
  has-numbers (boolean b) spelled = tt
  has-numbers (number n) spelled = number-number n spelled
  has-numbers (string s) spelled = tt
  has-numbers (array ds) spelled = items-numbers ds spelled
  has-numbers (object ms) spelled = members-numbers ms spelled.1

  items-numbers : (ds : Items) → ItemsAreSpelled ds → tree.ItemsHaveNumbers (items_outline ds)
  items-numbers no_items spelled = tt
  items-numbers (item d ds) spelled = (has-numbers d spelled.0, items-numbers ds spelled.1)

  members-numbers : (ms : Members) → MembersAreSpelled ms → tree.MembersHaveNumbers (members_outline ms)
  members-numbers no_members spelled = tt
  members-numbers (member l d ms) spelled = (has-numbers d spelled.0.1, members-numbers ms spelled.1)

-- ---- what is read

mutual
  is-read : (d : Data) → IsSpelled d → of_json (outline d) ≡ Some d
  is-read null spelled = refl
  is-read (boolean b) spelled = refl
  is-read (number n) spelled = ap (option_map number) (number-read n spelled)
  is-read (string s) spelled = refl
  is-read (array ds) spelled = ap (option_map array) (items-read ds spelled)
  is-read (object ms) spelled =
      ap (option_map object) (members-read ms no_members spelled.1 ∙ ap (λ (found : Members). let read : Option Members = Some found in read) (joined-rising ms spelled.0))

  items-read : (ds : Items) → ItemsAreSpelled ds → of_items (items_outline ds) ≡ Some ds
  items-read no_items spelled = refl
  items-read (item d ds) spelled =
      ap (option_and_then (λ (e : Data). option_map (item e) (of_items (items_outline ds)))) (is-read d spelled.0) ∙ ap (option_map (item d)) (items-read ds spelled.1)

  members-read : (ms found : Members) → MembersAreSpelled ms → of_members (members_outline ms) found ≡ Some (joined found ms)
  members-read no_members found spelled = refl
  members-read (member l d ms) found spelled =
      ap (option_and_then (λ (e : Data). of_members (members_outline ms) (put l e found))) (is-read d spelled.0.1) ∙ members-read ms (put l d found) spelled.1

-- ---- its bytes

one-byte : (b : ℕ) (bs : List ℕ) → IsUtf8 (b ∷ []) → IsUtf8 bs → IsUtf8 (b ∷ bs)
one-byte b bs here rest = IsUtf8-append (b ∷ []) bs here rest

comma-utf8 : (later : Bool) → IsUtf8 (comma_if later)
comma-utf8 true = IsUtf8-are_ascii (44 ∷ []) refl
comma-utf8 false = IsUtf8-are_ascii [] refl

mutual
  text-utf8 : (d : Data) → IsSpelled d → IsUtf8 (compact_text d)
  text-utf8 null spelled = IsUtf8-are_ascii (compact_text null) refl
  text-utf8 (boolean b) spelled = IsUtf8-boolean b
  text-utf8 (number n) spelled = number-utf8 n spelled
  text-utf8 (string s) spelled = IsUtf8-quoted s spelled
  text-utf8 (array ds) spelled = one-byte 91 (items_text false ds) (IsUtf8-are_ascii (91 ∷ []) refl) (items-utf8 false ds spelled)
  text-utf8 (object ms) spelled = one-byte 123 (members_text false ms) (IsUtf8-are_ascii (123 ∷ []) refl) (members-utf8 false ms spelled.1)

  items-utf8 : (later : Bool) (ds : Items) → ItemsAreSpelled ds → IsUtf8 (items_text later ds)
  items-utf8 later no_items spelled = IsUtf8-are_ascii (93 ∷ []) refl
  items-utf8 later (item d ds) spelled =
      IsUtf8-append (comma_if later) (compact_text d ++ items_text true ds) (comma-utf8 later)
      (IsUtf8-append (compact_text d) (items_text true ds) (text-utf8 d spelled.0) (items-utf8 true ds spelled.1))

  members-utf8 : (later : Bool) (ms : Members) → MembersAreSpelled ms → IsUtf8 (members_text later ms)
  members-utf8 later no_members spelled = IsUtf8-are_ascii (125 ∷ []) refl
  members-utf8 later (member l d ms) spelled =
      let rest = compact_text d ++ members_text true ms in
      IsUtf8-append (comma_if later) (quoted l ++ 58 ∷ rest) (comma-utf8 later)
      (IsUtf8-append (quoted l) (58 ∷ rest) (IsUtf8-quoted l spelled.0.0)
      (one-byte 58 rest (IsUtf8-are_ascii (58 ∷ []) refl) (IsUtf8-append (compact_text d) (members_text true ms) (text-utf8 d spelled.0.1) (members-utf8 true ms spelled.1))))

-- ---- nesting

mutual
  outline-depth : (d : Data) → tree.depth (outline d) ≡ depth d
  outline-depth null = refl
  outline-depth (boolean b) = refl
  outline-depth (number n) = refl
  outline-depth (string s) = refl
  outline-depth (array ds) = ap suc (items-depth ds)
  outline-depth (object ms) = ap suc (members-depth ms)

  items-depth : (ds : Items) → tree.items_depth (items_outline ds) ≡ items_depth ds
  items-depth no_items = refl
  items-depth (item d ds) = ap (λ n. max n (tree.items_depth (items_outline ds))) (outline-depth d) ∙ ap (max (depth d)) (items-depth ds)

  members-depth : (ms : Members) → tree.members_depth (members_outline ms) ≡ members_depth ms
  members-depth no_members = refl
  members-depth (member l d ms) = ap (λ n. max n (tree.members_depth (members_outline ms))) (outline-depth d) ∙ ap (max (depth d)) (members-depth ms)

-- ---- the whole text

abbrev whole : Option (json.Json × List Token) → Option Data
whole o = option_and_then of_json (option_and_then (λ p. json.if_last p.0 p.1) o)

tokens-read : (d : Data) (text : List ℕ) → IsSpelled d → depth d ≤ max_depth → tokens text ≡ tree.json_tokens (outline d) → read text ≡ Some d
tokens-read d text spelled shallow shown =
    let nested : tree.depth (outline d) ≤ max_depth = subst (λ n. n ≤ max_depth) (sym (outline-depth d)) shallow in
    ap whole (ap (json.value max_depth) (shown ∙ sym (append-nil (tree.json_tokens (outline d)))) ∙ value-json_tokens (outline d) max_depth [] nested) ∙ is-read d spelled

tokens-alone : (d : Data) → IsSpelled d → tokens (compact_text d) ≡ tree.json_tokens (outline d)
tokens-alone d spelled = ap tokens (sym (print-outline d)) ∙ tokens-print (tree.json_tokens (outline d)) (ArePrintable-json_tokens (outline d) (has-numbers d spelled))

tokens-ended : (d : Data) → IsSpelled d → tokens (compact_text d ++ 10 ∷ []) ≡ tree.json_tokens (outline d)
tokens-ended d spelled =
    let ts = tree.json_tokens (outline d) in
    let printable = ArePrintable-json_tokens (outline d) (has-numbers d spelled) in
    ap (λ (text : List ℕ). tokens (text ++ 10 ∷ [])) (sym (print-outline d)) ∙ tokens-fed ts printable ∙ tokens-print ts printable

pub read-again : (d : Data) → IsSpelled d → depth d ≤ max_depth → IsReadAgain d
read-again d spelled shallow =
    let utf8 = text-utf8 d spelled in record {
      alone = json_of-some (compact_text d) d utf8 (tokens-read d (compact_text d) spelled shallow (tokens-alone d spelled));
      ended =
          json_of-some (compact_text d ++ 10 ∷ []) d (IsUtf8-append (compact_text d) (10 ∷ []) utf8 (IsUtf8-are_ascii (10 ∷ []) refl))
          (tokens-read d (compact_text d ++ 10 ∷ []) spelled shallow (tokens-ended d spelled));
    }

-- ---- members that are put in

abbrev IsWritten : List ℕ → Data → Type 0
IsWritten l d = IsUtf8 l × IsSpelled d

to-each : (ms : Members) → MembersAreSpelled ms → EachMember IsWritten ms
to-each no_members spelled = tt
to-each (member l d ms) spelled = (spelled.0, to-each ms spelled.1)

from-each : (ms : Members) → EachMember IsWritten ms → MembersAreSpelled ms
from-each no_members each = tt
from-each (member l d ms) each = (each.0, from-each ms each.1)

-- an object is spelled still where a member that is spelled is put in
pub spelled-put : (l : List ℕ) (d : Data) (ms : Members) → IsUtf8 l → IsSpelled d → IsSpelled (object ms) → IsSpelled (object (put l d ms))
spelled-put l d ms name value spelled = (rising-put l d ms spelled.0, from-each (put l d ms) (each-put IsWritten l d ms (name, value) (to-each ms spelled.1)))
