-- The members of an object, by what `as_object` finds in it.
use Rattle.std.proofs.Common.{◌≡◌, ℕ, suc, List, [], ◌∷◌, length, nat_eq, String, Global, Some, refl, ap, sym, ◌∙◌}
use Rattle.serde_json.specs.Data.{Data, null, boolean, number, string, array, object, Members}
use Rattle.serde_json.specs.Find.{as_object}
use Rattle.serde_json.specs.View.{members_view}
use Rattle.serde_json.specs.declared.value.Value.{Value}
use Rattle.json_shapes.specs.Json.{pairs_in, pairs_of}

pairs-length : (es : List (String Global × Value)) → length (pairs_of (members_view es)) ≡ length es
pairs-length [] = refl
pairs-length (e ∷ es) = ap suc (pairs-length es)

object-pairs : (d : Data) (ms : Members) → Some ms ≡ as_object d → pairs_in d ≡ pairs_of ms
object-pairs null ms e = absurd (cc)
object-pairs (boolean b) ms e = absurd (cc)
object-pairs (number x) ms e = absurd (cc)
object-pairs (string s) ms e = absurd (cc)
object-pairs (array ds) ms e = absurd (cc)
object-pairs (object found) ms e = let same : found ≡ ms = cc in ap pairs_of same

-- an object has one member where its map has one
pub one-member : (d : Data) (es : List (String Global × Value)) (n : ℕ) → Some (members_view es) ≡ as_object d → n ≡ length es → nat_eq n 1 ≡ nat_eq (length (pairs_in d)) 1
one-member d es n is count = ap (λ k. nat_eq k 1) (count ∙ sym (pairs-length es) ∙ ap length (sym (object-pairs d (members_view es) is)))
