-- A request as JSON has no floating-point number, and nests at most three deep.
use Rattle.std.proofs.Common.{◌≡◌, ◌≤◌, List, [], ◌∷◌, ℕ, map, fold, false, Ordering, Less, Equal, Greater, nat_cmp, refl, arith}
use Rattle.std.specs.Cmp.Lexicographic.{slice_cmp}
use Rattle.std.specs.Ordering.{match_ordering}
use Rattle.std.specs.Str.{encode_utf8_all}
use Rattle.serde_json.specs.Data.{Data, Members, no_members, member, put, depth, items_depth, members_depth}
use Rattle.serde_json.specs.Read.{max_depth}
use Rattle.serde_json.specs.View.{items_of}
use Rattle.serde_json.specs.Written.{has_float, items_have_float, members_have_float}
use Rattle.json_shapes.proofs.WithoutFloats.{neither, put-no_float}
use Rattle.text_table.specs.Table.{Entries}
use Rattle.policy_model.specs.declared.request.Request.{Request}
use Rattle.policy_model.specs.declared.value.Value.{Value}
use Rattle.request_json.specs.RequestTexts.{context_members, request_data, value_data, values_data}

values-no_float : (vs : List Value) → items_have_float (items_of (map value_data vs)) ≡ false
values-no_float [] = refl
values-no_float (v ∷ vs) = values-no_float vs

keys-no_float : (es : Entries (List Value)) (ms : Members) → members_have_float ms ≡ false → members_have_float (fold (λ ms entry. put (encode_utf8_all entry.0) (values_data entry.1) ms) ms es) ≡ false
keys-no_float [] ms none = none
keys-no_float (e ∷ es) ms none =
    keys-no_float es (put (encode_utf8_all e.0) (values_data e.1) ms) (put-no_float (encode_utf8_all e.0) (values_data e.1) ms (values-no_float e.1) none)

pub request-no_float : (q : Request) → has_float (request_data q) ≡ false
request-no_float q = neither (members_have_float (context_members q.context)) false (keys-no_float q.context no_members refl) refl

-- ---- nesting

three-depth : (n : ℕ) (o : Ordering) (a b c : Members) → members_depth a ≤ n → members_depth b ≤ n → members_depth c ≤ n → members_depth (match_ordering o a b c) ≤ n
three-depth n Less a b c x y z = x
three-depth n Equal a b c x y z = y
three-depth n Greater a b c x y z = z

put-depth : (n : ℕ) (k : List ℕ) (d : Data) (ms : Members) → depth d ≤ n → members_depth ms ≤ n → members_depth (put k d ms) ≤ n
put-depth n k d no_members h few = omega (arith, h)
put-depth n k d (member l e ms) h few =
    let rest : members_depth ms ≤ n = omega (arith, few) in
    let more = put-depth n k d ms h rest in
    three-depth n (slice_cmp nat_cmp k l) (member k d (member l e ms)) (member l d ms) (member l e (put k d ms))
    (omega (arith, h, few)) (omega (arith, h, rest)) (omega (arith, few, more))

values-depth : (vs : List Value) → items_depth (items_of (map value_data vs)) ≤ 0
values-depth [] = omega arith
values-depth (v ∷ vs) = let rest = values-depth vs in omega (arith, rest)

keys-depth : (es : Entries (List Value)) (ms : Members) → members_depth ms ≤ 1 → members_depth (fold (λ ms entry. put (encode_utf8_all entry.0) (values_data entry.1) ms) ms es) ≤ 1
keys-depth [] ms few = few
keys-depth (e ∷ es) ms few =
    let values = values-depth e.1 in
    keys-depth es (put (encode_utf8_all e.0) (values_data e.1) ms) (put-depth 1 (encode_utf8_all e.0) (values_data e.1) ms (omega (arith, values)) few)

pub request-depth : (q : Request) → depth (request_data q) ≤ max_depth
request-depth q = let keys = keys-depth q.context no_members (omega arith) in omega (arith, keys)
