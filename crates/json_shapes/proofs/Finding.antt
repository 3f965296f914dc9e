-- The members of a value, by what `as_array` and `as_str` find in it.
use Rattle.std.proofs.Common.{◌≡◌, List, [], ◌∷◌, map, Bool, Some, is_some, refl, ap, ◌∙◌, sym}
use Rattle.serde_json.specs.Data.{Data, null, boolean, number, string, array, object, Items}
use Rattle.serde_json.specs.Find.{as_array, as_str}
use Rattle.serde_json.specs.View.{view, items_of, items_view}
use Rattle.serde_json.specs.declared.value.Value.{Value}
use Rattle.json_shapes.specs.Json.{one_or_more, values_in, values_of}
use Rattle.json_shapes.specs.Shapes.{is_string}

values_of-items_of : (ds : List Data) → values_of (items_of ds) ≡ ds
values_of-items_of [] = refl
values_of-items_of (d ∷ ds) = ap (λ (rest : List Data). d ∷ rest) (values_of-items_of ds)

one_or_more-array : (d : Data) (ds : Items) → Some ds ≡ as_array d → one_or_more d ≡ values_of ds
one_or_more-array null ds e = cc
one_or_more-array (boolean b) ds e = cc
one_or_more-array (number x) ds e = cc
one_or_more-array (string s) ds e = cc
one_or_more-array (object ms) ds e = cc
one_or_more-array (array found) ds e = let same : found ≡ ds = cc in ap values_of same

-- the members of a list are its values
pub one_or_more-values : (d : Data) (values : List Value) → Some (items_view values) ≡ as_array d → map view values ≡ one_or_more d
one_or_more-values d values e =
    let listed = one_or_more-array d (items_view values) e in
    let plain = values_of-items_of (map view values) in
    cc

-- a value is a string where it has a text
pub is_string-as_str : (d : Data) (b : Bool) → b ≡ is_some (as_str d) → b ≡ is_string d
is_string-as_str null b e = e
is_string-as_str (boolean c) b e = e
is_string-as_str (number x) b e = e
is_string-as_str (string s) b e = e
is_string-as_str (array ds) b e = e
is_string-as_str (object ms) b e = e

values_of-items_view : (vs : List Value) → values_of (items_view vs) ≡ map view vs
values_of-items_view [] = refl
values_of-items_view (v ∷ vs) = ap (λ (ds : List Data). view v ∷ ds) (values_of-items_view vs)

values_in-array : (d : Data) (ds : Items) → Some ds ≡ as_array d → values_in d ≡ values_of ds
values_in-array null ds e = cc
values_in-array (boolean b) ds e = cc
values_in-array (number x) ds e = cc
values_in-array (string s) ds e = cc
values_in-array (object ms) ds e = cc
values_in-array (array found) ds e = let same : found ≡ ds = cc in ap values_of same

-- the values of a list are what its items stand for
pub values_in-list : (d : Data) (vs : List Value) → Some (items_view vs) ≡ as_array d → map view vs ≡ values_in d
values_in-list d vs e = sym (values_in-array d (items_view vs) e ∙ values_of-items_view vs)
