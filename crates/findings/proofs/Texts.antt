-- Texts as JSON.
use Rattle.std.proofs.Common.{◌≡◌, ℕ, ◌+◌, ◌<◌, List, [], ◌∷◌, ◌++◌, Some, length, map, take, false, refl, sym, ap, ◌∙◌}
use Rattle.std.specs.Prelude.{slice_get}
use Rattle.serde_json.specs.declared.value.Value.{Value}
use Rattle.serde_json.specs.Data.{Data, string}
use Rattle.serde_json.specs.View.{items_of, view}
use Rattle.serde_json.specs.Written.{has_float, items_have_float}
use Rattle.strata.specs.declared.stratum.Stratum.{Stratum}
use Rattle.findings.specs.Steps.{predicate_number_at}
use Rattle.findings.specs.Texts.{finding_data, number_text, predicate_texts}
use Rattle.findings.proofs.Stepping.{texts-next}

map-more : {X Y : Type 0} (h : X → Y) (xs : List X) (x : X) → map h (xs ++ x ∷ []) ≡ map h xs ++ h x ∷ []
map-more h [] x = refl
map-more {X} {Y} h (y ∷ xs) x = ap (λ (ys : List Y). h y ∷ ys) (map-more h xs x)

-- the text of one more dimension
pub texts-more : (ds : List Stratum) (f : List ℕ) (i : ℕ) (d : Stratum) (before after : List Value) (v : Value) → slice_get ds i ≡ Some d → i < length f → map view before ≡ map string (predicate_texts (take i ds) (take i f)) → view v ≡ string (number_text d (predicate_number_at f i)) → after ≡ before ++ v ∷ [] →
    map view after ≡ map string (predicate_texts (take (i + 1) ds) (take (i + 1) f))
texts-more ds f i d before after v at within was is grows =
    ap (map view) grows ∙ map-more view before v ∙ ap (λ (xs : List Data). xs ++ view v ∷ []) was ∙ ap (λ (x : Data). map string (predicate_texts (take i ds) (take i f)) ++ x ∷ []) is ∙
    sym (map-more string (predicate_texts (take i ds) (take i f)) (number_text d (predicate_number_at f i))) ∙ ap (map string) (sym (texts-next ds f i d at within))

texts-no_float : (ts : List (List ℕ)) → items_have_float (items_of (map string ts)) ≡ false
texts-no_float [] = refl
texts-no_float (t ∷ ts) = texts-no_float ts

-- no number stands in the text of a finding
pub finding-no_float : (ds : List Stratum) (f : List ℕ) → has_float (finding_data ds f) ≡ false
finding-no_float ds f = texts-no_float (predicate_texts ds f)
