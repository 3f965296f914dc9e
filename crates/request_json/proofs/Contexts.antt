-- A context as JSON, key by key.
use Rattle.std.proofs.Common.{◌≡◌, ◌+◌, ◌∙◌, ℕ, List, take, Some, ap, sym}
use Rattle.std.specs.Prelude.{slice_get}
use Rattle.std.specs.Str.{encode_utf8_all}
use Rattle.std.proofs.lemmas.List.Sums.{fold_more}
use Rattle.serde_json.specs.Data.{Members, no_members, put}
use Rattle.text_table.specs.Table.{Entries}
use Rattle.policy_model.specs.declared.value.Value.{Value}
use Rattle.policy_model.proofs.Laws.{slice_get-at}
use Rattle.request_json.specs.RequestTexts.{context_members, values_data}

-- one more key is put behind those that stand
pub adds : (es : Entries (List Value)) (i : ℕ) (key : List ℕ) (values : List Value) (old new : Members) → slice_get es i ≡ Some (key, values) → old ≡ context_members (take i es) → new ≡ put (encode_utf8_all key) (values_data values) old → new ≡ context_members (take (i + 1) es)
adds es i key values old new at stand is =
    let here = slice_get-at es i (key, values) (key, values) at in
    let one = fold_more (λ ms entry. put (encode_utf8_all entry.0) (values_data entry.1) ms) no_members es i (key, values) here.0 in
    is ∙ ap (put (encode_utf8_all key) (values_data values)) stand ∙ sym (rw here.1 at one)
