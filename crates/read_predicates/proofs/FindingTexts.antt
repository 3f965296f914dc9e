-- Two lists of texts are equal where their compact JSON is.
use Rattle.std.proofs.Common.{◌≡◌, ℕ, List, [], ◌∷◌, map, refl, ap, sym, ◌∙◌}
use Rattle.json.specs.Lex.{tokens}
use Rattle.json.specs.Tree as tree
use Rattle.json.proofs.Printed.Tokens.{tokens-print}
use Rattle.json.proofs.Printed.Trees.{ArePrintable-json_tokens}
use Rattle.serde_json.specs.Data.{Items, array, string}
use Rattle.serde_json.specs.View.{items_of}
use Rattle.serde_json.specs.Written.{compact_text, items_outline, outline}
use Rattle.serde_json.proofs.Texts.{print-outline}

abbrev strings : List (List ℕ) → Items
strings texts = items_of (map string texts)

no-numbers : (texts : List (List ℕ)) → tree.ItemsHaveNumbers (items_outline (strings texts))
no-numbers [] = tt
no-numbers (text ∷ texts) = (tt, no-numbers texts)

-- the tokens of what is written are those of the list
tokens-written : (texts : List (List ℕ)) → tokens (compact_text (array (strings texts))) ≡ tree.json_tokens (outline (array (strings texts)))
tokens-written texts =
    let d = array (strings texts) in
    ap tokens (sym (print-outline d)) ∙ tokens-print (tree.json_tokens (outline d)) (ArePrintable-json_tokens (outline d) (no-numbers texts))

items-apart : (texts others : List (List ℕ)) → tree.items_tokens (items_outline (strings texts)) ≡ tree.items_tokens (items_outline (strings others)) → texts ≡ others
items-apart [] [] e = refl
items-apart [] (other ∷ others) e = absurd (cc)
items-apart (text ∷ texts) [] e = absurd (cc)
items-apart (text ∷ texts) (other ∷ others) e =
    let rest : tree.items_tokens (items_outline (strings texts)) ≡ tree.items_tokens (items_outline (strings others)) = cc in
    let later = items-apart texts others rest in
    let here : text ≡ other = cc in
    cc

pub texts-apart : (texts others : List (List ℕ)) → compact_text (array (items_of (map string texts))) ≡ compact_text (array (items_of (map string others))) → texts ≡ others
texts-apart texts others same =
    let whole : tree.json_tokens (outline (array (strings texts))) ≡ tree.json_tokens (outline (array (strings others))) = sym (tokens-written texts) ∙ ap tokens same ∙ tokens-written others in
    let rest : tree.items_tokens (items_outline (strings texts)) ≡ tree.items_tokens (items_outline (strings others)) = cc in
    items-apart texts others rest
