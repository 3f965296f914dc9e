-- Lists that grow by one item for each member that has one.
use Rattle.std.proofs.Common.{◌≡◌, List, [], ◌∷◌, ◌++◌, append-nil, ap, sym, ◌∙◌}
use Rattle.std.proofs.lemmas.List.{append_assoc}

-- the items so far and those that are left are all, where the next one is pushed
pub pushed-next : {X : Type 0} (all rest next got pushed : List X) (x : X) → all ≡ got ++ rest → rest ≡ x ∷ next → pushed ≡ got ++ x ∷ [] → all ≡ pushed ++ next
pushed-next all rest next got pushed x so_far is grown = so_far ∙ ap (λ xs. got ++ xs) is ∙ sym (append_assoc got (x ∷ []) next) ∙ ap (λ xs. xs ++ next) (sym grown)

-- no item is left
pub all-pushed : {X : Type 0} (all rest got : List X) → all ≡ got ++ rest → rest ≡ [] → got ≡ all
all-pushed all rest got so_far is = sym (so_far ∙ ap (λ xs. got ++ xs) is ∙ append-nil got)
