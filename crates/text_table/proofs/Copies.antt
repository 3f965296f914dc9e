-- Entries whose texts and items are equal.
use Rattle.std.proofs.Common.{◌≡◌, ℕ, List, ap, ◌∙◌}
use Rattle.std.proofs.lemmas.List.Elements.{same_from_all_zip}
use Rattle.std.specs.List.{AllZip}
use Rattle.text_table.specs.Table.{Entries}

pub same_entries : {V : Type 0} (C : List ℕ → List ℕ → Type 0) (D : V → V → Type 0) (es fs : Entries V) → AllZip (λ p q. C p.0 q.0 × D p.1 q.1) es fs →
    ((t u : List ℕ) → C t u → u ≡ t) → ((v w : V) → D v w → w ≡ v) → fs ≡ es
same_entries C D es fs zip texts items =
    same_from_all_zip (λ p q. C p.0 q.0 × D p.1 q.1) es fs zip (λ p q both. ap (λ t. (t, q.1)) (texts p.0 q.0 both.0) ∙ ap (λ v. (p.0, v)) (items p.1 q.1 both.1))
