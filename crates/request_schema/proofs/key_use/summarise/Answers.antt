use Rattle.std.proofs.Common.{◌≡◌, ◌++◌, ◌∷◌, [], List, take, ◌+◌, ap, sym, ◌∙◌, subst}
use Rattle.std.proofs.lemmas.List.{map-append, take_more}
use Rattle.text_table.specs.Table.{Entries}
use Rattle.request_schema.specs.KeyUses.{Summarises}
use Rattle.request_schema.specs.Uses.{Use, use_found, uses_found}
use Rattle.request_schema.specs.declared.found.FoundUse.{FoundUse}
use Rattle.request_schema.specs.declared.key_use.KeyUse.{KeyUse}
use Rattle.request_schema.proofs.Comparing.{summarises-more}
use Rattle.request_schema.proofs.key_use.summarise.Goals as goal

pub loop-found-preserved : goal.loop-found-preserved
loop-found-preserved c =
    let x = c.found-item.result in
    let i = c.loop-found.found-index in
    let more : take (i + 1) c.args.uses.now ≡ take i c.args.uses.now ++ x ∷ [] =
    take_more c.args.uses.now i x c.loop-found-test.true ∙ ap (λ (y : FoundUse). take i c.args.uses.now ++ y ∷ []) (sym c.found-item.is) in
    let found : uses_found (take (i + 1) c.args.uses.now) ≡ uses_found (take i c.args.uses.now) ++ use_found x ∷ [] = ap uses_found more ∙ map-append use_found (take i c.args.uses.now) (x ∷ []) in
    let known : Summarises (uses_found (take i c.args.uses.now) ++ use_found x ∷ []) c.add_use.new.table =
    subst (λ (t : Entries KeyUse). Summarises (uses_found (take i c.args.uses.now) ++ use_found x ∷ []) t) (sym c.in_ok-add_use.ensures) (summarises-more (uses_found (take i c.args.uses.now)) (use_found x) c.loop-found.table c.loop-found.invariant) in
    subst (λ (us : List Use). Summarises us c.add_use.new.table) (sym found) known
