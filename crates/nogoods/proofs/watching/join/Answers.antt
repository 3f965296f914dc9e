use Rattle.std.proofs.Common.{ℕ, List, subst, sym, ap, ◌∙◌}
use Rattle.std.specs.Prelude.{Contains, slice_get}
use Rattle.nogoods.specs.Tracking.{bucket_of}
use Rattle.nogoods.specs.Tracking.{watchers_in}
use Rattle.nogoods.specs.Joining.{IsPut}
use Rattle.nogoods.proofs.Joining.{finds-hit, watched-join}
use Rattle.nogoods.proofs.watching.join.Goals as goal

pub returns-in-Ok-clause-ok : goal.returns-in-Ok-clause-ok
returns-in-Ok-clause-ok c = λ before joins.
    let old = c.args.watching.now.items in
    let bucket : ℕ = bucket_of c.args.test c.args.answer in
    let at = c.as_slice.ensures.value ∙ c.in_ok-watchers.ensures ∙ ap (watchers_in old) c.bucket_of-bucket.ensures.number in
    let put = subst (λ (b : ℕ). IsPut b c.in-Ok.stay c.turn.new.watching.items c.put_watchers.new.watching.items) c.bucket_of-bucket.ensures.number c.put_watchers.ensures in
    watched-join c.args.lists.now before c.args.path.now c.args.test c.args.answer joins old c.turn.new.watching.items c.put_watchers.new.watching.items c.in-Ok.stay c.turn.ensures.kept
    (λ number there. c.in-Ok.ensures.turned number (subst (λ (xs : List ℕ). Contains xs number) (sym at) there)) put

pub returns-in-Ok-clause-hit : goal.returns-in-Ok-clause-hit
returns-in-Ok-clause-hit c = λ before joins.
    let old = c.args.watching.now.items in
    let at = c.as_slice.ensures.value ∙ c.in_ok-watchers.ensures ∙ ap (watchers_in old) c.bucket_of-bucket.ensures.number in
    finds-hit c.args.lists.now before c.args.path.now c.args.test c.args.answer joins old c.turn.new.watching.items c.put_watchers.new.watching.items c.in-Ok.stay c.turn.ensures.kept
    (λ number there. c.in-Ok.ensures.turned number (subst (λ (xs : List ℕ). Contains xs number) (sym at) there))
    c.in-Ok.ensures.stay c.first_of-hit.result (c.first_of-hit.ensures ∙ ap (λ xs. slice_get xs 0) c.as_slice-in-Ok.ensures)
