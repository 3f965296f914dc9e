use Rattle.std.proofs.Common.{ℕ, List, [], ◌∷◌, ◌++◌, ◌∙◌, set, subst, sym, ap}
use Rattle.std.specs.Prelude.{Contains}
use Rattle.std.proofs.lemmas.List.{get_or_read, append-nil}
use Rattle.nogoods.specs.Tracking.{watchers_in}
use Rattle.nogoods.proofs.Watches.{keeps-put, holds-put}
use Rattle.nogoods.proofs.watching.watch.Goals as goal

pub returns-in_err-push-clause-kept : goal.returns-in_err-push-clause-kept
returns-in_err-push-clause-kept c =
    let lt = c.in_ok-fill_to.ensures.room in
    let mid = c.fill_to.new.items.items in
    let bucket = c.bucket_of-bucket.result in
    let read = get_or_read mid bucket c.index_mut.result.now lt c.index_mut.ensures.value [] in
    keeps-put c.args.watching.now.items mid bucket c.push.new.self [] (rw c.new-nothing.ensures at c.in_ok-fill_to.ensures.same) lt (c.in_err-push.ensures.err ∙ read ∙ sym (append-nil (watchers_in mid bucket)))

pub returns-clause-kept : goal.returns-clause-kept
returns-clause-kept c =
    let lt = c.in_ok-fill_to.ensures.room in
    let mid = c.fill_to.new.items.items in
    let bucket = c.bucket_of-bucket.result in
    let read = get_or_read mid bucket c.index_mut.result.now lt c.index_mut.ensures.value [] in
    let add : List ℕ → List ℕ = λ xs. xs ++ c.args.number ∷ [] in
    keeps-put c.args.watching.now.items mid bucket c.push.new.self (c.args.number ∷ []) (rw c.new-nothing.ensures at c.in_ok-fill_to.ensures.same) lt (c.in_ok-push.ensures.ok ∙ ap add read)

pub returns-clause-ok : goal.returns-clause-ok
returns-clause-ok c =
    let after : List (List ℕ) = set c.fill_to.new.items.items c.bucket_of-bucket.result c.push.new.self in
    subst (λ (k : ℕ). Contains (watchers_in after k) c.args.number) c.bucket_of-bucket.ensures.number (holds-put c.fill_to.new.items.items c.bucket_of-bucket.result c.push.new.self c.index_mut.result.now c.args.number c.in_ok-fill_to.ensures.room c.in_ok-push.ensures.ok)
