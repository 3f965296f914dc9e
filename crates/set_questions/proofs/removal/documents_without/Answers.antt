use Rattle.std.proofs.Common.{◌≡◌, ◌++◌, ◌-◌, [], ◌∷◌, get_or, if◌then◌else◌, nat_eq, ap, ◌∙◌}
use Rattle.std.proofs.lemmas.Bool.{eq-eqb, eqb-true}
use Rattle.policy_model.specs.declared.set.Document.{Document}
use Rattle.set_questions.specs.Removal.{document_without, documents_without}
use Rattle.set_questions.proofs.Removing.{change-next}
use Rattle.set_questions.proofs.removal.documents_without.Goals as goal

pub loop-one-preserved : goal.loop-one-preserved
loop-one-preserved c =
    let n = c.loop-one.left in
    let one = nat_eq n 1 in
    let x = c.one-item.result in
    let xs = c.args.documents.now in
    let i = c.loop-one.one-index in
    let f = document_without c.args.statement in
    let kept : c.push.new.self ≡ c.loop-one.kept ++ (if one then f (get_or xs i x) else get_or xs i x) ∷ [] =
    c.in_ok-push.ensures.ok ∙ ap (λ (y : Document). c.loop-one.kept ++ y ∷ []) (c.in_ok-document_kept.ensures ∙ ap (λ (y : Document). (if one then f y else y)) c.one-item.is) in
    let left : c.saturating_sub-left.result ≡ n - 1 = c.saturating_sub-left.ensures in
    rw (kept, left) (change-next f n i one c.loop-one.kept (documents_without c.args.document c.args.statement xs) xs x c.loop-one-test.true (λ e. eqb-true n 1 e) (λ e. eq-eqb n 1 e) c.loop-one.invariant)
