use Rattle.std.proofs.Common.{◌≡◌, ◌++◌, ◌-◌, [], ◌∷◌, get_or, if◌then◌else◌, nat_eq, ap, ◌∙◌}
use Rattle.std.proofs.lemmas.Bool.{eq-eqb, eqb-true}
use Rattle.policy_model.specs.declared.set.Statement.{Statement}
use Rattle.set_questions.specs.Removal.{without_item}
use Rattle.set_questions.proofs.Removing.{without-next}
use Rattle.set_questions.proofs.removal.statements_without.Goals as goal

pub loop-statement-preserved : goal.loop-statement-preserved
loop-statement-preserved c =
    let n = c.loop-statement.left in
    let one = nat_eq n 1 in
    let x = c.statement-item.result in
    let xs = c.args.statements.now in
    let i = c.loop-statement.statement-index in
    let kept : c.add_other.new.kept ≡ c.loop-statement.kept ++ (if one then [] else get_or xs i x ∷ []) =
    c.in_ok-add_other.ensures ∙ ap (λ (y : Statement). c.loop-statement.kept ++ (if one then [] else y ∷ [])) c.statement-item.is in
    let left : c.saturating_sub-left.result ≡ n - 1 = c.saturating_sub-left.ensures in
    rw (kept, left) (without-next n i one c.loop-statement.kept (without_item c.args.number xs) xs x c.loop-statement-test.true (λ e. eqb-true n 1 e) (λ e. eq-eqb n 1 e) c.loop-statement.invariant)
