use Rattle.std.proofs.Common.{◌≡◌, None, false, get_or, refl, sym, subst}
use Rattle.std.proofs.lemmas.Option.{slice_get-get_or}
use Rattle.formula_tree.specs.Answers.{Answers, IsDistinct, answer_of}
use Rattle.tree_values.proofs.Leaving.{still-next, still-push}
use Rattle.tree_values.proofs.tree_values.TreeValues.answers_left.Goals as goal

pub add_left-requires : goal.add_left-requires
add_left-requires c =
    let items = c.as_slice-test-items.result.now in
    let k = c.answers.test-index in
    let p = get_or items k (0, false) in
    let distinct = subst IsDistinct (sym c.as_slice-test-items.ensures.value) c.as_slice-test-items.ensures.distinct in
    subst (λ (ps : Answers). answer_of ps p.0 ≡ None) (sym c.answers.invariant) (still-push c.args.self.now.answers items k p distinct (slice_get-get_or items k (0, false) c.answers-test.true))

pub answers-preserved : goal.answers-preserved
answers-preserved c =
    let items = c.as_slice-test-items.result.now in
    let k = c.answers.test-index in
    still-next c.args.self.now.answers items k c.answers.left c.add_left.new.left (get_or items k (0, false)) c.answers-test.true refl c.answers.invariant c.in_ok-add_left.ensures
