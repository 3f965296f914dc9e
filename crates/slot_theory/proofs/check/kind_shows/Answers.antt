use Rattle.std.proofs.Common.{rules, ◌↔◌, ◌∙◌, ℕ, IsTrue, IfOk, List, Option, sym, subst}
use Rattle.wildcard_lang.specs.declared.piece.Piece.{Piece}
use Rattle.policy_model.specs.Requests.{shape_of}
use Rattle.slot_theory.specs.Question.{AreWanted}
use Rattle.slot_theory.specs.Wants.{IsClosedFor}
use Rattle.slot_theory.proofs.Products.{kind-wanted}
use Rattle.slot_theory.proofs.check.kind_shows.Goals as goal

pub is_closed_for-requires : goal.is_closed_for-requires
is_closed_for-requires c = record {
  wanted = subst (λ (xs : List ℕ). AreWanted c.args.question.now xs) (sym (c.as_slice.ensures ∙ c.in_ok-open-in-Closed.ensures)) (kind-wanted c.args.question.now c.args.core.now c.args.kind c.requires.slot c.requires.core);
}

pub returns-in_ok-open-in-Closed : goal.returns-in_ok-open-in-Closed
returns-in_ok-open-in-Closed c =
    let q = c.args.question.now in
    rw c.in-Closed.is (
    subst (λ (xs : List ℕ). IfOk c.is_closed_for.result (λ yes. IsTrue yes ↔ IsClosedFor q.tests.now q.path.now xs (shape_of q.schema.now.shapes c.args.kind) c.in-Closed.closed)) (c.as_slice.ensures ∙ c.in_ok-open-in-Closed.ensures)
    (subst (λ (shape : Option (List Piece)). IfOk c.is_closed_for.result (λ yes. IsTrue yes ↔ IsClosedFor q.tests.now q.path.now c.as_slice.result.now shape c.in-Closed.closed)) c.shape_of-shape.ensures c.is_closed_for.ensures)
    )

pub returns-in-Never : goal.returns-in-Never
returns-in-Never c = search rules
