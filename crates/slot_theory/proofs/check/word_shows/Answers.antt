use Rattle.std.proofs.Common.{◌↔◌, IsTrue, IfOk, List, Option, subst}
use Rattle.wildcard_lang.specs.declared.piece.Piece.{Piece}
use Rattle.slot_theory.specs.Wants.{IsClosedFor}
use Rattle.slot_theory.proofs.Products.{word-wanted}
use Rattle.slot_theory.proofs.check.word_shows.Goals as goal

pub is_closed_for-requires : goal.is_closed_for-requires
is_closed_for-requires c = record {
  wanted = word-wanted c.args.question.now c.args.core.now c.requires.slot c.requires.core;
}

pub returns-in-Word : goal.returns-in-Word
returns-in-Word c =
    let q = c.args.question.now in
    rw c.in-Word.is (subst (λ (shape : Option (List Piece)). IfOk c.is_closed_for.result (λ yes. IsTrue yes ↔ IsClosedFor q.tests.now q.path.now c.args.core.now shape c.in-Word.closed)) c.shape_at-shape.ensures c.is_closed_for.ensures)
