use Rattle.std.proofs.Common.{◌↔◌, IsTrue, IfOk, sym, subst}
use Rattle.slot_theory.specs.Question.{IsOnKey}
use Rattle.slot_theory.proofs.Keyed.{shows-of}
use Rattle.slot_theory.proofs.Products.{one-of-words, shows-word}
use Rattle.slot_theory.proofs.check.shows.Goals as goal

pub returns-in-Principal : goal.returns-in-Principal
returns-in-Principal c = rw c.in-Principal.is c.principal_shows.ensures

pub returns-in-Some : goal.returns-in-Some
returns-in-Some c =
    let q = c.args.question.now in
    let on : IsOnKey q c.in-Some.rule.now = record { key = c.in-Key.name; slot = c.in-Key.is; there = sym (rw c.in-Some.is at c.get.ensures) } in
    subst (λ (X : Type 0). IfOk c.key_shows.result (λ yes. IsTrue yes ↔ X)) (sym (shows-of q c.in-Some.rule.now c.args.core.now on c.requires.core c.args.proof.now)) c.key_shows.ensures

pub returns-in-Action : goal.returns-in-Action
returns-in-Action c =
    let q = c.args.question.now in
    let same = shows-word q.schema.now q.tests.now q.path.now c.args.core.now q.slot.now c.args.proof.now (one-of-words q.slot.now c.in-Action.is) in
    subst (λ (X : Type 0). IfOk c.word_shows.result (λ yes. IsTrue yes ↔ X)) (sym same) c.word_shows.ensures
