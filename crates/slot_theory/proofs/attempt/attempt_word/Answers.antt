use Rattle.std.proofs.Common.{refl}
use Rattle.pattern_automata.specs.declared.outcome.Product.TheVariants.{Found, TooMany}
use Rattle.slot_theory.specs.declared.outcome.SlotValue.TheVariants.{Word}
use Rattle.slot_theory.proofs.Products.{product-at, tried-attempt, word-new, word-permitted, word-wanted, word-wider}
use Rattle.slot_theory.proofs.attempt.attempt_word.Goals as goal

pub solve-requires : goal.solve-requires
solve-requires c = record {
  wanted = word-wanted c.args.question.now c.args.core.now c.requires.slot c.requires.core;
}

pub returns-in-TooMany : goal.returns-in-TooMany
returns-in-TooMany c =
    let q = c.args.question.now in
    word-wider q c.args.core.now c.requires.slot c.requires.core q.states c.in-TooMany.texts
    (product-at q.tests.now q.path.now q.states c.args.core.now c.args.core.now _ _ _ (TooMany c.in-TooMany.texts) refl c.shape_at-shape.ensures c.in-TooMany.is c.in_ok-closed.ensures)

pub returns-in-Found : goal.returns-in-Found
returns-in-Found c =
    let q = c.args.question.now in
    let met = product-at q.tests.now q.path.now q.states c.args.core.now c.args.core.now _ _ _ (Found c.in-Found.text) refl c.shape_at-shape.ensures c.in-Found.is c.in_ok-closed.ensures in
    tried-attempt q c.args.core.now (Word c.in-Found.text) c.tried.result (word-permitted q c.args.core.now c.requires.slot c.requires.core c.in-Found.text met)
    (λ n. word-new q c.args.core.now c.requires.slot c.requires.core c.in-Found.text n met.0) c.tried.ensures
