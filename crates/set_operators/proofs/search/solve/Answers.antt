use Rattle.set_operators.proofs.Answering.{answer-at, empty-found, idle-none, idle-ok, needed-at, posed-from}
use Rattle.set_operators.proofs.search.solve.Goals as goal

pub returns-then-not-needs_value-clause-answer : goal.returns-then-not-needs_value-clause-answer
returns-then-not-needs_value-clause-answer c =
    empty-found c.args.rule.now c.args.asks.now c.as_slice.result.now c.args.states c.new.result c.needs_value.result c.as_slice.ensures c.new.ensures c.needs_value.ensures c.if-not-needs_value.true

pub solve_needed-requires-clause-posed : goal.solve_needed-requires-clause-posed
solve_needed-requires-clause-posed c =
    posed-from c.args.rule.now c.args.asks.now c.as_slice.result.now c.as_slice-2.result.now c.needs_value.result c.shows_required.result c.shows_absent.result c.requires.sound c.requires.asks c.as_slice.ensures c.as_slice-2.ensures
    c.needs_value.ensures c.if-not-needs_value.false c.shows_required.ensures c.if-shows_required.false c.shows_absent.ensures c.if-shows_absent.false

pub solve_needed-requires-clause-needs : goal.solve_needed-requires-clause-needs
solve_needed-requires-clause-needs c =
    needed-at c.args.rule.now c.args.asks.now c.as_slice.result.now c.as_slice-2.result.now c.needs_value.result c.as_slice.ensures c.as_slice-2.ensures c.needs_value.ensures c.if-not-needs_value.false

pub returns-clause-answer : goal.returns-clause-answer
returns-clause-answer c = answer-at c.args.rule.now c.args.asks.now c.as_slice-2.result.now c.args.states c.solve_needed.result c.as_slice-2.ensures c.solve_needed.ensures

pub returns-clause-idle : goal.returns-clause-idle
returns-clause-idle c =
    idle-ok c.args.rule.now c.args.asks.now c.as_slice.result.now c.needs_value.result c.solve_needed.result c.as_slice.ensures c.needs_value.ensures c.if-not-needs_value.false

pub returns-then-shows_required-clause-idle : goal.returns-then-shows_required-clause-idle
returns-then-shows_required-clause-idle c =
    idle-none c.args.rule.now c.args.asks.now c.as_slice.result.now c.needs_value.result c.as_slice.ensures c.needs_value.ensures c.if-not-needs_value.false

pub returns-then-shows_absent-clause-idle : goal.returns-then-shows_absent-clause-idle
returns-then-shows_absent-clause-idle c =
    idle-none c.args.rule.now c.args.asks.now c.as_slice.result.now c.needs_value.result c.as_slice.ensures c.needs_value.ensures c.if-not-needs_value.false
