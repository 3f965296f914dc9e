use Rattle.std.proofs.Common.{◌∙◌, ap, subst, sym, ℕ, arith}
use Rattle.pattern_automata.specs.Closed.{InRange}
use Rattle.pattern_automata.specs.Tree.{words_meet}
use Rattle.pattern_automata.proofs.Visiting.{words-size, visited-same, visited-new, met, full}
use Rattle.pattern_automata.proofs.search.visit.Goals as goal

pub returns-then-not-new : goal.returns-then-not-new
returns-then-not-new c = visited-same _ _ _ _ _ _ _ _ _ _ _ _ c.requires.base c.requires.within c.in_ok-new.ensures c.if-not-new.true

pub is_met-requires-clause-range : goal.is_met-requires-clause-range
is_met-requires-clause-range c = subst (λ (n : ℕ). InRange n c.args.wants.now.clauses) c.requires.machine.ends.count c.requires.base.range

pub is_met-requires-clause-size : goal.is_met-requires-clause-size
is_met-requires-clause-size c = words-size _ _ _ _ _ _ _ _ _ _ _ _ c.requires.base c.requires.within c.in_ok-new.ensures _ c.as_slice.ensures.value

pub returns-then-is_met : goal.returns-then-is_met
returns-then-is_met c = met _ _ _ _ _ _ _ _ _ _ _ _ c.requires.base c.requires.within c.in_ok-new.ensures c.if-not-new.false
    (ap (λ x. words_meet c.args.machine.now.ends.items c.args.wants.now.clauses x) (sym c.as_slice.ensures.value) ∙ sym c.if-is_met.ensures)

pub returns-then-len-limit : goal.returns-then-len-limit
returns-then-len-limit c = full _ _ _ _ _ _ _ _ _ _ _ _ c.requires.base c.requires.within c.in_ok-new.ensures c.if-not-new.false (omega arith)

pub returns : goal.returns
returns c = visited-new _ _ _ _ _ _ _ _ _ _ _ _ c.requires.base c.requires.within c.in_ok-new.ensures c.if-not-new.false
    (ap (λ x. words_meet c.args.machine.now.ends.items c.args.wants.now.clauses x) (sym c.as_slice.ensures.value) ∙ sym c.if-is_met.ensures) (omega arith)
