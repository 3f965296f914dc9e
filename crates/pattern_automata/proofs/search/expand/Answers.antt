use Rattle.std.proofs.Common.{◌∙◌, ap, arith, length}
use Rattle.std.proofs.lemmas.List.{take_all}
use Rattle.pattern_automata.specs.Moves.{characters_of, fronts}
use Rattle.pattern_automata.proofs.Moving.{move-at}
use Rattle.pattern_automata.proofs.Searching.{words-length}
use Rattle.pattern_automata.proofs.Standing.{visited-next, skipped-next}
use Rattle.pattern_automata.proofs.Visiting.{left}
use Rattle.pattern_automata.proofs.search.expand.Goals as goal

pub leads_as_earlier-requires-clause-size : goal.leads_as_earlier-requires-clause-size
leads_as_earlier-requires-clause-size c = ap length c.get.ensures ∙ words-length _ _ _ c.loop-k.invariant.0.tree _ c.loop-k.invariant.1

pub leads_as_earlier-requires-clause-does : goal.leads_as_earlier-requires-clause-does
leads_as_earlier-requires-clause-does c = move-at (fronts c.args.wants.now.patterns) c.args.machine.now.moves.items c.loop-k.k _ c.requires.machine.moves (omega (arith, c.len-k-end.ensures, c.loop-k-test.true)) c.index-step.ensures

pub visit-requires-clause-does : goal.visit-requires-clause-does
visit-requires-clause-does c = move-at (fronts c.args.wants.now.patterns) c.args.machine.now.moves.items c.loop-k.k _ c.requires.machine.moves (omega (arith, c.len-k-end.ensures, c.loop-k-test.true)) c.index-step.ensures

pub loop-k-preserved-then-leads_as_earlier : goal.loop-k-preserved-then-leads_as_earlier
loop-k-preserved-then-leads_as_earlier c =
    let s = c.leads_as_earlier.ensures c.if-leads_as_earlier.true in
    let w = c.loop-k.invariant in (
      w.0,
      w.1,
      skipped-next c.args.wants.now.patterns _ _ c.args.machine.now.moves.items c.loop-k.k _ (omega (arith, c.len-k-end.ensures, c.loop-k-test.true)) c.index-step.ensures _ _ _ s.0 c.get.ensures s.1 s.2 w.2,
    )

pub loop-k-preserved : goal.loop-k-preserved
loop-k-preserved c =
    visited-next c.args.wants.now.patterns _ _ c.args.machine.now.moves.items c.loop-k.k _ (omega (arith, c.len-k-end.ensures, c.loop-k-test.true)) c.index-step.ensures _ _ _ _ _ (rw c.in-Left.is at c.in_ok-end.ensures) c.loop-k.invariant.2

pub returns : goal.returns
returns c = left _ _ _ _ _ _ _ _ _ (ap characters_of (take_all _ c.args.machine.now.moves.items (omega (arith, c.len-k-end.ensures, c.loop-k-test.false)))) c.loop-k.invariant.0 c.loop-k.invariant.2
