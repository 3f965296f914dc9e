use Rattle.std.proofs.Common.{◌∙◌, ap, arith, sym, subst, refl, List, ℕ, Contains, take}
use Rattle.std.proofs.lemmas.List.{take_all}
use Rattle.pattern_automata.specs.Moves.{characters_of, fronts}
use Rattle.pattern_automata.specs.Tree.{words_meet}
use Rattle.pattern_automata.proofs.Moving.{characters-more, has-character, move-at}
use Rattle.pattern_automata.proofs.Standing.{earlier-scalar, earlier-there, index-more}
use Rattle.pattern_automata.proofs.check.passes.Goals as goal

pub returns-then-is_met : goal.returns-then-is_met
returns-then-is_met c = λ marks size is. (
  λ h. absurd (cc),
  λ p. sym p.none ∙ (ap (λ (x : List ℕ). words_meet c.args.machine.now.ends.items c.args.wants.now.clauses x) (sym is) ∙ sym c.if-is_met.ensures),
)

pub loop-k-init : goal.loop-k-init
loop-k-init c = λ marks size is x s known. absurd (cc)

pub leads_as_earlier-requires-clause-does : goal.leads_as_earlier-requires-clause-does
leads_as_earlier-requires-clause-does c = move-at (fronts c.args.wants.now.patterns) c.args.machine.now.moves.items c.loop-k.k _ c.requires.machine.moves (omega (arith, c.len-k-end.ensures, c.loop-k-test.true)) c.index-step.ensures

pub step_into-requires-clause-does : goal.step_into-requires-clause-does
step_into-requires-clause-does c = move-at (fronts c.args.wants.now.patterns) c.args.machine.now.moves.items c.loop-k.k _ c.requires.machine.moves (omega (arith, c.len-k-end.ensures, c.loop-k-test.true)) c.index-step.ensures

pub loop-k-preserved-then-leads_as_earlier : goal.loop-k-preserved-then-leads_as_earlier
loop-k-preserved-then-leads_as_earlier c = λ marks size is.
    let moves = c.args.machine.now.moves.items in
    let s = c.leads_as_earlier.ensures c.if-leads_as_earlier.true in
    let scalar = earlier-scalar (fronts c.args.wants.now.patterns) moves s.0 (omega (arith, s.1, c.len-k-end.ensures, c.loop-k-test.true)) c.requires.machine.moves in
    let there = earlier-there moves s.0 c.loop-k.k s.1 (omega (arith, c.len-k-end.ensures, c.loop-k-test.true)) in
    index-more c.args.wants.now.patterns _ c.args.index.now (characters_of (take c.loop-k.k moves)) _ marks
    (characters-more moves c.loop-k.k _ (omega (arith, c.len-k-end.ensures, c.loop-k-test.true)) c.index-step.ensures)
    (subst (λ (x : List ℕ). Contains c.args.index.now x) (sym (s.2 marks size is)) (c.loop-k.invariant marks size is _ scalar there)) (c.loop-k.invariant marks size is)

pub returns-then-not-has : goal.returns-then-not-has
returns-then-not-has c = λ marks size is. (
  λ h. absurd (cc),
  λ p.
      let moves = c.args.machine.now.moves.items in
      let m = move-at (fronts c.args.wants.now.patterns) moves c.loop-k.k _ c.requires.machine.moves (omega (arith, c.len-k-end.ensures, c.loop-k-test.true)) c.index-step.ensures in
      let there = p.steps c.index-step.result.now.character m.scalar (has-character moves c.loop-k.k _ (omega (arith, c.len-k-end.ensures, c.loop-k-test.true)) c.index-step.ensures) in
      sym c.if-not-has.true ∙ c.has.ensures.1 (subst (λ (x : List ℕ). Contains c.args.index.now x) (sym (c.as_slice.ensures.value ∙ c.in_ok-step_into.ensures marks size is)) there),
)

pub loop-k-preserved : goal.loop-k-preserved
loop-k-preserved c = λ marks size is.
    let moves = c.args.machine.now.moves.items in
    index-more c.args.wants.now.patterns _ c.args.index.now (characters_of (take c.loop-k.k moves)) _ marks
    (characters-more moves c.loop-k.k _ (omega (arith, c.len-k-end.ensures, c.loop-k-test.true)) c.index-step.ensures)
    (subst (λ (x : List ℕ). Contains c.args.index.now x) (c.as_slice.ensures.value ∙ c.in_ok-step_into.ensures marks size is) (c.has.ensures.0 c.if-not-has.false)) (c.loop-k.invariant marks size is)

pub returns : goal.returns
returns c = λ marks size is. (
  λ h.
      let all = ap characters_of (take_all c.loop-k.k c.args.machine.now.moves.items (omega (arith, c.len-k-end.ensures, c.loop-k-test.false))) in
      record {
        none = ap (λ (x : List ℕ). words_meet c.args.machine.now.ends.items c.args.wants.now.clauses x) (sym is) ∙ sym c.if-is_met.ensures;
        steps = λ x s known. c.loop-k.invariant marks size is x s (rw all known);
      },
  λ p. refl,
)
