use Rattle.std.proofs.Common.{◌<◌, ◌∙◌, ◌-◌, ℕ, length, ap, sym, arith}
use Rattle.pattern_automata.specs.declared.moves.Move.{Move}
use Rattle.pattern_automata.specs.Marks.{all_reached}
use Rattle.pattern_automata.specs.Packed.{pack}
use Rattle.pattern_automata.specs.Moves.{fronts}
use Rattle.pattern_automata.proofs.Masking.{moves-alike}
use Rattle.pattern_automata.proofs.Moving.{character-at, move-at}
use Rattle.pattern_automata.proofs.search.leads_as_before.Goals as goal

pub returns : goal.returns
returns c = λ h.
    let ps = c.args.wants.now.patterns in
    let moves = c.args.machine.now.moves.items in
    let before : Move = c.index.result.now in
    let inside : c.args.k - 1 < length moves = omega (arith, c.requires.within, c.if-k-eq0.false) in
    let is = move-at (fronts ps) moves (c.args.k - 1) before c.requires.machine.moves inside c.index.ensures in
    let same = sym c.as_slice.ensures.value ∙ (c.are_same.ensures h ∙ c.as_slice-2.ensures.value) in (
      c.args.k - 1,
      omega (arith, c.if-k-eq0.false),
      λ marks size at.
          moves-alike ps c.args.machine.now.masks c.requires.machine.masks c.args.step.now before c.requires.does is same c.args.state.now marks size at
          ∙ ap (λ (x : ℕ). pack (all_reached ps marks x)) (character-at moves (c.args.k - 1) before inside c.index.ensures),
    )
