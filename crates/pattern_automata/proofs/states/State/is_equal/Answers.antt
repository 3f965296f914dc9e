use Rattle.std.proofs.Common.{[], ◌∙◌, sym, arith, length, ◌<◌}
use Rattle.std.proofs.lemmas.List.{take_all, take_more_same}
use Rattle.pattern_automata.proofs.Cutting.{same-slices}
use Rattle.pattern_automata.proofs.states.State.is_equal.Goals as goal

pub lists-preserved : goal.lists-preserved
lists-preserved c =
    let within : c.lists.i < length c.args.self.now = omega (arith, c.len-i-end.ensures, c.lists-test.true) in
    let same = same-slices c.get.result.now c.get-in-lists.result.now c.ne.result c.ne.ensures c.if-ne.false in (
      c.lists.invariant.0,
      take_more_same c.args.self.now c.args.other.now c.lists.i [] within (omega (arith, c.lists.invariant.0, within)) c.lists.invariant.1 (sym c.get.ensures ∙ (same ∙ c.get-in-lists.ensures)),
    )

pub returns : goal.returns
returns c = λ yes'.
    sym (take_all c.lists.i c.args.self.now (omega (arith, c.len-i-end.ensures, c.lists-test.false)))
    ∙ (c.lists.invariant.1 ∙ take_all c.lists.i c.args.other.now (omega (arith, c.len-i-end.ensures, c.lists-test.false, c.lists.invariant.0)))
