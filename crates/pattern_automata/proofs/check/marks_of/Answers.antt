use Rattle.std.proofs.Common.{◌≡◌, ◌∙◌, [], refl, arith, take}
use Rattle.std.proofs.lemmas.List.{get_or_default, take_all}
use Rattle.pattern_automata.proofs.Checking.{all_rise-at, marks_from-more}
use Rattle.pattern_automata.proofs.check.marks_of.Goals as goal

pub push_marks-requires : goal.push_marks-requires
push_marks-requires c =
    let places = c.get.result.now in
    let read = c.get.ensures ∙ get_or_default c.args.state.now c.loop-i.i [] places (omega (arith, c.requires.0, c.loop-i-test.true)) in
    all_rise-at c.args.state.now c.loop-i.i places c.requires.1 (omega (arith, c.requires.0, c.loop-i-test.true)) read

pub loop-i-preserved : goal.loop-i-preserved
loop-i-preserved c =
    let places = c.get.result.now in
    let read = c.get.ensures ∙ get_or_default c.args.state.now c.loop-i.i [] places (omega (arith, c.requires.0, c.loop-i-test.true)) in
    marks_from-more c.args.patterns.now c.args.state.now c.loop-i.i _ places places _ _ _ c.loop-i-test.true c.requires.0 c.index-patterns-i.is read refl c.len.ensures.value c.loop-i.invariant c.in_ok-push_marks.ensures

pub get-requires : goal.get-requires
get-requires c = omega (arith, c.requires.0, c.loop-i-test.true)

pub returns : goal.returns
returns c =
    let patterns : take c.loop-i.i c.args.patterns.now ≡ c.args.patterns.now = take_all c.loop-i.i c.args.patterns.now (omega (arith, c.loop-i-test.false)) in
    let state : take c.loop-i.i c.args.state.now ≡ c.args.state.now = take_all c.loop-i.i c.args.state.now (omega (arith, c.requires.0, c.loop-i-test.false)) in
    rw (patterns, state) at c.loop-i.invariant
