use Rattle.std.proofs.Common.{◌≡◌, ◌∙◌, ◌<◌, ◌+◌, ◌++◌, ◌∷◌, [], ap, sym, refl, length, take, arith}
use Rattle.std.proofs.lemmas.List.{take_all, take_more, get_or_default}
use Rattle.pattern_automata.specs.Marks.{mark_count}
use Rattle.pattern_automata.specs.Packed.{words_for}
use Rattle.pattern_automata.proofs.Indexing.{passed-more}
use Rattle.pattern_automata.proofs.Packing.{length-pack}
use Rattle.pattern_automata.proofs.check.all_pass.Goals as goal

pub passes-requires-clause-size : goal.passes-requires-clause-size
passes-requires-clause-size c =
    let within : c.loop-i.i < length c.args.found.now = omega (arith, c.len-i-end.ensures, c.loop-i-test.true) in
    let own = c.requires.marks c.loop-i.i [] within in
    ap length (c.get.ensures ∙ own.2) ∙ (length-pack own.0 ∙ ap words_for own.1)

pub loop-i-init : goal.loop-i-init
loop-i-init c = λ marks size there. absurd (omega (arith, there.1))

pub loop-i-preserved : goal.loop-i-preserved
loop-i-preserved c =
    let within : c.loop-i.i < length c.args.found.now = omega (arith, c.len-i-end.ensures, c.loop-i-test.true) in
    let grown : take (c.loop-i.i + 1) c.args.found.now ≡ take c.loop-i.i c.args.found.now ++ c.get.result.now ∷ [] =
    rw c.get.ensures (take_more c.args.found.now c.loop-i.i [] within) in
    passed-more (mark_count c.args.wants.now.patterns) (take c.loop-i.i c.args.found.now) (take (c.loop-i.i + 1) c.args.found.now) c.get.result.now grown
    (λ marks n e. (c.in_ok-passes.ensures marks n e).0 c.if-not-branch.false) c.loop-i.invariant

pub returns-then-not-branch : goal.returns-then-not-branch
returns-then-not-branch c = (
  λ h. absurd (cc),
  λ all.
      let within : c.loop-i.i < length c.args.found.now = omega (arith, c.len-i-end.ensures, c.loop-i-test.true) in
      let own = c.requires.marks c.loop-i.i [] within in
      let is = c.get.ensures ∙ own.2 in
      sym c.if-not-branch.true ∙ (c.in_ok-passes.ensures own.0 own.1 is).1 (all own.0 own.1 (c.loop-i.i, within, get_or_default c.args.found.now c.loop-i.i _ [] within ∙ own.2)),
)

pub returns : goal.returns
returns c = (
  λ _. rw (take_all c.loop-i.i c.args.found.now (omega (arith, c.len-i-end.ensures, c.loop-i-test.false))) at c.loop-i.invariant,
  λ _. refl,
)
