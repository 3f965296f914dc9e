use Rattle.std.proofs.Common.{arith}
use Rattle.std.proofs.lemmas.Bool.Decides.{Decides-at}
use Rattle.pattern_automata.proofs.Sets.{single-Decides, single-length}
use Rattle.pattern_automata.proofs.found.is_single.Goals as goal

pub returns-then-words-ne1 : goal.returns-then-words-ne1
returns-then-words-ne1 c = (λ yes'. absurd (cc), λ there. absurd (omega (arith, c.if-words-ne1.true, single-length c.args.single.now.keys c.args.words.now there)))

pub returns : goal.returns
returns c = Decides-at _ _ c.contains.ensures (single-Decides c.args.single.now.keys c.args.words.now (omega (arith, c.if-words-ne1.false)))
