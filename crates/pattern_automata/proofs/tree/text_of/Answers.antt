use Rattle.std.proofs.Common.{◌∙◌, sym, subst}
use Rattle.wildcard_lang.specs.Text.{IsText}
use Rattle.pattern_automata.proofs.Scalars.{text-reversed}
use Rattle.pattern_automata.proofs.Spelling.{spell-turn, spell-end}
use Rattle.pattern_automata.proofs.tree.text_of.Goals as goal

pub loop-at-preserved : goal.loop-at-preserved
loop-at-preserved c = spell-turn _ _ _ _ _ _ c.requires.rooted c.loop-at-test.true c.loop-at.invariant.0 c.in_ok-push.ensures.items c.loop-at.invariant

pub from_chars-requires : goal.from_chars-requires
from_chars-requires c = subst IsText (sym c.reverse.ensures.items) (text-reversed _ c.loop-at.invariant.1)

pub returns : goal.returns
returns c = spell-end _ _ _ c.loop-at.chars.items _ c.loop-at-test.false (c.from_chars.ensures ∙ c.reverse.ensures.items) c.loop-at.invariant.2
