use Rattle.std.proofs.Common.{◌<◌, List, All, length, subst, sym}
use Rattle.pattern_automata.specs.declared.moves.Patch.{Patch}
use Rattle.pattern_automata.proofs.Patching.{masks-size, patches-within, leads-ok}
use Rattle.pattern_automata.proofs.search.step_into.Goals as goal

pub step_words-requires-clause-size : goal.step_words-requires-clause-size
step_words-requires-clause-size c = masks-size c.args.wants.now.patterns c.args.machine.now.masks _ c.requires.machine.masks c.requires.size

pub step_words-requires-clause-within : goal.step_words-requires-clause-within
step_words-requires-clause-within c =
    subst (λ (x : List Patch). All (λ (p : Patch). p.index < length c.args.state.now) x) (sym c.as_slice.ensures.value) (patches-within c.args.wants.now.patterns c.args.step.now _ c.requires.does c.requires.size)

pub returns : goal.returns
returns c =
    leads-ok c.step_words.result c.args.wants.now.patterns c.args.machine.now.masks c.args.step.now _ c.args.state.now _ c.requires.machine.masks c.requires.does c.as_slice.ensures.value
    c.step_words.ensures.count c.step_words.ensures.small c.step_words.ensures.marks
