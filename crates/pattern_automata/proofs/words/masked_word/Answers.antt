use Rattle.std.proofs.Common.{◌∙◌, ap, arith, get_or}
use Rattle.std.proofs.lemmas.List.{get_or_read}
use Rattle.pattern_automata.specs.Steps.{moved_at}
use Rattle.pattern_automata.proofs.words.masked_word.Goals as goal

pub index-requires : goal.index-requires
index-requires c = omega (arith, c.requires.size.0, c.requires.within)

pub index-requires-2 : goal.index-requires-2
index-requires-2 c = omega (arith, c.requires.size.1, c.requires.within)

pub returns : goal.returns
returns c = λ b h.
    let one = get_or_read c.args.masks.now.one.items c.args.index c.index.result.now (omega (arith, c.requires.size.0, c.requires.within)) c.index.ensures 0 in
    let many = get_or_read c.args.masks.now.many.items c.args.index c.index-2.result.now (omega (arith, c.requires.size.1, c.requires.within)) c.index-2.ensures 0 in
    c.moved_word.ensures b h
    ∙ (ap (λ x. moved_at x c.index-2.result.now c.args.state.now c.args.index b) one
    ∙ ap (λ x. moved_at (get_or c.args.masks.now.one.items c.args.index 0) x c.args.state.now c.args.index b) many)
