use Rattle.std.proofs.Common.{arith}
use Rattle.std.proofs.lemmas.List.{get_or_read}
use Rattle.pattern_automata.proofs.Telling.{whole-patch}
use Rattle.pattern_automata.proofs.moves.patch_of.Goals as goal

pub returns-clause-words : goal.returns-clause-words
returns-clause-words c =
    let one = get_or_read c.args.masks.now.one.items c.args.index c.index.result.now (omega (arith, c.requires.masks.size, c.requires.within)) c.index.ensures 0 in
    let many = get_or_read c.args.masks.now.many.items c.args.index c.index-2.result.now (omega (arith, c.requires.masks.many_size, c.requires.within)) c.index-2.ensures 0 in
    whole-patch c.args.fronts.now c.args.masks.now c.args.index c.args.c c.word_at-one.result c.word_at-stay.result c.index.result.now c.index-2.result.now c.requires.masks c.requires.within one many c.word_at-one.ensures c.word_at-stay.ensures
