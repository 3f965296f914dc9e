use Rattle.std.proofs.Common.{arith, refl}
use Rattle.std.proofs.lemmas.List.{get_or_read}
use Rattle.pattern_automata.proofs.Telling.{like-others, named-patch}
use Rattle.pattern_automata.proofs.moves.patch_at.Goals as goal

pub returns-then-bits-eq0 : goal.returns-then-bits-eq0
returns-then-bits-eq0 c = like-others c.args.fronts.now c.args.index c.args.c c.args.named.now c.bits_of-bits.result c.if-c-eq58.false c.requires.named c.bits_of-bits.ensures c.if-bits-eq0.true

pub returns : goal.returns
returns c =
    let one = get_or_read c.args.masks.now.one.items c.args.index c.index.result.now (omega (arith, c.requires.masks.size, c.requires.within)) c.index.ensures 0 in
    let many = get_or_read c.args.masks.now.many.items c.args.index c.index-2.result.now (omega (arith, c.requires.masks.many_size, c.requires.within)) c.index-2.ensures 0 in (
      refl,
      named-patch c.args.fronts.now c.args.masks.now c.args.index c.args.c c.args.named.now c.index.result.now c.index-2.result.now c.bits_of-bits.result c.requires.masks c.requires.within c.if-c-eq58.false c.requires.named one many c.bits_of-bits.ensures,
    )
