use Rattle.std.proofs.Common.{◌≡◌, ◌+◌, ◌++◌, ◌∷◌, [], take, subst, sym}
use Rattle.std.proofs.lemmas.List.{take_more}
use Rattle.pattern_automata.specs.Closed.{IsShaped}
use Rattle.pattern_automata.proofs.Indexing.{index-known, index-more}
use Rattle.pattern_automata.proofs.check.take_in.Goals as goal

pub add_member-requires : goal.add_member-requires
add_member-requires c = subst (IsShaped c.args.patterns.now) (sym c.get.ensures) (c.requires.shaped c.args.i [] c.requires.within)

pub returns-then-branch : goal.returns-then-branch
returns-then-branch c =
    index-known c.args.patterns.now _ (take c.args.i c.args.closed.now) (take (c.args.i + 1) c.args.closed.now) (take_more c.args.closed.now c.args.i [] c.requires.within) _ _ c.requires.before
    (c.in_ok-stands_earlier.ensures c.if-branch.true)

pub returns : goal.returns
returns c =
    let grown : take (c.args.i + 1) c.args.closed.now ≡ take c.args.i c.args.closed.now ++ c.get.result ∷ [] =
    rw c.get.ensures (take_more c.args.closed.now c.args.i [] c.requires.within) in
    index-more c.args.patterns.now c.get.result (take c.args.i c.args.closed.now) (take (c.args.i + 1) c.args.closed.now) grown _ _ c.requires.before _ _ c.in_ok-add_member.ensures
