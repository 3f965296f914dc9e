use Rattle.std.proofs.Common.{◌++◌, List, ℕ, subst, sym}
use Rattle.std.specs.Char.{IsScalar}
use Rattle.std.proofs.lemmas.List.Elements.{All-append}
use Rattle.wildcard_lang.specs.Text.{IsText}
use Rattle.pattern_automata.proofs.Scalars.{text-from_all}
use Rattle.pattern_automata.proofs.joined.whole.Goals as goal

pub from_chars-requires : goal.from_chars-requires
from_chars-requires c =
    let front = c.args.front.now in
    let back = c.args.back.now in
    subst IsText (sym c.in_ok-extend_from_slice.ensures.items)
    (subst (λ (chars : List ℕ). IsText (chars ++ back)) (sym c.in_ok-chars.ensures.items)
    (text-from_all (front ++ back) (All-append IsScalar front back c.requires.front c.requires.back)))
