use Rattle.std.proofs.Common.{◌≡◌, map, Some, false, arith, rules, chars}
use Rattle.std.proofs.lemmas.Str.{scalars-chars}
use Rattle.wildcard_lang.specs.Symbols.{symbols}
use Rattle.wildcard_lang.specs.Reading.{wildcard_of}
use Rattle.wildcard_lang.specs.Arns.{narrowed_pieces}
use Rattle.wildcard_lang.proofs.Narrow.{IsPattern-arn}
use Rattle.wildcard_lang.proofs.arn.read_arn.Goals as goal

pub from_pieces-requires : goal.from_pieces-requires
from_pieces-requires c =
    let read : symbols c.args.escapes (chars c.args.text.now) ≡ Some c.in_ok-symbols.symbols = search rules in
    let made : c.in_ok-wide.wide.items ≡ map (wildcard_of false) c.in_ok-symbols.symbols = search rules in
    let parts : c.in_ok-pieces.pieces.items ≡ narrowed_pieces 5 c.in_ok-wide.wide.items = search rules in
    IsPattern-arn c.args.escapes (chars c.args.text.now) _ _ _ (scalars-chars c.args.text.now c.utf8.text) read made parts (omega arith)
