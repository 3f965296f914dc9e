use Rattle.std.proofs.Common.{◌≡◌, map, Some, arith, rules, chars}
use Rattle.std.proofs.lemmas.Str.{scalars-chars}
use Rattle.wildcard_lang.specs.Symbols.{symbols}
use Rattle.wildcard_lang.specs.Reading.{literal_of}
use Rattle.wildcard_lang.proofs.PatternRules.{IsPattern-read, Keeps-literal, plain_read, literals_of-written}
use Rattle.wildcard_lang.proofs.reading.read_literal.Goals as goal

pub from_pieces-requires : goal.from_pieces-requires
from_pieces-requires c =
    let read : symbols c.args.escapes (chars c.args.text.now) ≡ Some c.in_ok-symbols.symbols = search rules in
    let made : c.in_ok-pieces.pieces.items ≡ map (literal_of c.args.fold) c.in_ok-symbols.symbols = search rules in
    IsPattern-read _ (Keeps-literal c.args.fold) c.args.escapes (chars c.args.text.now) _ _ (scalars-chars c.args.text.now c.utf8.text) read made (omega arith)

pub returns-clause-plain : goal.returns-clause-plain
returns-clause-plain c =
    let read : symbols c.args.escapes (chars c.args.text.now) ≡ Some c.in_ok-symbols.symbols = search rules in
    let made : c.from_pieces.result ≡ map (literal_of c.args.fold) c.in_ok-symbols.symbols = search rules in
    plain_read _ _ (literals_of-written c.args.fold) c.args.escapes (chars c.args.text.now) _ _ read made (omega arith)
