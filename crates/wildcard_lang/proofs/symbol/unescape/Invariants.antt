use Rattle.std.proofs.Common.{◌≡◌, zero, length}
use Rattle.wildcard_lang.specs.Symbols.{symbols_after}
use Rattle.wildcard_lang.proofs.ReadSymbols.{prepend_all}
use Rattle.wildcard_lang.proofs.symbol.unescape.Given as goal

abbrev pub invariant-loop-rest : goal.invariant-loop-rest
invariant-loop-rest l = prepend_all l.symbols (symbols_after zero l.rest) ≡ symbols_after zero l.chars

abbrev pub decreases-loop-rest : goal.decreases-loop-rest
decreases-loop-rest l = length l.rest
