-- What reading a text's symbols may answer.
use Rattle.std.specs.Prelude.{◌≡◌, List, Option, Some, None, Result, Ok, Err}
use Rattle.wildcard_lang.specs.declared.symbol.Symbol.{Symbol}
use Rattle.wildcard_lang.specs.declared.fault.PatternFault.{PatternFault}
use Rattle.wildcard_lang.specs.declared.fault.PatternFault.TheVariants.{PolicyVariable, ArnParts, TooLong, NoMemory}

-- the symbols, or the fault that a policy variable is, besides want of memory
abbrev pub AreSymbols : Option (List Symbol) → Result (List Symbol) PatternFault → Type 0
AreSymbols read (Ok ss) = read ≡ Some ss
AreSymbols read (Err PolicyVariable) = read ≡ None
AreSymbols read (Err ArnParts) = ⊥
AreSymbols read (Err TooLong) = ⊥
AreSymbols read (Err NoMemory) = Unit {0}
