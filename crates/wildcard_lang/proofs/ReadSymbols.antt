-- Symbols read one after another.
use Rattle.std.proofs.Common.{◌≡◌, List, [], ◌∷◌, ◌++◌, Option, Some, None, refl, ap, append_assoc}
use Rattle.wildcard_lang.specs.declared.symbol.Symbol.{Symbol}
use Rattle.wildcard_lang.specs.Symbols.{prepend}

-- the symbols with more in front
abbrev pub prepend_all : List Symbol → Option (List Symbol) → Option (List Symbol)
prepend_all ss None = None
prepend_all ss (Some ts) = Some (ss ++ ts)

pub prepend_all-next : (ss : List Symbol) (s : Symbol) (read : Option (List Symbol)) → prepend_all (ss ++ s ∷ []) read ≡ prepend_all ss (prepend s read)
prepend_all-next ss s None = refl
prepend_all-next ss s (Some ts) = ap Some (append_assoc ss (s ∷ []) ts)
