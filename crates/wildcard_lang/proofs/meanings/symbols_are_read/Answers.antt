use Rattle.wildcard_lang.proofs.Escapes.{symbols_are_read}
use Rattle.wildcard_lang.proofs.meanings.symbols_are_read.Goals as goal

pub returns : goal.returns
returns c = symbols_are_read
