use Rattle.json_shapes.proofs.Spelling.{read-again}
use Rattle.json_shapes.proofs.compact.compact_texts_are_read_again.Goals as goal

pub returns : goal.returns
returns c = read-again
