use Rattle.compare_program.proofs.Words.{end-number}
use Rattle.compare_program.proofs.program.Goals as goal

pub returns : goal.returns
returns c = end-number _ _ _ c.program_over.result c.program_over.ensures.ends
