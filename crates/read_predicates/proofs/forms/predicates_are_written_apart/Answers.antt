use Rattle.read_predicates.proofs.Apart.{predicates-apart}
use Rattle.read_predicates.proofs.forms.predicates_are_written_apart.Goals as goal

pub returns : goal.returns
returns c = predicates-apart (record { spelled = c.written_block_spells.ensures; one = c.text_spells_one_block.ensures })
