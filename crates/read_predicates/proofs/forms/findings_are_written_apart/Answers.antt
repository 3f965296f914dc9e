use Rattle.read_predicates.proofs.Numbered.{findings-apart}
use Rattle.read_predicates.proofs.forms.findings_are_written_apart.Goals as goal

pub returns : goal.returns
returns c = findings-apart c.predicates_are_of_written_forms.ensures c.predicates_are_written_apart.ensures
