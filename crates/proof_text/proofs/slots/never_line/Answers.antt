use Rattle.std.proofs.Common.{sym, ap, ◌∙◌, Option}
use Rattle.proof_text.specs.Faults.{fault_of_line}
use Rattle.proof_text.specs.LineForms.{ExpectKindProof}
use Rattle.proof_text.specs.Lines.{Line}
use Rattle.proof_text.specs.Lines.{never_line}
use Rattle.proof_text.proofs.Endings.{alone-none}
use Rattle.proof_text.proofs.slots.never_line.Goals as goal

pub returns-then-is_some : goal.returns-then-is_some
returns-then-is_some c = ap (λ (o : Option Line). fault_of_line c.args.limits c.args.begun ExpectKindProof o) (alone-none never_line c.args.behind (sym c.is_some.ensures ∙ c.if-is_some.true))
