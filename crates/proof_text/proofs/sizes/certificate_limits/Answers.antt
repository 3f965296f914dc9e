use Rattle.std.proofs.Common.{refl}
use Rattle.proof_text.proofs.sizes.certificate_limits.Goals as goal

pub returns : goal.returns
returns c = record { nesting = refl; number = refl; bytes = refl }
