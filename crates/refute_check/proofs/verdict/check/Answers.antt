use Rattle.refute_check.specs.Proofs.{proof_of}
use Rattle.refute_check.proofs.Walking.{whole-fails}
use Rattle.refute_check.proofs.verdict.check.Goals as goal

pub returns : goal.returns
returns c =
    whole-fails c.args.schema.now c.args.query.now (proof_of c.args.refutation.now) _ c.in_ok-walk_whole.field-0 c.in-Failed.node c.requires.nodes c.new-path.ensures c.in-Failed.is c.in_ok-walk_whole.ensures
