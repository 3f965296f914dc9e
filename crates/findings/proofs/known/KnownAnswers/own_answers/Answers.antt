use Rattle.std.proofs.Common.{arith}
use Rattle.findings.proofs.Saying.{lying-first, lying-next}
use Rattle.findings.proofs.Stepping.{finding-long}
use Rattle.findings.proofs.known.KnownAnswers.own_answers.Goals as goal

pub dimensions-init : goal.dimensions-init
dimensions-init c = lying-first c.args.self.now c.args.strata.now.dimensions c.args.finding.now c.in_ok-path.path c.in_ok-path.ensures

pub dimension_at-requires : goal.dimension_at-requires
dimension_at-requires c = omega (arith, finding-long c.args.strata.now.dimensions c.args.finding.now c.requires.finding)

pub dimensions-preserved : goal.dimensions-preserved
dimensions-preserved c =
    lying-next c.args.self.now c.args.strata.now.dimensions c.args.finding.now c.dimensions.path c.add_finer_at.new.path c.dimensions.i c.dimension_at.result.now c.dimensions.invariant c.dimension_at.ensures c.in_ok-add_finer_at.ensures
