use Rattle.std.proofs.Common.{subst, sym}
use Rattle.policy_model.specs.declared.schema.Schema.{Schema}
use Rattle.findings.specs.Judging.{IsFirstAlone}
use Rattle.findings.specs.Queries.{AreMadeUnder}
use Rattle.findings.proofs.standing.first_failing.Goals as goal

pub first_alone-requires-clause-made : goal.first_alone-requires-clause-made
first_alone-requires-clause-made c =
    subst (λ (s : Schema). AreMadeUnder s c.args.base.now c.args.strata.now) (sym c.in_ok-validity.ensures) c.requires.made

pub returns : goal.returns
returns c =
    subst (λ (s : Schema). IsFirstAlone s c.args.base.now c.args.strata.now c.args.pairs.now c.in_ok-first.first) c.in_ok-validity.ensures c.in_ok-first.ensures
