use Rattle.std.proofs.Common.{rules, subst, sym}
use Rattle.policy_model.specs.declared.schema.Schema.{Schema}
use Rattle.policy_model.specs.Soundness.{SchemaFits}
use Rattle.reach_answers.proofs.outside_zone.left_outside.Goals as goal

pub returns-clause-fits : goal.returns-clause-fits
returns-clause-fits c = record {
  sound = search rules;
  fits = subst (λ (schema : Schema). SchemaFits schema c.in_ok-set.set) (sym c.in_ok-schema.ensures) (c.in_ok-set.ensures.fits.fits c.args.one.now.schema c.requires.takes c.requires.free c.requires.fits.fits);
}
