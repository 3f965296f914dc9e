use Rattle.std.proofs.Common.{rules, subst, sym}
use Rattle.policy_model.specs.Soundness.{IsSound}
use Rattle.policy_load.proofs.Sound.{first_sound, second_sound}
use Rattle.policy_load.proofs.sets.load_pair.Goals as goal

pub returns-clause-sound : goal.returns-clause-sound
returns-clause-sound c = (
  subst IsSound (sym c.in_ok-first.ensures) (first_sound c.args.count c.requires),
  subst IsSound (sym c.in_ok-second.ensures) second_sound,
)

pub returns-clause-value : goal.returns-clause-value
returns-clause-value c = search rules
