use Rattle.std.proofs.Common.{sym}
use Rattle.slot_theory.proofs.Stating.{rule-sound}
use Rattle.slot_theory.proofs.unasked.values_of_key.Goals as goal

pub stated_values-requires : goal.stated_values-requires
stated_values-requires c = record {
  sound = rule-sound c.args.schema.now.keys c.args.key.now c.in-Some.rule.now c.requires.sound.rules (sym (rw c.in-Some.is at c.get.ensures));
}
