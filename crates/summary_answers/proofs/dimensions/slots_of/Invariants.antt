use Rattle.std.proofs.Common.{◌≡◌, All, take}
use Rattle.std.specs.Str.{IsUtf8}
use Rattle.command_words.specs.Asked.{texts_in}
use Rattle.summary_answers.specs.Dimensions.{NameSlots, dimension_slots}
use Rattle.summary_answers.proofs.dimensions.slots_of.Given as goal

abbrev pub invariant-loop-name : goal.invariant-loop-name
invariant-loop-name l = record {
  slots : l.slots ≡ dimension_slots (take l.name-index (texts_in l.names));
  known : NameSlots l.schema (take l.name-index (texts_in l.names));
  texts : All IsUtf8 (take l.name-index (texts_in l.names));
}
