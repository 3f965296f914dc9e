use Rattle.std.proofs.Common.{◌≡◌, ◌∙◌, ◌<◌, ◌≤◌, ◌++◌, ◌∷◌, [], ℕ, List, IsTrue, length, arith, rules, subst, sym}
use Rattle.std.specs.Prelude.{string_bytes}
use Rattle.std.specs.Str.{IsUtf8, chars}
use Rattle.command_words.specs.Asked.{texts_in}
use Rattle.policy_model.proofs.Laws.{All-done}
use Rattle.slot_theory.specs.Slots.{SlotIsIn}
use Rattle.run_inputs.specs.declared.status.Status.TheVariants.{Refused}
use Rattle.run_inputs.specs.Printing.{IfAnswered, PrintsText}
use Rattle.run_inputs.proofs.FileLaws.{if_answered_weaker}
use Rattle.summary_answers.specs.FindingTexts.{unknown_line}
use Rattle.summary_answers.specs.Dimensions.{IsFirstUnknown, IsUnknownPrinted, NamesSlot, dimension_slot}
use Rattle.summary_answers.proofs.Naming.{known-more, name-at, past-texts, slots-more, unknown-at, utf8-more, within-texts}
use Rattle.summary_answers.proofs.dimensions.slots_of.Goals as goal

pub returns-then-not-is_in-clause-slots : goal.returns-then-not-is_in-clause-slots
returns-then-not-is_in-clause-slots c =
    let schema = c.args.schema.now in
    let names = c.args.names.now in
    let i = c.loop-name.name-index in
    let item = c.name-item.result in
    let within : i < length names = omega arith in
    let slot_is : c.in_ok-slot.slot ≡ dimension_slot (string_bytes item) = search rules in
    let unknown : ¬ NamesSlot schema (string_bytes item) = λ known.
    let there = c.is_in.ensures.1 (subst (SlotIsIn schema) (sym slot_is) known) in
    let off = c.if-not-is_in.true in
    absurd (cc) in
    let first : IsFirstUnknown schema (texts_in names) (chars (string_bytes item)) =
    unknown-at schema (texts_in names) i (string_bytes item) (within-texts names i within) (name-at names i item within c.name-item.is) c.loop-name.invariant.known unknown in
    let told : IfAnswered c.unknown.result (PrintsText (unknown_line (chars (string_bytes item))) Refused) = search rules in
    if_answered_weaker c.unknown.result (PrintsText (unknown_line (chars (string_bytes item))) Refused) (IsUnknownPrinted schema (texts_in names))
    (λ p v. record { element = chars (string_bytes item); first = first; prints = v }) told

pub loop-name-preserved : goal.loop-name-preserved
loop-name-preserved c =
    let schema = c.args.schema.now in
    let names = c.args.names.now in
    let i = c.loop-name.name-index in
    let item = c.name-item.result in
    let w : List ℕ = string_bytes item in
    let within : i < length names = omega arith in
    let inside = within-texts names i within in
    let here = name-at names i item within c.name-item.is in
    let slot_is : c.in_ok-slot.slot ≡ dimension_slot w = search rules in
    let on : IsTrue c.is_in.result = search rules in
    let pushed : c.push.new.self ≡ c.loop-name.slots ++ c.in_ok-slot.slot ∷ [] = search rules in
    let text : IsUtf8 w = subst IsUtf8 c.as_str.ensures.value c.as_str.utf8 in
    record {
      slots = pushed ∙ slots-more (texts_in names) i w c.loop-name.slots c.in_ok-slot.slot inside here c.loop-name.invariant.slots slot_is;
      known = known-more schema (texts_in names) i w inside here c.loop-name.invariant.known (subst (SlotIsIn schema) slot_is (c.is_in.ensures.0 on));
      texts = utf8-more (texts_in names) i w inside here c.loop-name.invariant.texts text;
    }

pub returns-clause-texts : goal.returns-clause-texts
returns-clause-texts c =
    let names = c.args.names.now in
    let past : length names ≤ c.loop-name.name-index = omega arith in
    All-done IsUtf8 (texts_in names) c.loop-name.name-index (past-texts names c.loop-name.name-index past) c.loop-name.invariant.texts
