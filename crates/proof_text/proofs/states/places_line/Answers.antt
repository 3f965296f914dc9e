use Rattle.std.proofs.Common.{sym, ◌∙◌, refl}
use Rattle.std.specs.Option.{option_copied}
use Rattle.proof_text.specs.LineForms.{ExpectState, lists_of_places}
use Rattle.proof_text.specs.Lines.{places_line}
use Rattle.proof_text.specs.Steps.{are_lists_small, parts_left}
use Rattle.proof_text.specs.declared.fault.ProofCode.TheVariants.{C1Syntax}
use Rattle.proof_text.proofs.Checking.{fault-none, fault-order, line-fails, line-large, line-small}
use Rattle.proof_text.proofs.Texts.{lists-small}
use Rattle.proof_text.proofs.states.places_line.Goals as goal

pub returns-in_default : goal.returns-in_default
returns-in_default c = line-large are_lists_small places_line c.args.limits c.args.begun ExpectState (lists_of_places (parts_left 32 (option_copied c.args.behind))) c.in_ok-lists.field-0 lists-small c.in_ok-lists.ensures c.in_default.is

pub returns-then-not-all_rise : goal.returns-then-not-all_rise
returns-then-not-all_rise c =
    let known = line-small are_lists_small places_line (lists_of_places (parts_left 32 (option_copied c.args.behind))) c.in_ok-lists.field-0 c.in-Some.lists lists-small c.in_ok-lists.ensures c.in-Some.is in
    line-fails c.args.limits c.args.begun ExpectState _ (places_line c.in-Some.lists) C1Syntax known.0 (fault-order c.args.limits c.args.begun ExpectState (places_line c.in-Some.lists) known.1 (sym c.all_rise.ensures ∙ c.if-not-all_rise.true))

pub returns : goal.returns
returns c =
    let known = line-small are_lists_small places_line (lists_of_places (parts_left 32 (option_copied c.args.behind))) c.in_ok-lists.field-0 c.in-Some.lists lists-small c.in_ok-lists.ensures c.in-Some.is in
    (known.0, fault-none c.args.limits c.args.begun ExpectState (places_line c.in-Some.lists) known.1 (sym c.all_rise.ensures ∙ c.if-not-all_rise.false) refl refl refl)
