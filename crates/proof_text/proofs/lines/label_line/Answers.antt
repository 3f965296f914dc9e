use Rattle.std.proofs.Common.{ap, sym, ◌∙◌, eqb, ◌≡◌, false, true, refl}
use Rattle.std.proofs.lemmas.Bool.{and_from, and_left, and_right, eq-eqb, le-ltb, lt-ltb, ne_eqb}
use Rattle.std.specs.List.{list_all}
use Rattle.std.specs.Option.{option_copied}
use Rattle.std.specs.Prelude.{nat_lt}
use Rattle.pattern_automata.specs.Closed.{rises_from}
use Rattle.proof_text.specs.Around.{node_here}
use Rattle.proof_text.specs.Faults.{answered_tests}
use Rattle.proof_text.specs.LineForms.{label_said}
use Rattle.proof_text.specs.Lines.{label_line}
use Rattle.proof_text.specs.Steps.{parts_left}
use Rattle.proof_text.specs.declared.limits.TheConstants.{MOST_NESTING}
use Rattle.proof_text.specs.declared.fault.ProofCode.TheVariants.{C1Syntax, C3TestNumber, C4Limit}
use Rattle.proof_text.proofs.Checking.{fault-depth, fault-none, fault-order, fault-test, label-known, label-too_large, line-fails}
use Rattle.proof_text.proofs.lines.label_line.Goals as goal

pub returns-in_default : goal.returns-in_default
returns-in_default c = label-too_large c.args.limits c.args.around.begun (node_here c.args.around) (parts_left 32 (option_copied c.args.behind)) c.in_ok-number.field-0 c.in_ok-number.ensures c.in_default.is

pub returns-then-number-around : goal.returns-then-number-around
returns-then-number-around c =
    let parts = parts_left 32 (option_copied c.args.behind) in
    let known = label-known parts c.in_ok-number.field-0 (c.in-Some.number, c.in-Some.answers) c.in_ok-number.ensures c.in-Some.is in
    let l = label_line c.in-Some.number c.in-Some.answers in
    line-fails c.args.limits c.args.around.begun (node_here c.args.around) (label_said parts) l C1Syntax known.0
    (fault-order c.args.limits c.args.around.begun (node_here c.args.around) l known.1 (and_left (eqb c.in-Some.number c.args.around.begun) (rises_from 0 (answered_tests c.in-Some.answers)) (ne_eqb _ _ c.if-number-around.true)))

pub returns-then-not-rises : goal.returns-then-not-rises
returns-then-not-rises c =
    let parts = parts_left 32 (option_copied c.args.behind) in
    let known = label-known parts c.in_ok-number.field-0 (c.in-Some.number, c.in-Some.answers) c.in_ok-number.ensures c.in-Some.is in
    let l = label_line c.in-Some.number c.in-Some.answers in
    let same = c.as_slice-2.ensures ∙ c.in_ok-tests.ensures ∙ ap answered_tests c.as_slice.ensures in
    let order : rises_from 0 (answered_tests c.in-Some.answers) ≡ false = ap (rises_from 0) (sym same) ∙ sym c.rises.ensures ∙ c.if-not-rises.true in
    line-fails c.args.limits c.args.around.begun (node_here c.args.around) (label_said parts) l C1Syntax known.0
    (fault-order c.args.limits c.args.around.begun (node_here c.args.around) l known.1 (and_right (eqb c.in-Some.number c.args.around.begun) (rises_from 0 (answered_tests c.in-Some.answers)) order))

pub returns-then-not-are_below : goal.returns-then-not-are_below
returns-then-not-are_below c =
    let parts = parts_left 32 (option_copied c.args.behind) in
    let known = label-known parts c.in_ok-number.field-0 (c.in-Some.number, c.in-Some.answers) c.in_ok-number.ensures c.in-Some.is in
    let l = label_line c.in-Some.number c.in-Some.answers in
    let same = c.as_slice-2.ensures ∙ c.in_ok-tests.ensures ∙ ap answered_tests c.as_slice.ensures in
    let order : rises_from 0 (answered_tests c.in-Some.answers) ≡ true = ap (rises_from 0) (sym same) ∙ sym c.rises.ensures ∙ c.if-not-rises.false in
    let again = c.as_slice-3.ensures ∙ c.in_ok-tests.ensures ∙ ap answered_tests c.as_slice.ensures in
    let tests : list_all (λ n. nat_lt n c.args.limits.tests) (answered_tests c.in-Some.answers) ≡ false = ap (list_all (λ n. nat_lt n c.args.limits.tests)) (sym again) ∙ sym c.are_below.ensures ∙ c.if-not-are_below.true in
    line-fails c.args.limits c.args.around.begun (node_here c.args.around) (label_said parts) l C3TestNumber known.0
    (fault-test c.args.limits c.args.around.begun (node_here c.args.around) l known.1 (and_from (eqb c.in-Some.number c.args.around.begun) (rises_from 0 (answered_tests c.in-Some.answers)) (eq-eqb _ _ c.if-number-around.false) order) refl tests)

pub returns-then-around-ge-MOST_NESTING : goal.returns-then-around-ge-MOST_NESTING
returns-then-around-ge-MOST_NESTING c =
    let parts = parts_left 32 (option_copied c.args.behind) in
    let known = label-known parts c.in_ok-number.field-0 (c.in-Some.number, c.in-Some.answers) c.in_ok-number.ensures c.in-Some.is in
    let l = label_line c.in-Some.number c.in-Some.answers in
    let same = c.as_slice-2.ensures ∙ c.in_ok-tests.ensures ∙ ap answered_tests c.as_slice.ensures in
    let order : rises_from 0 (answered_tests c.in-Some.answers) ≡ true = ap (rises_from 0) (sym same) ∙ sym c.rises.ensures ∙ c.if-not-rises.false in
    let again = c.as_slice-3.ensures ∙ c.in_ok-tests.ensures ∙ ap answered_tests c.as_slice.ensures in
    let tests : list_all (λ n. nat_lt n c.args.limits.tests) (answered_tests c.in-Some.answers) ≡ true = ap (list_all (λ n. nat_lt n c.args.limits.tests)) (sym again) ∙ sym c.are_below.ensures ∙ c.if-not-are_below.false in
    line-fails c.args.limits c.args.around.begun (node_here c.args.around) (label_said parts) l C4Limit known.0
    (fault-depth c.args.limits c.args.around.begun (node_here c.args.around) l known.1 (and_from (eqb c.in-Some.number c.args.around.begun) (rises_from 0 (answered_tests c.in-Some.answers)) (eq-eqb _ _ c.if-number-around.false) order) refl tests (le-ltb c.args.around.depth MOST_NESTING c.if-around-ge-MOST_NESTING.true))

pub returns : goal.returns
returns c =
    let parts = parts_left 32 (option_copied c.args.behind) in
    let known = label-known parts c.in_ok-number.field-0 (c.in-Some.number, c.in-Some.answers) c.in_ok-number.ensures c.in-Some.is in
    let l = label_line c.in-Some.number c.in-Some.answers in
    let same = c.as_slice-2.ensures ∙ c.in_ok-tests.ensures ∙ ap answered_tests c.as_slice.ensures in
    let order : rises_from 0 (answered_tests c.in-Some.answers) ≡ true = ap (rises_from 0) (sym same) ∙ sym c.rises.ensures ∙ c.if-not-rises.false in
    let again = c.as_slice-3.ensures ∙ c.in_ok-tests.ensures ∙ ap answered_tests c.as_slice.ensures in
    let tests : list_all (λ n. nat_lt n c.args.limits.tests) (answered_tests c.in-Some.answers) ≡ true = ap (list_all (λ n. nat_lt n c.args.limits.tests)) (sym again) ∙ sym c.are_below.ensures ∙ c.if-not-are_below.false in
    (known.0, fault-none c.args.limits c.args.around.begun (node_here c.args.around) l known.1 (and_from (eqb c.in-Some.number c.args.around.begun) (rises_from 0 (answered_tests c.in-Some.answers)) (eq-eqb _ _ c.if-number-around.false) order) refl tests (lt-ltb c.args.around.depth MOST_NESTING c.if-around-ge-MOST_NESTING.false))
