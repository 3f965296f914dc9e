use Rattle.std.proofs.Common.{◌≡◌, ◌∙◌, Some, sym, subst}
use Rattle.strata.specs.declared.inclusion.Within.{Within}
use Rattle.strata.specs.Asking.{AnswersWithin}
use Rattle.strata.specs.Predicates.{test_of}
use Rattle.summary_search.proofs.Answering.{if-test, is-test}
use Rattle.summary_search.proofs.Within.{below-by-test, below-led}
use Rattle.summary_search.proofs.inclusion.ByProductsInclusion.within.Goals as goal

pub escapes-requires-clause-one_suits : goal.escapes-requires-clause-one_suits
escapes-requires-clause-one_suits c = if-test c.args.self.now.schema.now c.args.slot.now c.args.one.now c.in_ok-first.first c.requires.one c.in_ok-first.ensures

pub escapes-requires-clause-other_suits : goal.escapes-requires-clause-other_suits
escapes-requires-clause-other_suits c =
    let e : test_of c.args.slot.now c.args.other.now ≡ Some c.in-Some.test = sym c.in_ok-test.ensures ∙ c.in-Some.is in
    is-test c.args.self.now.schema.now c.args.slot.now c.args.other.now c.in-Some.test c.requires.other e

pub returns-clause-answer : goal.returns-clause-answer
returns-clause-answer c =
    let by = c.args.self.now in
    let s = c.args.slot.now in
    let e : test_of s c.args.other.now ≡ Some c.in-Some.test = sym c.in_ok-test.ensures ∙ c.in-Some.is in
    subst (λ (w : Within). AnswersWithin by.schema.now by.states s c.args.one.now c.args.other.now w) (sym c.opposite_answer.ensures)
    (below-by-test by.schema.now by.states s c.args.one.now c.args.other.now c.in-Some.test c.requires.one e c.in_ok-first.first c.in_ok-first.ensures c.in_ok-escaped.escaped c.in_ok-escaped.ensures)

pub returns-then-is_led_to-clause-answer : goal.returns-then-is_led_to-clause-answer
returns-then-is_led_to-clause-answer c =
    let by = c.args.self.now in
    let e : test_of c.args.slot.now c.args.other.now ≡ Some c.in-Some.test = sym c.in_ok-test.ensures ∙ c.in-Some.is in
    below-led by.schema.now by.states c.args.slot.now c.args.one.now c.args.other.now c.in-Some.test e c.in_ok-first.first c.in_ok-first.ensures (c.is_led_to.ensures (cc))
