use Rattle.std.proofs.Common.{◌≡◌, ◌∙◌, Some, sym}
use Rattle.std.proofs.lemmas.Result.{IfOk-weaker}
use Rattle.strata.specs.Predicates.{test_of}
use Rattle.summary_search.proofs.Within.{met-by-test}
use Rattle.summary_search.proofs.inclusion.ByProductsInclusion.met.Goals as goal

pub returns-in-Some-clause-answer : goal.returns-in-Some-clause-answer
returns-in-Some-clause-answer c =
    let by = c.args.self.now in
    let e : test_of c.args.slot.now c.args.one.now ≡ Some c.in-Some.test = sym c.in_ok-test.ensures ∙ c.in-Some.is in
    IfOk-weaker c.ask_passed.result _ _ (λ w v. met-by-test by.schema.now by.states c.args.slot.now c.args.one.now c.in-Some.test e w v) c.ask_passed.ensures
