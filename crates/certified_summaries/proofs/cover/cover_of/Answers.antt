use Rattle.std.proofs.Common.{ℕ, List, subst}
use Rattle.run_inputs.specs.declared.printed.Printed.{Printed}
use Rattle.run_inputs.specs.declared.status.Status.TheVariants.{Refused}
use Rattle.run_inputs.specs.Printing.{PrintsText}
use Rattle.run_inputs.proofs.FileLaws.{if_answered_weaker}
use Rattle.findings.specs.CoverQueries.{CoverHasTooMany}
use Rattle.findings.specs.Summaries.{findings_of}
use Rattle.certified_summaries.specs.CoverProofs.{IsLargePrinted}
use Rattle.certified_summaries.specs.CoverTexts.{cover_tests_line}
use Rattle.certified_summaries.proofs.cover.cover_of.Goals as goal

pub returns-in-Err-TooManyTests : goal.returns-in-Err-TooManyTests
returns-in-Err-TooManyTests c =
    let base = c.args.base.now in
    let strata = c.args.strata.now in
    let fs = findings_of c.args.summary.now in
    let told = (rw c.in-Err-TooManyTests.field-0-is at c.in-Err-TooManyTests.ensures) in
    let large : CoverHasTooMany base strata.dimensions fs = subst (λ (gs : List (List ℕ)). CoverHasTooMany base strata.dimensions gs) c.in_ok-findings.ensures told in
    let says : (p : Printed) → PrintsText cover_tests_line Refused p → IsLargePrinted base strata fs p = λ p v. record { large = large; prints = v } in
    if_answered_weaker c.ended.result (PrintsText cover_tests_line Refused) (IsLargePrinted base strata fs) says (c.ended.ensures _ c.cover_tests_line.ensures)
