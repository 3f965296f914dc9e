use Rattle.std.proofs.Common.{string_bytes}
use Rattle.summary_answers.specs.FindingTexts.{found_lines}
use Rattle.summary_answers.proofs.Growing.{printed-more}
use Rattle.summary_answers.proofs.text.put_each.Goals as goal

pub found-preserved : goal.found-preserved
found-preserved c =
    printed-more (found_lines c.args.strata.now.dimensions) c.args.summary.now c.found.found-index c.found-item.result (string_bytes c.args.text.now) (string_bytes c.found.text) (string_bytes c.put_found.new.text) c.found-test.true c.found-item.is c.found.invariant c.in_ok-put_found.ensures
