use Rattle.std.proofs.Common.{arith}
use Rattle.findings.proofs.Texts.{finding-no_float}
use Rattle.findings.proofs.text.finding_text.Goals as goal

pub returns : goal.returns
returns c = grind (arith, c.to_string.ensures.text, c.in_ok-finding_json.ensures, finding-no_float c.args.strata.now.dimensions c.args.finding.now)
