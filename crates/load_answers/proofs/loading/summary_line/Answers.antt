use Rattle.std.proofs.Common.{◌∙◌, Ok, ap}
use Rattle.std.proofs.lemmas.Result.{IfOk-weaker}
use Rattle.run_inputs.proofs.FileLaws.{printed_so}
use Rattle.load_answers.specs.Loaded.{line_of}
use Rattle.load_answers.proofs.loading.summary_line.Goals as goal

pub returns : goal.returns
returns c =
    IfOk-weaker c.line_of.result _ _
    (λ s h. record {
      printed = c.in_ok-printed.printed;
      said = printed_so c.first_summary.result (Ok c.in_ok-printed.printed) _ c.in_ok-printed.ensures c.first_summary.ensures;
      is = h ∙ ap line_of c.as_str.ensures.value;
    }) c.line_of.ensures
