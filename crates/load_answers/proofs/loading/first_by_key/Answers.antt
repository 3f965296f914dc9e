use Rattle.std.proofs.Common.{◌≡◌, ap, subst}
use Rattle.std.specs.Prelude.{IfOk}
use Rattle.policy_load.specs.Loads.{first_load}
use Rattle.policy_model.specs.declared.set.PolicySet.{PolicySet}
use Rattle.load_answers.specs.Loaded.{IsLineFor, SummarisesFirst}
use Rattle.load_answers.proofs.loading.first_by_key.Goals as goal

pub returns : goal.returns
returns c =
    let first : c.in_ok-first.first ≡ first_load c.args.keys = ap (λ (p : PolicySet × PolicySet). p.0) c.in_ok-first.ensures.value in
    subst (λ (s : PolicySet). IfOk c.summary_line.result (IsLineFor (SummarisesFirst c.args.named.now s))) first c.summary_line.ensures
