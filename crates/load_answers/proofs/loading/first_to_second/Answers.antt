use Rattle.std.proofs.Common.{◌≡◌, ap, subst}
use Rattle.std.specs.Prelude.{IfOk}
use Rattle.policy_load.specs.Loads.{first_load, second_load}
use Rattle.policy_model.specs.declared.set.PolicySet.{PolicySet}
use Rattle.load_answers.specs.Loaded.{ComparesSets, IsLineFor}
use Rattle.load_answers.proofs.loading.first_to_second.Goals as goal

pub returns : goal.returns
returns c =
    let named = c.args.named.now in
    let first : c.in_ok-first.first ≡ first_load c.args.keys = ap (λ (p : PolicySet × PolicySet). p.0) c.in_ok-first.ensures.value in
    let second : c.in_ok-first.second ≡ second_load = ap (λ (p : PolicySet × PolicySet). p.1) c.in_ok-first.ensures.value in
    subst (λ (s : PolicySet). IfOk c.comparison_line.result (IsLineFor (ComparesSets named s second_load))) first
    (subst (λ (t : PolicySet). IfOk c.comparison_line.result (IsLineFor (ComparesSets named c.in_ok-first.first t))) second c.comparison_line.ensures)
