use Rattle.formula_tree.proofs.Running.{bounded, start_fits}
use Rattle.formula_tree.proofs.runs.runs_are_bounded.Goals as goal

pub returns : goal.returns
returns g c =
    let possible = g.P.Possible.possible c.args.possible.now in
    record {
      from_path = λ tree t path end n below run. bounded possible tree t below path end n run;
      from_start = λ tree t end n below run. start_fits possible tree t below end n run;
    }
