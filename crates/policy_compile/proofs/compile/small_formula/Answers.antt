use Rattle.std.proofs.Common.{◌≤◌, List, subst}
use Rattle.std.specs.Prelude.{sum_by}
use Rattle.policy_model.specs.declared.test.Test.{Test}
use Rattle.policy_compile.specs.declared.compile.TheConstants.{MOST_PIECES}
use Rattle.policy_compile.specs.Queries.{test_pieces}
use Rattle.policy_compile.proofs.Finishing.{formula-at}
use Rattle.policy_compile.proofs.compile.small_formula.Goals as goal

pub returns : goal.returns
returns c = (
  subst (λ (ts : List Test). sum_by test_pieces ts ≤ MOST_PIECES) c.as_slice.ensures.keys (c.are_small.ensures.0 c.if-not-are_small.false),
  formula-at c.args.builder.now c.args.index c.in_ok-formulas.formulas.items c.index.result.now c.in_ok-formula.formula c.as_slice-2.result.now c.as_slice-2.ensures.keys c.in_ok-formulas.ensures.trees c.in_ok-formulas.ensures.count c.requires
      c.index.ensures c.in_ok-formula.ensures.cases,
)
