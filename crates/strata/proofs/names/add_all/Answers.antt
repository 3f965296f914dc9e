use Rattle.std.proofs.Common.{rules, sym, subst}
use Rattle.policy_model.specs.declared.test.Test.{Test}
use Rattle.strata.specs.Predicates.{Gathers, gathers_none, test_predicates}
use Rattle.strata.proofs.names.add_all.Goals as goal

pub returns-in-Present : goal.returns-in-Present
returns-in-Present c = subst (λ (t : Test). Gathers c.args.names.now.keys (test_predicates t) c.args.names.now.keys) (sym c.in-Present.is) gathers_none

pub returns-in-SomeMeetsNone : goal.returns-in-SomeMeetsNone
returns-in-SomeMeetsNone c = search rules
