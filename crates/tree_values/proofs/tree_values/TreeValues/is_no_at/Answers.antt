use Rattle.std.proofs.Common.{◌≡◌, ◌↔◌, subst}
use Rattle.std.specs.Prelude.{IsTrue}
use Rattle.formula_tree.specs.declared.looks.Look.{Look}
use Rattle.formula_tree.specs.declared.looks.Look.TheVariants.{No}
use Rattle.tree_values.proofs.Leaving.{seen-with, set-back}
use Rattle.tree_values.proofs.tree_values.TreeValues.is_no_at.Goals as goal

pub returns-clause-no : goal.returns-clause-no
returns-clause-no c =
    subst (λ (s : Look). IsTrue c.is_no-no.result ↔ (s ≡ No)) (seen-with c.args.self.now c.set.new.self c.args.test c.args.answer c.seen.result c.set.ensures c.seen.ensures) c.is_no-no.ensures

pub returns-clause-same : goal.returns-clause-same
returns-clause-same c = set-back c.args.self.now c.set.new.self c.set-2.new.self c.args.test c.args.answer c.requires.0 c.set.ensures c.set-2.ensures
