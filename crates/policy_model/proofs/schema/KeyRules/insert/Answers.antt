use Rattle.std.specs.Cmp.Lexicographic.{slice_cmp}
use Rattle.std.specs.Ordering.{nat_cmp}
use Rattle.std.proofs.lemmas.Map.Views.{All-keys-insert_entry}
use Rattle.policy_model.specs.Keys.{AreFolded, IsFolded}
use Rattle.policy_model.proofs.Entries.{inserted}
use Rattle.policy_model.proofs.schema.KeyRules.insert.Goals as goal

pub invariant_of-self : goal.invariant_of-self
invariant_of-self c =
    let old = c.self.inside.entries in
    inserted AreFolded c.insert.result old c.insert.new.self _ c.self.invariant
    (All-keys-insert_entry (slice_cmp nat_cmp) c.args.key c.args.rule IsFolded old c.self.invariant c.requires)
    c.insert.ensures.ok c.insert.ensures.err
