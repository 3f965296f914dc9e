use Rattle.std.proofs.Common.{◌≢◌, []}
use Rattle.std.specs.Cmp.Lexicographic.{slice_cmp}
use Rattle.std.specs.Ordering.{nat_cmp}
use Rattle.std.proofs.lemmas.Map.Views.{All-keys-insert_entry, All-values-insert_entry}
use Rattle.policy_model.specs.Keys.{AllHaveValues, AreFolded, IsFolded}
use Rattle.policy_model.proofs.Entries.{inserted}
use Rattle.policy_model.proofs.context.Context.insert.Goals as goal

pub invariant_of-self : goal.invariant_of-self
invariant_of-self c =
    let old = c.self.inside.entries in
    let cmp = slice_cmp nat_cmp in
    inserted (λ entries. AreFolded entries × AllHaveValues entries) c.insert.result old c.insert.new.self _ c.self.invariant (
      All-keys-insert_entry cmp c.args.key c.args.values IsFolded old c.self.invariant.0 c.requires.folded,
      All-values-insert_entry cmp c.args.key c.args.values (λ values. values ≢ []) old c.self.invariant.1 c.requires.nonempty,
    )
    c.insert.ensures.ok c.insert.ensures.err
