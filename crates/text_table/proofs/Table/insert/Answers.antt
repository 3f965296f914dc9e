use Rattle.std.proofs.lemmas.Map.Views.{All-keys-insert_entry}
use Rattle.std.specs.Cmp.Lexicographic.{slice_cmp}
use Rattle.std.specs.Ordering.{nat_cmp}
use Rattle.wildcard_lang.specs.Text.{IsText}
use Rattle.text_table.proofs.Table.insert.Goals as goal

pub invariant_of-self-2 : goal.invariant_of-self-2
invariant_of-self-2 g c =
    let old = c.self.inside.entries.entries in
    rw c.in_ok-insert.ensures.entries (All-keys-insert_entry (slice_cmp nat_cmp) c.args.key c.args.item IsText old c.self.invariant c.len.ensures.text)
