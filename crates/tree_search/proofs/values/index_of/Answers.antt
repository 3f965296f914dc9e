use Rattle.std.proofs.Common.{◌≡◌, ◌<◌, length, rules}
use Rattle.tree_search.proofs.Carrying.{held}
use Rattle.tree_search.proofs.values.index_of.Goals as goal

pub returns-then-eq : goal.returns-then-eq
returns-then-eq c =
    let on : c.index-as_slice-i.result.0 ≡ c.args.slot.now = search rules in
    let within : c.slots.i < length c.args.values.now = search rules in
    held c.args.values.now c.slots.i c.args.slot.now c.index-as_slice-i.result within (rw c.as_slice.ensures at c.index-as_slice-i.is) on
