use Rattle.std.proofs.Common.{◌≡◌, ◌++◌, flat_map, take}
use Rattle.set_operators.proofs.numbered.push_items.Given as goal

abbrev pub invariant-loop-cond : goal.invariant-loop-cond
invariant-loop-cond g l = l.items ≡ l.initial.items ++ flat_map g.T.Item.items_of (take l.cond-index l.conds)
