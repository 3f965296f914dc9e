use Rattle.std.proofs.Common.{length}
use Rattle.tree_values.specs.Models.{answered_tree}
use Rattle.search_parts.specs.declared.learning.TheConstants.{MOST_LEARNED}
use Rattle.search_parts.proofs.Halving.{bare-result, no-room}
use Rattle.search_parts.proofs.joining.join.Goals as goal

pub returns-clause-joined : goal.returns-clause-joined
returns-clause-joined c =
    bare-result c.args.path.now c.args.halves c.args.learned.now.lists (answered_tree c.args.values.now) c.bare.result
    (no-room c.has_room.result (length c.args.learned.now.lists) MOST_LEARNED c.if-has_room.false c.has_room.ensures) c.bare.ensures
