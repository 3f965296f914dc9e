use Rattle.std.proofs.Common.{sym, ◌∙◌}
use Rattle.tree_values.specs.Models.{answered_tree}
use Rattle.search_parts.proofs.Choosing.{least-needs, least-result, needed-inside, sides-no}
use Rattle.search_parts.proofs.least.least_answers.Goals as goal

pub cut_down-requires-clause-there : goal.cut_down-requires-clause-there
cut_down-requires-clause-there c =
    needed-inside (answered_tree c.args.values.now) c.args.path.now c.args.test c.args.yes.now c.args.no.now c.requires.free c.requires.yes_needs c.requires.no_needs c.in_ok-needed.needed c.in_ok-needed.ensures.chosen
    (record { yes = c.is_open.result; no = c.is_open-2.result }) c.is_open.ensures c.is_open-2.ensures

pub cut_down-requires-clause-no : goal.cut_down-requires-clause-no
cut_down-requires-clause-no c =
    sides-no (answered_tree c.args.values.now) c.args.path.now c.args.test c.args.yes.now c.args.no.now c.requires.free c.requires.yes_needs c.requires.no_needs c.in_ok-needed.needed c.in_ok-needed.ensures.chosen
    (record { yes = c.is_open.result; no = c.is_open-2.result }) c.is_open.ensures c.is_open-2.ensures

pub returns-then-is_any-clause-least : goal.returns-then-is_any-clause-least
returns-then-is_any-clause-least c =
    least-result (answered_tree c.args.values.now) c.args.path.now c.args.test c.args.yes.now c.args.no.now c.requires.free c.requires.yes_needs c.requires.no_needs c.in_ok-needed.needed c.in_ok-needed.ensures.chosen
    (record { yes = c.is_open.result; no = c.is_open-2.result }) c.is_open.ensures c.is_open-2.ensures c.cut_down.result c.cut_down.ensures.cut

pub returns-clause-least : goal.returns-clause-least
returns-clause-least c =
    least-needs (answered_tree c.args.values.now) c.args.path.now c.args.test c.args.yes.now c.args.no.now c.requires.free c.requires.yes_needs c.requires.no_needs c.in_ok-needed.needed c.in_ok-needed.ensures.chosen
    (record { yes = c.is_open.result; no = c.is_open-2.result }) c.is_open.ensures c.is_open-2.ensures (sym c.is_any.ensures ∙ c.if-is_any.false)
