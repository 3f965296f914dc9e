use Rattle.std.proofs.Common.{◌+◌, ◌*◌}
use Rattle.tree_search.proofs.search.Search.+search.Given as goal

abbrev pub decreases-search : goal.decreases-search
decreases-search l = 7 * l.state.now.left

abbrev pub decreases-side : goal.decreases-side
decreases-side l = 7 * l.state.now.left + 6

abbrev pub decreases-enter : goal.decreases-enter
decreases-enter l = 7 * l.state.now.left + 5

abbrev pub decreases-go_in : goal.decreases-go_in
decreases-go_in l = 7 * l.state.now.left + 4

abbrev pub decreases-settle : goal.decreases-settle
decreases-settle l = 7 * l.state.now.left + 3

abbrev pub decreases-renew : goal.decreases-renew
decreases-renew l = 7 * l.state.now.left + 2

abbrev pub decreases-go_on : goal.decreases-go_on
decreases-go_on l = 7 * l.state.now.left + 1
