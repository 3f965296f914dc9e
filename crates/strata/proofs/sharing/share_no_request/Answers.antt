use Rattle.strata.proofs.Disjoint.{actions-share-none, entries-share-none, resources-share-none}
use Rattle.strata.proofs.sharing.share_no_request.Goals as goal

pub returns-in-Principal-Principal-Principal : goal.returns-in-Principal-Principal-Principal
returns-in-Principal-Principal-Principal c h =
    let on = c.in-Principal-Principal-Principal in
    entries-share-none c.args.slot.now c.args.one.now c.args.other.now on.first on.second on.is-0 on.is-1 on.is-2 (c.are_entries_apart.ensures h)

pub returns-in-Action-Word-Word : goal.returns-in-Action-Word-Word
returns-in-Action-Word-Word c h =
    let on = c.in-Action-Word-Word in
    actions-share-none c.args.slot.now c.args.one.now c.args.other.now on.first on.second on.is-0 on.is-1 on.is-2 (c.clashes.ensures.0 h)

pub returns-in-Resource-Word-Word : goal.returns-in-Resource-Word-Word
returns-in-Resource-Word-Word c h =
    let on = c.in-Resource-Word-Word in
    resources-share-none c.args.slot.now c.args.one.now c.args.other.now on.first on.second on.is-0 on.is-1 on.is-2 (c.clashes-in-Resource-Word-Word.ensures.0 h)
