use Rattle.std.proofs.lemmas.Result.{IfOk-weaker}
use Rattle.tree_search.proofs.search.Search.is_needless.Goals as goal

pub returns : goal.returns
returns c =
    IfOk-weaker c.is_needless.result _ _
    (λ r h. h c.args.self.now.schema.now c.requires.side.needs c.requires.side.closes c.requires.may)
    c.is_needless.ensures
