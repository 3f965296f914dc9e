use Rattle.std.proofs.Common.{◌∙◌, List, sym, subst, ap}
use Rattle.std.specs.Prelude.{slice_get}
use Rattle.formula_tree.specs.Answers.{Answers}
use Rattle.nogoods.specs.Hits.{IsFirstHit, NoHit}
use Rattle.nogoods.proofs.Zipping.{no-hit-in, first-hit-in, pair-at, contained-at}
use Rattle.nogoods.proofs.store.Store.hit.Goals as goal

pub returns-in-None-clause-none : goal.returns-in-None-clause-none
returns-in-None-clause-none g c =
    no-hit-in c.self.inside.lists c.self.inside.values.items c.args.self.now c.args.path.now c.self.invariant.0 c.self.view_is
    (subst (λ (xs : List Answers). NoHit xs c.args.path.now) c.as_slice-lists.ensures c.in-None.ensures)

pub returns-in-Some-clause-first : goal.returns-in-Some-clause-first
returns-in-Some-clause-first g c =
    let lists = c.self.inside.lists in
    let first = subst (λ (xs : List Answers). IsFirstHit xs c.args.path.now c.in-Some.index) c.as_slice-lists.ensures c.in-Some.ensures in
    let at = rw c.as_slice-lists.ensures at c.index-lists-index.is in
    let pair = pair-at lists c.self.inside.values.items c.in-Some.index c.index-lists-index.result c.index.result.now c.self.invariant.0 first.there at c.index.ensures in
    (c.in-Some.index, first-hit-in lists c.self.inside.values.items c.args.self.now c.args.path.now c.in-Some.index c.self.invariant.0 c.self.view_is first, ap (λ s. slice_get s c.in-Some.index) (sym c.self.view_is) ∙ pair)

pub returns-in-Some-clause-closes : goal.returns-in-Some-clause-closes
returns-in-Some-clause-closes g c =
    let lists = c.self.inside.lists in
    let first = subst (λ (xs : List Answers). IsFirstHit xs c.args.path.now c.in-Some.index) c.as_slice-lists.ensures c.in-Some.ensures in
    let at = rw c.as_slice-lists.ensures at c.index-lists-index.is in
    let pair = pair-at lists c.self.inside.values.items c.in-Some.index c.index-lists-index.result c.index.result.now c.self.invariant.0 first.there at c.index.ensures in
    let contained = contained-at lists c.args.path.now c.in-Some.index c.index-lists-index.result first at in
    g.met.T.Closes.still_closes c.index.result.now.value c.index-lists-index.result c.args.path.now contained (c.self.invariant.1 c.in-Some.index c.index-lists-index.result c.index.result.now.value pair)
