use Rattle.std.proofs.Common.{rules, subst, sym}
use Rattle.std.specs.Prelude.{List}
use Rattle.formula_tree.specs.Answers.{Answers, IsDistinct}
use Rattle.nogoods.specs.Tracking.{IsTracking}
use Rattle.nogoods.proofs.Learning.{tracking-learned}
use Rattle.nogoods.proofs.tracking.Tracking.learn.Goals as goal

pub invariant_of-self-2 : goal.invariant_of-self-2
invariant_of-self-2 c =
    let now = c.self.inside in
    let own : IsDistinct c.args.answers = search rules in
    subst (λ (ls : List Answers). IsTracking ls now.path c.watch_newest.new.watching.items c.mark.new.hits.items) (sym c.in_ok-push.ensures.ok)
    (tracking-learned now.lists c.args.answers now.path c.shortest-count.result c.len-number.result now.watching.items c.watch_newest.new.watching.items now.hits.items c.mark.new.hits.items
    c.shortest-count.ensures.distinct own c.len-number.ensures c.shortest-count.ensures c.watch_newest.ensures.kept c.in_ok-watch_newest.ensures.ok c.mark.ensures c.self.invariant)
