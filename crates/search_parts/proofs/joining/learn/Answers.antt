use Rattle.std.proofs.Common.{◌≡◌, ◌++◌, ◌∷◌, [], true, false, sym, subst}
use Rattle.formula_tree.specs.Answers.{Answers, Contained}
use Rattle.formula_tree.specs.Runs.{path_with}
use Rattle.tree_values.specs.Models.{answered_tree}
use Rattle.search_parts.proofs.Halving.{known-needs, learn-joined, learned-few}
use Rattle.search_parts.proofs.joining.learn.Goals as goal

pub least_answers-requires-clause-yes_needs : goal.least_answers-requires-clause-yes_needs
least_answers-requires-clause-yes_needs c =
    known-needs (answered_tree c.args.values.now) c.args.learned.now.lists (path_with c.args.path.now c.args.halves.test true) c.args.halves.yes.needs c.requires.room c.requires.ready.yes_needs

pub least_answers-requires-clause-no_needs : goal.least_answers-requires-clause-no_needs
least_answers-requires-clause-no_needs c =
    known-needs (answered_tree c.args.values.now) c.args.learned.now.lists (path_with c.args.path.now c.args.halves.test false) c.args.halves.no.needs c.requires.room c.requires.ready.no_needs

pub learn-requires : goal.learn-requires
learn-requires c =
    subst (λ (q : Answers). Contained c.in_ok-kept.kept q) (sym c.requires.ready.follows)
    (subst (λ (a : Answers). Contained a c.args.path.now) (sym c.in_ok-kept.ensures) c.in_ok-answers.ensures.least.there)

pub returns-clause-joined : goal.returns-clause-joined
returns-clause-joined c =
    let learned = subst (λ (a : Answers). c.learn.new.self.lists ≡ c.args.learned.now.lists ++ a ∷ []) c.in_ok-kept.ensures c.in_ok-learn.ensures.ok in
    learn-joined c.args.path.now c.args.halves c.args.learned.now.lists (answered_tree c.args.values.now) c.in_ok-part.part c.len-number.result c.learn.new.self.lists c.in_ok-answers.answers
    c.len-number.ensures learned c.in_ok-answers.ensures.least c.in_ok-answers.ensures.rise c.in_ok-part.ensures

pub returns-clause-few : goal.returns-clause-few
returns-clause-few c = learned-few c.args.learned.now.lists c.learn.new.self.lists c.in_ok-kept.kept c.requires.room c.in_ok-learn.ensures.ok
