use Rattle.std.proofs.Common.{◌∙◌, sym}
use Rattle.tree_values.specs.Leaving.{still_answered}
use Rattle.tree_values.specs.Models.{answer_at, answered_tree}
use Rattle.tree_values.proofs.Giving.{given-back}
use Rattle.tree_values.proofs.Leaving.{cut-ok, is-cut}
use Rattle.tree_values.proofs.Staying.{given-from}
use Rattle.tree_values.proofs.tree_values.TreeValues.cut.Goals as goal

pub leave_out-requires-clause-test : goal.leave_out-requires-clause-test
leave_out-requires-clause-test c = (c.requires.answered c.args.test ∙ c.requires.test.0, c.requires.test.1)

pub leave_out-requires-clause-no : goal.leave_out-requires-clause-no
leave_out-requires-clause-no c =
    given-from (answered_tree c.args.self.now) (answer_at c.args.self.now.answers) c.args.path.now c.args.test c.args.sides c.requires.answered c.requires.test.0 c.requires.no

pub returns-clause-cut : goal.returns-clause-cut
returns-clause-cut c =
    let left = still_answered c.leave_out.new.self.answers c.args.path.now in
    cut-ok c.answers_left-answers.result (answered_tree c.args.self.now) c.args.path.now c.args.needed.now c.args.test c.args.sides left
    (is-cut c.args.self.now c.leave_out.new.self c.args.path.now c.args.needed.now c.args.test c.args.sides (λ n b is. sym (c.requires.answered n) ∙ is) (λ n b is. c.requires.answered n ∙ c.requires.there n b is)
    c.requires.test.0 c.leave_out.ensures.out c.leave_out.ensures.tried)
    c.answers_left-answers.ensures

pub returns-clause-restored : goal.returns-clause-restored
returns-clause-restored c =
    given-back c.args.self.now c.leave_out.new.self c.give.new.self c.args.path.now c.args.needed.now c.args.test c.args.sides c.requires.answered c.leave_out.ensures.out c.give.ensures.given c.give.ensures.each
