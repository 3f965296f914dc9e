use Rattle.std.proofs.Common.{rules, ◌≡◌, ◌↔◌, ◌∙◌, IsTrue, All, sym, subst}
use Rattle.formula_tree.specs.Answers.{Answers}
use Rattle.refute_check.specs.Closing.{Rise}
use Rattle.refute_check.specs.Labels.{IsAnswered}
use Rattle.refute_check.proofs.Labelling.{may-begin}
use Rattle.refute_check.proofs.labels.Labels.may_begin.Goals as goal

pub returns-then-rise : goal.returns-then-rise
returns-then-rise c =
    let different = c.if-number-len.false in
    let count = c.len.ensures in
    let view = c.self.view_is in
    let next : c.args.number ≡ c.args.self.now.begun = cc in
    let rise = subst (λ (l : Answers). Rise l) c.as_slice-answers.ensures (sym c.rise.ensures ∙ c.if-rise.true) in
    let says = subst (λ (l : Answers). IsTrue c.are_answered.result ↔ All (IsAnswered c.args.path.now) l) c.as_slice-answers.ensures c.are_answered.ensures in
    may-begin c.args.self.now c.args.number c.args.answers.now c.args.path.now c.are_answered.result next rise says

pub returns-then-number-len : goal.returns-then-number-len
returns-then-number-len c = search rules
