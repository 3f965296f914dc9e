use Rattle.std.proofs.Common.{◌≡◌, ◌∙◌, None, Some, rules, sym, subst}
use Rattle.formula_tree.specs.Answers.{answer_of}
use Rattle.tree_values.specs.Models.{Answered, IsSet}
use Rattle.tree_values.proofs.Leaving.{kept-back, none-some, out-back}
use Rattle.tree_values.proofs.tree_values.TreeValues.try_without.Goals as goal

pub returns-then-not-is_no_on-clause-out : goal.returns-then-not-is_no_on-clause-out
returns-then-not-is_no_on-clause-out c =
    let there = sym c.answer.ensures ∙ c.in-Some.is in
    let free : answer_of c.args.needed.now c.args.tried ≡ None = search rules in
    let back = subst (λ (a : Answered). IsSet a c.set-then-not-is_no_on.new.self c.args.tried (Some c.in-Some.answer)) c.is_no_on.ensures.same c.set-then-not-is_no_on.ensures in
    out-back c.args.self.now c.set.new.self c.args.needed.now c.args.test c.args.sides c.args.tried c.in-Some.answer there (λ b e. none-some b (sym free ∙ e)) c.set.ensures c.set-then-not-is_no_on.new.self back c.requires.no

pub returns-then-not-is_no_on-clause-tried : goal.returns-then-not-is_no_on-clause-tried
returns-then-not-is_no_on-clause-tried c =
    let there = sym c.answer.ensures ∙ c.in-Some.is in
    let free : answer_of c.args.needed.now c.args.tried ≡ None = search rules in
    let back = subst (λ (a : Answered). IsSet a c.set-then-not-is_no_on.new.self c.args.tried (Some c.in-Some.answer)) c.is_no_on.ensures.same c.set-then-not-is_no_on.ensures in
    kept-back c.args.self.now c.set.new.self c.args.needed.now c.args.test c.args.sides c.args.tried c.in-Some.answer there (λ b e. none-some b (sym free ∙ e)) c.set.ensures c.set-then-not-is_no_on.new.self back
    (λ given. let bad = c.if-not-is_no_on.ensures.no.1 given in cc)

pub returns-then-is_some-clause-tried : goal.returns-then-is_some-clause-tried
returns-then-is_some-clause-tried c = search rules

pub returns-else-not-is_no_on-clause-out : goal.returns-else-not-is_no_on-clause-out
returns-else-not-is_no_on-clause-out c = search rules
