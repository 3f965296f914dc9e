use Rattle.std.proofs.Common.{ap, ◌∙◌, ◌++◌, List, ℕ, Option, refl, arith}
use Rattle.std.specs.Option.{option_to_list}
use Rattle.findings.specs.declared.walk.Walk.{Walk}
use Rattle.findings.proofs.Passing.{none-left, none-popped, passed-by, passes-all, passing-more, rest-empty, taken-finding}
use Rattle.findings.proofs.walk.Walk.next.Goals as goal
use Rattle.findings.proofs.walk.Walk.next.Goals.{else-coming-test, then-coming-test+in_default}

pub is_due-requires-clause-finding : goal.is_due-requires-clause-finding
is_due-requires-clause-finding c =
    let left = c.pop.ensures.items ∙ ap (λ (o : Option (List ℕ)). c.pop.new.self.items ++ option_to_list o) c.in-Some.is in
    taken-finding c.args.strata.now.dimensions c.args.self.now c.coming.self c.coming.counter c.pop.new.self.items c.in-Some.finding c.requires.findings c.coming.invariant left

pub coming-preserved : goal.coming-preserved
coming-preserved c =
    let left = c.pop.ensures.items ∙ ap (λ (o : Option (List ℕ)). c.pop.new.self.items ++ option_to_list o) c.in-Some.is in
    passing-more c.args.strata.now.dimensions c.args.self.now c.coming.self _ c.coming.counter c.in-Some.finding c.coming.invariant left (record { looked = refl; reducible = refl; found = refl })
    (passed-by c.args.strata.now.dimensions _ c.in-Some.finding c.in_ok-is_due.field-0 c.if-branch.false c.in_ok-is_due.ensures)

pub returns-clause-next : goal.returns-clause-next
returns-clause-next c = elim c.coming-test.branch [
  | else-coming-test w ↦ (
      let none = none-left c.args.strata.now.dimensions c.args.self.now c.coming.self c.coming.counter c.coming.invariant (omega arith) in
      (passes-all c.args.strata.now.dimensions c.args.self.now c.coming.self c.coming.counter c.coming.invariant none, ap (λ (x : Walk). x.coming.items) w.self-is ∙ none))
  | then-coming-test+in_default w ↦ (
      let none = none-popped c.coming.self.coming.items w.pop.new.self.items w.pop.result w.in_default.not-Some w.pop.ensures.items (λ h. w.pop.ensures.variant.1 (omega (arith, h))) in
      let rest = rest-empty c.coming.self.coming.items w.pop.new.self.items w.pop.result w.pop.ensures.items none in
      (passes-all c.args.strata.now.dimensions c.args.self.now c.coming.self c.coming.counter c.coming.invariant none, ap (λ (x : Walk). x.coming.items) w.self-is ∙ rest))
]
