use Rattle.policy_compile.specs.Plans.{of_plans, one_of}
use Rattle.policy_compile.specs.declared.nodes.Node.TheVariants as node
use Rattle.policy_compile.proofs.Steps.{child-within, none-built, not-built, one_of-built, some-built}
use Rattle.policy_compile.proofs.elements.some_or_none.Goals as goal

pub returns-then-not-not : goal.returns-then-not-not
returns-then-not-not c = λ old ps added.
    some-built old c.insert.new.self ps c.args.not c.in_ok-some.some c.if-not-not.true
    (one_of-built old c.args.builder.now c.insert.new.self ps c.args.indices c.in_ok-some.some added c.in_ok-some.ensures)

pub insert-requires-2 : goal.insert-requires-2
insert-requires-2 c = child-within c.args.builder.now c.insert.new.self (node.OneOf c.args.indices) c.in_ok-some.some c.in_ok-some.ensures

pub returns : goal.returns
returns c = λ old ps added.
    none-built old c.insert-2.new.self ps c.args.not c.in_ok-none.none c.if-not-not.false
    (not-built old c.insert.new.self c.insert-2.new.self (one_of (of_plans ps)) c.in_ok-some.some c.in_ok-none.none
    (one_of-built old c.args.builder.now c.insert.new.self ps c.args.indices c.in_ok-some.some added c.in_ok-some.ensures) c.in_ok-none.ensures)
