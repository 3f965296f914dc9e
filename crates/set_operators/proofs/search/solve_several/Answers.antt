use Rattle.std.proofs.Common.{◌+◌, subst, sym}
use Rattle.set_operators.specs.Steps.{AreMembersUpTo}
use Rattle.set_operators.proofs.Answering.{ended-by, none-required, not-both, several-found, upto-end, went-on}
use Rattle.set_operators.proofs.Membership.{members-none}
use Rattle.set_operators.proofs.search.solve_several.Goals as goal

pub loop-i-init : goal.loop-i-init
loop-i-init c = subst (AreMembersUpTo c.args.rule.now c.args.asks.now 0) (sym c.new-values.ensures) (members-none c.args.rule.now c.args.asks.now)

pub loop-i-preserved : goal.loop-i-preserved
loop-i-preserved c = went-on c.args.rule.now c.args.asks.now (c.loop-i.i + 1) c.args.states c.next_member.new.values c.in_ok-next_member.field-0 c.in-None.is c.in_ok-next_member.ensures

pub returns-in-Some : goal.returns-in-Some
returns-in-Some c = ended-by c.args.rule.now c.args.asks.now (c.loop-i.i + 1) c.args.states c.next_member.new.values c.in_ok-next_member.field-0 c.in-Some.answer c.in-Some.is c.in_ok-next_member.ensures

pub solve_required-requires-clause-required : goal.solve_required-requires-clause-required
solve_required-requires-clause-required c =
    none-required c.args.rule.now c.args.asks.now c.loop-i.i c.loop-i.values c.loop-i-test.false c.loop-i.auto.i-end c.loop-i.invariant (c.is_empty.ensures.0 c.if-is_empty.true) c.requires.needs

pub solve_required-requires-clause-none : goal.solve_required-requires-clause-none
solve_required-requires-clause-none c =
    upto-end c.args.rule.now c.args.asks.now c.loop-i.i c.loop-i.values c.loop-i-test.false c.loop-i.auto.i-end c.loop-i.invariant (c.is_empty.ensures.0 c.if-is_empty.true)

pub returns-then-is_empty : goal.returns-then-is_empty
returns-then-is_empty c = c.solve_required.ensures

pub returns : goal.returns
returns c =
    several-found c.args.rule.now c.args.asks.now c.args.states c.loop-i.i c.loop-i.values c.requires.several c.loop-i-test.false c.loop-i.auto.i-end c.loop-i.invariant
    (λ e. not-both c.is_empty.result c.if-is_empty.false (c.is_empty.ensures.1 e))
