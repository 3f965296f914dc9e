use Rattle.std.proofs.Common.{true, false, true≢false}
use Rattle.std.proofs.lemmas.Result.{IfOk-weaker}
use Rattle.cnf_clauses.specs.Propagates.{Steps}
use Rattle.cnf_clauses.specs.Reasons.{Derives}
use Rattle.cnf_clauses.proofs.Reasons.{derives-is, derives-on}
use Rattle.cnf_clauses.proofs.Settling.{steps-is, steps-on}
use Rattle.cnf_clauses.proofs.propagation.settle_all.Goals as goal

pub returns-then-branch-clause-steps : goal.returns-then-branch-clause-steps
returns-then-branch-clause-steps c =
    steps-is c.args.clauses.now c.args.hints.now c.settle_short.new.hints c.args.decided.now c.settle_short.new.decided _ true c.in_ok-settle_short.ensures.steps c.if-branch.true

pub returns-then-branch-clause-hints : goal.returns-then-branch-clause-hints
returns-then-branch-clause-hints c =
    derives-is c.args.clauses.now c.args.hints.now c.settle_short.new.hints c.args.decided.now c.settle_short.new.decided _ true c.in_ok-settle_short.ensures.hints c.if-branch.true

pub returns-then-branch-clause-quiet : goal.returns-then-branch-clause-quiet
returns-then-branch-clause-quiet c = λ none. absurd (true≢false none)

pub follow_all-requires : goal.follow_all-requires
follow_all-requires c = c.in_ok-settle_short.ensures.quiet c.if-branch.false

pub returns-clause-steps : goal.returns-clause-steps
returns-clause-steps c =
    let clauses = c.args.clauses.now in
    let first = steps-is clauses c.args.hints.now c.settle_short.new.hints c.args.decided.now c.settle_short.new.decided _ false c.in_ok-settle_short.ensures.steps c.if-branch.false in
    IfOk-weaker c.follow_all.result (Steps clauses c.settle_short.new.hints c.settle_short.new.decided c.follow_all.new.hints c.follow_all.new.decided) (Steps clauses c.args.hints.now c.args.decided.now c.follow_all.new.hints c.follow_all.new.decided)
    (λ met. steps-on clauses c.args.hints.now c.settle_short.new.hints c.follow_all.new.hints c.args.decided.now c.settle_short.new.decided c.follow_all.new.decided met first) c.follow_all.ensures.steps

pub returns-clause-hints : goal.returns-clause-hints
returns-clause-hints c =
    let clauses = c.args.clauses.now in
    let first = derives-is clauses c.args.hints.now c.settle_short.new.hints c.args.decided.now c.settle_short.new.decided _ false c.in_ok-settle_short.ensures.hints c.if-branch.false in
    IfOk-weaker c.follow_all.result (Derives clauses c.settle_short.new.hints c.settle_short.new.decided c.follow_all.new.hints c.follow_all.new.decided) (Derives clauses c.args.hints.now c.args.decided.now c.follow_all.new.hints c.follow_all.new.decided)
    (λ met. derives-on clauses c.args.hints.now c.settle_short.new.hints c.follow_all.new.hints c.args.decided.now c.settle_short.new.decided c.follow_all.new.decided met first) c.follow_all.ensures.hints

pub returns-clause-quiet : goal.returns-clause-quiet
returns-clause-quiet c = c.follow_all.ensures.quiet
