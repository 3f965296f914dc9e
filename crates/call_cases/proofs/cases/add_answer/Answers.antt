use Rattle.std.proofs.Common.{arith}
use Rattle.call_cases.proofs.Given.{answered-more, unanswered-at}
use Rattle.call_cases.proofs.cases.add_answer.Goals as goal

pub push-requires : goal.push-requires
push-requires c = unanswered-at c.args.path.now c.args.n c.requires

pub returns-in-None : goal.returns-in-None
returns-in-None c = λ n b e. omega (arith, c.requires n b e)

pub returns-in_ok-push-in-Some : goal.returns-in_ok-push-in-Some
returns-in_ok-push-in-Some c = answered-more c.args.path.now c.push.new.self c.args.n c.in-Some.answer c.in_ok-push-in-Some.ensures.ok c.requires
