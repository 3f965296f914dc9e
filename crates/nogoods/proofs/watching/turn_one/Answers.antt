use Rattle.std.proofs.Common.{[], List, ℕ, subst, sym, rules}
use Rattle.nogoods.specs.Turning.{StayAsHits, TurnsOrStays}
use Rattle.nogoods.proofs.Watches.{stays, stay-hits}
use Rattle.nogoods.proofs.watching.turn_one.Goals as goal

pub returns-in_err-push-in-None-clause-hits : goal.returns-in_err-push-in-None-clause-hits
returns-in_err-push-in-None-clause-hits c = subst (StayAsHits c.args.lists.now c.args.path.now) (sym c.in_err-push-in-None.ensures.err)

pub returns-in_ok-push-in-None-clause-turned : goal.returns-in_ok-push-in-None-clause-turned
returns-in_ok-push-in-None-clause-turned c =
    subst (λ (s : List ℕ). TurnsOrStays c.args.lists.now c.args.path.now c.args.watching.now.items s c.args.number) (sym c.in_ok-push-in-None.ensures.ok)
    (stays c.args.lists.now c.args.path.now c.args.watching.now.items c.args.stay.now c.args.number c.in-Some.answers.now (sym (c.in-Some.ensures.lookup.3.1 [])) c.in-None.ensures)

pub returns-in_ok-push-in-None-clause-hits : goal.returns-in_ok-push-in-None-clause-hits
returns-in_ok-push-in-None-clause-hits c = λ before.
    subst (StayAsHits c.args.lists.now c.args.path.now) (sym c.in_ok-push-in-None.ensures.ok)
    (stay-hits c.args.lists.now c.args.path.now c.args.stay.now c.args.number c.in-Some.answers.now c.in-Some.ensures.lookup.3.0 (sym (c.in-Some.ensures.lookup.3.1 [])) c.in-None.ensures before)

pub returns-in_ok-watch-in-Some-lacking-clause-turned : goal.returns-in_ok-watch-in-Some-lacking-clause-turned
returns-in_ok-watch-in-Some-lacking-clause-turned c = search rules
