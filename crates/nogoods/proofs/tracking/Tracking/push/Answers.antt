use Rattle.std.proofs.Common.{◌≡◌, ◌++◌, ◌∙◌, List, None, Option, ℕ, ◌∷◌, [], subst, sym, ap}
use Rattle.formula_tree.specs.Answers.{Answers, answer_of}
use Rattle.nogoods.specs.Joining.{FindsHit, Joins, WatchesOn}
use Rattle.nogoods.specs.Tracking.{IsHitOf, IsTracking, Tracked}
use Rattle.nogoods.proofs.Learning.{pushed-popped, tracking-joined, tracking-popped, tracking-watched}
use Rattle.nogoods.proofs.tracking.Tracking.push.Goals as goal

pub invariant_of-self : goal.invariant_of-self
invariant_of-self c =
    let now = c.self.inside in
    subst (λ (p : Answers). IsTracking now.lists p now.watching.items now.hits.items) (sym c.in_err-push.ensures.err) c.self.invariant

pub invariant_of-self-in-Ok-add_hit : goal.invariant_of-self-in-Ok-add_hit
invariant_of-self-in-Ok-add_hit c =
    let now = c.self.inside in
    let open_before = subst (λ (t : Tracked). answer_of t.path c.args.test ≡ None) (sym c.self.view_is) c.requires in
    let joins : Joins now.path c.push.new.self c.args.test c.args.answer = record { is = c.in_ok-push.ensures.ok; new = open_before } in
    let was = subst (λ (t : Tracked). IsHitOf t.lists t.path c.hit-before.result) (sym c.self.view_is) c.hit-before.ensures in
    let watches = subst (λ (ls : List Answers). WatchesOn ls now.path c.push.new.self now.watching.items c.join.new.watching.items) c.as_slice-lists.ensures (c.in-Ok.ensures.ok now.path joins) in
    let finds = subst (λ (ls : List Answers). FindsHit ls now.path c.push.new.self now.watching.items c.in-Ok.joined) c.as_slice-lists.ensures (c.in-Ok.ensures.hit now.path joins) in
    tracking-joined now.lists now.path c.push.new.self c.args.test c.args.answer now.watching.items c.join.new.watching.items now.hits.items c.add_hit.new.hits.items c.hit-before.result c.in-Ok.joined joins was watches finds
    (subst (λ (h : Option ℕ). c.add_hit.new.hits.items ≡ now.hits.items ++ h ∷ []) c.or.ensures c.in-Ok-add_hit.ensures.ok) c.self.invariant

pub invariant_of-self-in-Err-add_hit : goal.invariant_of-self-in-Err-add_hit
invariant_of-self-in-Err-add_hit c =
    let now = c.self.inside in
    let open_before = subst (λ (t : Tracked). answer_of t.path c.args.test ≡ None) (sym c.self.view_is) c.requires in
    let joins : Joins now.path c.push.new.self c.args.test c.args.answer = record { is = c.in_ok-push.ensures.ok; new = open_before } in
    let watches = subst (λ (ls : List Answers). WatchesOn ls now.path c.push.new.self now.watching.items c.join.new.watching.items) c.as_slice-lists.ensures (c.in-Ok.ensures.ok now.path joins) in
    let back = pushed-popped now.path c.push.new.self c.pop.new.self c.args.test c.args.answer c.pop.result c.in_ok-push.ensures.ok c.pop.ensures.last c.pop.ensures.nonempty.1 in
    tracking-popped now.lists now.path c.push.new.self c.pop.new.self c.args.test c.args.answer now.watching.items c.join.new.watching.items now.hits.items c.add_hit.new.hits.items c.in_ok-push.ensures.ok back watches c.in-Err-add_hit.ensures.err c.self.invariant

pub invariant_of-self-in-Err : goal.invariant_of-self-in-Err
invariant_of-self-in-Err c =
    let now = c.self.inside in
    let kept = subst (λ (ls : List Answers). WatchesOn ls now.path now.path now.watching.items c.join.new.watching.items) c.as_slice-lists.ensures (c.in-Err.ensures.err now.path) in
    let back = pushed-popped now.path c.push.new.self c.pop-in-Err.new.self c.args.test c.args.answer c.pop-in-Err.result c.in_ok-push.ensures.ok c.pop-in-Err.ensures.last c.pop-in-Err.ensures.nonempty.1 in
    tracking-watched now.lists now.path c.pop-in-Err.new.self now.watching.items c.join.new.watching.items now.hits.items back kept c.self.invariant

pub returns-in-Ok-add_hit-clause-lists : goal.returns-in-Ok-add_hit-clause-lists
returns-in-Ok-add_hit-clause-lists c = ap (λ (t : Tracked). t.lists) c.self.view_is

pub returns-in-Ok-add_hit-clause-ok : goal.returns-in-Ok-add_hit-clause-ok
returns-in-Ok-add_hit-clause-ok c = c.in_ok-push.ensures.ok ∙ ap (λ (t : Tracked). t.path ++ (c.args.test, c.args.answer) ∷ []) c.self.view_is

pub returns-in-Err-add_hit-clause-err : goal.returns-in-Err-add_hit-clause-err
returns-in-Err-add_hit-clause-err c =
    pushed-popped c.self.inside.path c.push.new.self c.pop.new.self c.args.test c.args.answer c.pop.result c.in_ok-push.ensures.ok c.pop.ensures.last c.pop.ensures.nonempty.1 ∙ ap (λ (t : Tracked). t.path) c.self.view_is

pub returns-in-Err-clause-err : goal.returns-in-Err-clause-err
returns-in-Err-clause-err c =
    pushed-popped c.self.inside.path c.push.new.self c.pop-in-Err.new.self c.args.test c.args.answer c.pop-in-Err.result c.in_ok-push.ensures.ok c.pop-in-Err.ensures.last c.pop-in-Err.ensures.nonempty.1 ∙ ap (λ (t : Tracked). t.path) c.self.view_is
