use Rattle.std.proofs.Common.{◌≡◌, ◌+◌, ◌∙◌, false, true, refl, sym, ap, subst, arith}
use Rattle.formula_tree.specs.Runs.{path_with}
use Rattle.refute_check.specs.declared.verdict.Walked.{Walked}
use Rattle.refute_check.specs.declared.verdict.Walked.TheVariants.{Closed, Failed}
use Rattle.refute_check.specs.Closing.{inside_label}
use Rattle.refute_check.specs.Proofs.{proof_of, size, split}
use Rattle.refute_check.specs.Walks.{IsLabelWalked, IsWalked, raised_walk}
use Rattle.refute_check.proofs.Ranges.{range_more}
use Rattle.refute_check.proofs.Walking.{fails-here, first-fails, label-fails, not-ended, of-label, own-label, second, walked-at}
use Rattle.refute_check.proofs.verdict.Checking.+walk.Goals as goal

pub walk-returns-then-not-branch-clause-walked : goal.walk-returns-then-not-branch-clause-walked
walk-returns-then-not-branch-clause-walked t c =
    let labels = c.args.passed.now.labels in
    fails-here c.args.self.now.schema.now c.args.self.now.query.now labels labels (proof_of c.args.part.now) c.args.path.now (λ holds. let no = c.in_ok-holds_here.ensures.holds.1 holds in absurd (cc))

pub walk-walk_label-requires : goal.walk-walk_label-requires
walk-walk_label-requires t c =
    let part = c.args.part.now in
    let path = c.args.path.now in
    let own = own-label c.args.self.now.schema.now c.args.self.now.query.now c.args.passed.now.labels c.in-Label.number c.in-Label.answers c.in-Label.inner part path c.in-Label.is (c.in_ok-holds_here.ensures.holds.0 c.if-not-branch.false) in
    let e = ap proof_of c.deref-in-Label.ensures in
    let more : size (proof_of part) ≡ size (proof_of c.in-Label.inner.value) + 1 = ap size (of-label c.in-Label.number c.in-Label.answers c.in-Label.inner part c.in-Label.is) in
    (rw e (omega (arith, more, c.decreases)), (c.requires.ready, (λ m b at. c.requires.range m b (own.there m b at), (c.in_ok-holds_here.ensures.known, (own.next, own.rise)))))

pub walk_label-returns-in-Failed-clause-walked : goal.walk_label-returns-in-Failed-clause-walked
walk_label-returns-in-Failed-clause-walked t c =
    let schema = c.args.self.now.schema.now in
    let q = c.args.self.now.query.now in
    let labels = c.args.passed.now.labels in
    let p = proof_of c.args.inner.now in
    let below = walked-at schema q _ (inside_label labels) p _ c.args.answers.now c.walk.new.passed.labels _ (Failed c.in-Failed.field-0) c.in_ok-begin.ensures.begun (c.in_ok-own.ensures ∙ c.as_slice.ensures) c.in-Failed.is c.in_ok-walked.ensures.walked in
    let here = label-fails schema q labels c.walk.new.passed.labels c.walk.new.passed.labels c.args.number c.args.answers.now p c.in-Failed.field-0 below in
    subst (λ (w : Walked). IsLabelWalked schema q labels c.args.number c.args.answers.now p c.walk.new.passed.labels w) (sym (c.raised_walk.ensures ∙ ap (λ (w : Walked). raised_walk w 0) c.in-Failed.is)) here

pub walk_label-end-requires-clause-new : goal.walk_label-end-requires-clause-new
walk_label-end-requires-clause-new t c =
    let labels = c.args.passed.now.labels in
    let below = walked-at c.args.self.now.schema.now c.args.self.now.query.now _ (inside_label labels) (proof_of c.args.inner.now) _ c.args.answers.now c.walk.new.passed.labels _ (Closed c.in-Closed.field-0) c.in_ok-begin.ensures.begun (c.in_ok-own.ensures ∙ c.as_slice.ensures) c.in-Closed.is c.in_ok-walked.ensures.walked in
    rw c.requires.next (not-ended c.args.self.now.schema.now c.args.self.now.query.now labels c.walk.new.passed.labels (proof_of c.args.inner.now) c.args.answers.now c.in-Closed.field-0 c.in_ok-begin.ensures.below below)

pub walk_side-walk-requires : goal.walk_side-walk-requires
walk_side-walk-requires t c =
    (omega (arith, c.decreases), (c.requires.ready, (rw c.in_ok-push.ensures.ok (range_more c.args.self.now.query.now.tests c.args.path.now c.args.test c.args.answer c.requires.range c.requires.open.0), c.requires.known)))

pub walk_sides-returns-in-Failed-clause-walked : goal.walk_sides-returns-in-Failed-clause-walked
walk_sides-returns-in-Failed-clause-walked t c =
    let schema = c.args.self.now.schema.now in
    let q = c.args.self.now.query.now in
    let labels = c.args.passed.now.labels in
    let y = proof_of c.args.yes.now in
    let z = proof_of c.args.no.now in
    let path = c.args.path.now in
    let after = c.walk_side.new.passed.labels in
    let yes_side = walked-at schema q labels labels y _ (path_with path c.args.test true) after _ (Failed c.in-Failed.field-0) refl refl c.in-Failed.is c.in_ok-first.ensures.walked in
    let here = first-fails schema q labels c.args.test y z path c.requires.open after after c.in-Failed.field-0 yes_side in
    subst (λ (w : Walked). IsWalked schema q labels (split c.args.test y z) path after w) (sym (c.raised_walk.ensures ∙ ap (λ (w : Walked). raised_walk w 0) c.in-Failed.is)) here

pub walk_sides-returns-in_ok-second-in-Closed-clause-walked : goal.walk_sides-returns-in_ok-second-in-Closed-clause-walked
walk_sides-returns-in_ok-second-in-Closed-clause-walked t c =
    let schema = c.args.self.now.schema.now in
    let q = c.args.self.now.query.now in
    let labels = c.args.passed.now.labels in
    let y = proof_of c.args.yes.now in
    let z = proof_of c.args.no.now in
    let path = c.args.path.now in
    let middle = c.walk_side.new.passed.labels in
    let after = c.walk_side-in-Closed.new.passed.labels in
    let yes_side = walked-at schema q labels labels y _ (path_with path c.args.test true) middle _ (Closed c.in-Closed.nodes) refl refl c.in-Closed.is c.in_ok-first.ensures.walked in
    let no_side = walked-at schema q middle middle z _ (path_with path c.args.test false) after _ c.in_ok-second-in-Closed.second refl (ap (λ p. path_with p c.args.test false) c.in_ok-first.ensures.path) refl c.in_ok-second-in-Closed.ensures.walked in
    let here = second schema q labels c.args.test y z path c.requires.open middle after c.in-Closed.nodes c.in_ok-second-in-Closed.second yes_side no_side in
    subst (λ (w : Walked). IsWalked schema q labels (split c.args.test y z) path after w) (sym c.raised_walk-in-Closed.ensures) here
