use Rattle.std.proofs.Common.{List, ◌∷◌, ◌++◌, [], sym, ap, subst, ◌∙◌}
use Rattle.std.proofs.lemmas.Option.{MatchOption-at_none, MatchOption-at_some}
use Rattle.formula_tree.specs.Answers.{Answers}
use Rattle.formula_tree.proofs.Laws.{answer_of-besides, answer_of-last, answer_of-more}
use Rattle.cnf_clauses.specs.Following.{IsConflictAt}
use Rattle.cnf_clauses.specs.Levels.{AreLevels, Followed}
use Rattle.cnf_clauses.specs.Literals.{Clause}
use Rattle.cnf_clauses.proofs.LevelSteps.{popped-back, trail-next, trail-same}
use Rattle.cnf_clauses.proofs.Reasons.{reasons-path}
use Rattle.cnf_clauses.proofs.following.Following.push.Goals as goal

abbrev followed : List Clause → Answers → Followed
followed clauses path = record { clauses = clauses; path = path }

pub follow_level-requires-clause-answered : goal.follow_level-requires-clause-answered
follow_level-requires-clause-answered c =
    rw c.in_ok-push.ensures.ok (answer_of-last c.self.inside.path c.args.test c.args.answer (rw (← c.self.view_is) at c.requires))

pub follow_level-requires-clause-others : goal.follow_level-requires-clause-others
follow_level-requires-clause-others c =
    rw c.in_ok-push.ensures.ok (λ n b ne h. c.self.invariant.now.answers n b (sym (answer_of-besides c.self.inside.path c.args.test c.args.answer n ne) ∙ h))

pub follow_level-requires-clause-reasons : goal.follow_level-requires-clause-reasons
follow_level-requires-clause-reasons c =
    let trail = c.self.inside.trail in
    rw c.in_ok-push.ensures.ok
    (reasons-path c.self.inside.clauses c.self.inside.path _ [] trail.decided trail.reasons.items
    (λ n b h. answer_of-more c.self.inside.path ((c.args.test, c.args.answer) ∷ []) n b h) c.self.invariant.now.explained)

pub invariant_of-self-in-Ok-None : goal.invariant_of-self-in-Ok-None
invariant_of-self-in-Ok-None c =
    trail-next c.self.inside.clauses c.self.inside.path c.push.new.self (c.args.test, c.args.answer) c.self.inside.trail c.follow_level.new.trail c.in_ok-push.ensures.ok
    c.self.invariant (MatchOption-at_none _ _ c.in-Ok-None.field-0-is c.in-Ok-None.ensures.none)

pub follow_level-requires-clause-quiet : goal.follow_level-requires-clause-quiet
follow_level-requires-clause-quiet c = c.self.invariant.now.quiet

pub invariant_of-self : goal.invariant_of-self
invariant_of-self c =
    let now = c.self.inside in
    subst (λ (p : Answers). AreLevels now.clauses p now.trail.decided now.trail.reasons.items now.trail.marks.items) (sym c.in_err-push.ensures.err) c.self.invariant

pub invariant_of-self-in-Ok-Some : goal.invariant_of-self-in-Ok-Some
invariant_of-self-in-Ok-Some c =
    let now = c.self.inside in
    trail-same now.clauses now.path c.pop.new.self now.trail c.follow_level.new.trail
    (popped-back now.path c.push.new.self c.pop.new.self (c.args.test, c.args.answer) c.pop.result c.in_ok-push.ensures.ok c.pop.ensures.last c.pop.ensures.nonempty)
    (MatchOption-at_some _ _ _ c.in-Ok-Some.field-0-is c.in-Ok-Some.ensures.same) c.self.invariant

pub invariant_of-self-in-Err : goal.invariant_of-self-in-Err
invariant_of-self-in-Err c =
    let now = c.self.inside in
    trail-same now.clauses now.path c.pop-in-Err.new.self now.trail c.follow_level.new.trail
    (popped-back now.path c.push.new.self c.pop-in-Err.new.self (c.args.test, c.args.answer) c.pop-in-Err.result c.in_ok-push.ensures.ok c.pop-in-Err.ensures.last c.pop-in-Err.ensures.nonempty)
    c.in-Err.ensures.err c.self.invariant

pub returns-in-Ok-None-clause-ok : goal.returns-in-Ok-None-clause-ok
returns-in-Ok-None-clause-ok c =
    ap (λ (p : Answers). followed c.self.inside.clauses p) c.in_ok-push.ensures.ok ∙ ap (λ (f : Followed). followed f.clauses (f.path ++ (c.args.test, c.args.answer) ∷ [])) c.self.view_is

pub returns-in-Ok-Some-clause-ok : goal.returns-in-Ok-Some-clause-ok
returns-in-Ok-Some-clause-ok c =
    let now = c.self.inside in
    let back = popped-back now.path c.push.new.self c.pop.new.self (c.args.test, c.args.answer) c.pop.result c.in_ok-push.ensures.ok c.pop.ensures.last c.pop.ensures.nonempty in
    let met = MatchOption-at_some _ _ _ c.in-Ok-Some.field-0-is c.in-Ok-Some.ensures.conflict in (
      ap (λ (p : Answers). followed now.clauses p) back ∙ c.self.view_is,
      subst (λ (f : Followed). IsConflictAt f.clauses (f.path ++ (c.args.test, c.args.answer) ∷ []) c.in-Ok-Some.conflict) c.self.view_is
          (subst (λ (p : Answers). IsConflictAt now.clauses p c.in-Ok-Some.conflict) c.in_ok-push.ensures.ok met),
    )

pub returns-in-Err-clause-err : goal.returns-in-Err-clause-err
returns-in-Err-clause-err c =
    let now = c.self.inside in
    let back = popped-back now.path c.push.new.self c.pop-in-Err.new.self (c.args.test, c.args.answer) c.pop-in-Err.result c.in_ok-push.ensures.ok c.pop-in-Err.ensures.last c.pop-in-Err.ensures.nonempty in
    ap (λ (p : Answers). followed now.clauses p) back ∙ c.self.view_is
