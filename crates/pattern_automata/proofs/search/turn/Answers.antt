use Rattle.std.proofs.Common.{◌∙◌, ap, subst, length, List, ℕ, Contains, ◌++◌, ◌∷◌, [], sym}
use Rattle.std.proofs.lemmas.Bool.{iff_false}
use Rattle.pattern_automata.specs.Tree.{LeadsTo}
use Rattle.pattern_automata.proofs.Leading.{leads-to}
use Rattle.pattern_automata.proofs.Searching.{words-length, turn-new, turn-old}
use Rattle.pattern_automata.proofs.search.turn.Goals as goal

pub step_into-requires-clause-size : goal.step_into-requires-clause-size
step_into-requires-clause-size c = ap length c.get.ensures ∙ words-length _ _ _ c.requires.tree _ c.requires.within

pub push-requires : goal.push-requires
push-requires c = λ h. iff_false c.has.ensures c.if-has.false
    (subst (λ (x : List ℕ). Contains c.args.search.now.found x) (c.as_slice-2.ensures.value ∙ sym c.as_slice.ensures.value) h)

pub returns : goal.returns
returns c =
    turn-new _ _ _ c.requires.tree _ _ _ _ _ c.requires.within c.requires.does.scalar
    (subst (λ (x : List ℕ). LeadsTo c.args.wants.now.patterns x c.args.step.now.character c.step_into.new.room.words.items) c.get.ensures (leads-to c.args.wants.now.patterns _ c.args.step.now.character _ c.in_ok-step_into.ensures))
    (c.in_ok-push.ensures.ok ∙ ap (λ (x : List ℕ). c.args.search.now.found ++ x ∷ []) c.as_slice-2.ensures.value)
    c.in_ok-push-2.ensures.items
    (λ h. iff_false c.has.ensures c.if-has.false (subst (λ (x : List ℕ). Contains c.args.search.now.found x) (sym c.as_slice.ensures.value) h))

pub returns-then-has : goal.returns-then-has
returns-then-has c =
    turn-old _ _ _ c.requires.tree _ _ _
    (subst (λ (x : List ℕ). LeadsTo c.args.wants.now.patterns x c.args.step.now.character c.step_into.new.room.words.items) c.get.ensures (leads-to c.args.wants.now.patterns _ c.args.step.now.character _ c.in_ok-step_into.ensures))
    (subst (λ (x : List ℕ). Contains c.args.search.now.found x) c.as_slice.ensures.value (c.has.ensures.0 c.if-has.true))
