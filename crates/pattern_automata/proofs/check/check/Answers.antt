use Rattle.std.proofs.Common.{◌∙◌, ◌↔◌, ap, sym, subst, List, ℕ, Bool, IsTrue, Contains, []}
use Rattle.wildcard_lang.specs.declared.piece.Piece.{Piece}
use Rattle.pattern_automata.specs.Checked.{AreMembers, HavePassed}
use Rattle.pattern_automata.specs.Closed.{IsClosedUnder}
use Rattle.pattern_automata.specs.Packed.{all_words}
use Rattle.pattern_automata.proofs.Checking.{answer-ok, closed-if, start-if, fitting-if, others-if, fitting-marks, other-marks}
use Rattle.pattern_automata.proofs.check.check.Goals as goal

pub returns-then-not-has : goal.returns-then-not-has
returns-then-not-has c =
    let are = subst (λ (x : List (List Piece)). AreMembers x c.args.closed.now c.in_ok-members.members) c.as_slice-patterns.ensures c.in_ok-members.ensures in
    let same = c.as_slice.ensures.value ∙ (c.in_ok-start.ensures ∙ ap (λ (x : List (List Piece)). all_words x []) c.as_slice-patterns.ensures) in (
      λ h. absurd (cc),
      λ closed.
          let start = start-if c.args.wants.now c.args.machine.now c.args.closed.now _ _ c.requires.range c.requires.machine c.requires.shaped are closed in
          sym c.if-not-has.true ∙ c.has.ensures.1 (subst (λ (x : List ℕ). Contains c.in_ok-members.members.fitting x) (sym same) start),
    )

pub all_pass-requires-clause-marks : goal.all_pass-requires-clause-marks
all_pass-requires-clause-marks c =
    fitting-marks c.args.wants.now c.args.machine.now c.args.closed.now _ _ c.requires.range c.requires.machine c.requires.shaped
    (subst (λ (x : List (List Piece)). AreMembers x c.args.closed.now c.in_ok-members.members) c.as_slice-patterns.ensures c.in_ok-members.ensures)

pub returns-then-not-branch : goal.returns-then-not-branch
returns-then-not-branch c =
    let are = subst (λ (x : List (List Piece)). AreMembers x c.args.closed.now c.in_ok-members.members) c.as_slice-patterns.ensures c.in_ok-members.ensures in (
      λ h. absurd (cc),
      λ closed. sym c.if-not-branch.true ∙ c.in_ok-all_pass.ensures.1 (fitting-if c.args.wants.now c.args.machine.now c.args.closed.now _ _ c.requires.range c.requires.machine c.requires.shaped are closed),
    )

pub all_pass-requires-2-clause-marks : goal.all_pass-requires-2-clause-marks
all_pass-requires-2-clause-marks c =
    other-marks c.args.wants.now c.args.machine.now c.args.closed.now _ _ c.requires.range c.requires.machine c.requires.shaped
    (subst (λ (x : List (List Piece)). AreMembers x c.args.closed.now c.in_ok-members.members) c.as_slice-patterns.ensures c.in_ok-members.ensures)

pub returns : goal.returns
returns c =
    let w = c.args.wants.now in
    let closed = c.args.closed.now in
    let members = c.in_ok-members.members in
    let are = subst (λ (x : List (List Piece)). AreMembers x closed members) c.as_slice-patterns.ensures c.in_ok-members.ensures in
    let same = c.as_slice.ensures.value ∙ (c.in_ok-start.ensures ∙ ap (λ (x : List (List Piece)). all_words x []) c.as_slice-patterns.ensures) in
    let start = subst (λ (x : List ℕ). Contains members.fitting x) same (c.has.ensures.0 c.if-not-has.false) in
    let first = c.in_ok-all_pass.ensures.0 c.if-not-branch.false in
    answer-ok (λ (yes' : Bool). IsTrue yes' ↔ HavePassed w c.args.machine.now members.fitting members.others) (λ (yes' : Bool). IsTrue yes' ↔ IsClosedUnder w closed) c.all_pass-2.result
    (λ b p. (
      λ yes'. closed-if w c.args.machine.now closed _ _ c.requires.range c.requires.machine c.requires.shaped are start first (p.0 yes'),
      λ is. p.1 (others-if w c.args.machine.now closed _ _ c.requires.range c.requires.machine c.requires.shaped are is),
    )) c.all_pass-2.ensures
