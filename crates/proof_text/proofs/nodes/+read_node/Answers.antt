use Rattle.std.proofs.Common.{◌≡◌, ◌++◌, ◌+◌, ◌<◌, ℕ, List, [], ◌∷◌, Err, Global, arith, sym, subst, refl, ◌∙◌}
use Rattle.std.proofs.lemmas.Result.{err_from_is_err_and}
use Rattle.std.specs.declared.rc.Rc.{Rc}
use Rattle.refute_check.specs.Proofs.{Proof, proof_of}
use Rattle.refute_check.specs.declared.refutation.Refutation.{Refutation}
use Rattle.proof_text.specs.Around.{node_line_value}
use Rattle.proof_text.specs.LineForms.{ExpectNode, line_said}
use Rattle.proof_text.specs.Lines.{clauses_line, label_line, reuse_line, slot_line, split_line, value_line}
use Rattle.proof_text.specs.Spelling.{node_lines, node_line_numbers}
use Rattle.proof_text.specs.Steps.{IsLineRead, TakesLines}
use Rattle.proof_text.specs.declared.limits.TheConstants.{MOST_NESTING}
use Rattle.proof_text.proofs.Branching.{around-entered, behind-label, core-read, known-at, label-depth, label-fails, label-number, label-starts, label-takes, split-starts, split-takes, takes-at}
use Rattle.proof_text.proofs.Shapes.{of-clauses, of-label, of-reuse, of-split, of-value}
use Rattle.proof_text.proofs.Taking.{end-refused, fails-behind, fails-below, fails-longer, leads-alone, line-refused}
use Rattle.proof_text.proofs.nodes.+read_node.Goals as goal

pub read_node-requires-in-Ok-Label : goal.read_node-requires-in-Ok-Label
read_node-requires-in-Ok-Label t c =
    let inside = c.args.trail.now.inside.items in
    let known = known-at c.args.limits c.args.location.begun c.args.depth c.as_slice.result.now inside c.in_ok-line.line.now (label_line c.in-Ok-Label.number c.in-Ok-Label.answers) c.as_slice.ensures.value (rw c.in-Ok-Label.field-0-is at c.in-Ok-Label.ensures) in
    let below : c.args.depth < MOST_NESTING = label-depth c.args.limits c.args.location.begun c.args.depth c.in-Ok-Label.number c.in-Ok-Label.answers inside known.1 in
    let number = label-number c.args.limits c.args.location.begun c.args.depth c.in-Ok-Label.number c.in-Ok-Label.answers inside known.1 in (
      omega (arith, below, c.decreases),
      (
        c.with_label.ensures.room,
        (
          omega (arith, below),
          (
            around-entered inside _ c.in-Ok-Label.number c.args.location.begun _ c.requires.around number c.in_ok-enter-in-Ok-Label.ensures (omega (arith, c.with_label.ensures.begun, c.in_ok-line.ensures.begun)),
            c.requires.value,
          ),
        ),
      ),
    )

pub returns-in_err-inner-in-Ok-Label-clause-read :
    goal.returns-in_err-inner-in-Ok-Label-clause-read
returns-in_err-inner-in-Ok-Label-clause-read t c =
    let inside = c.args.trail.now.inside.items in
    let known = known-at c.args.limits c.args.location.begun c.args.depth c.as_slice.result.now inside c.in_ok-line.line.now (label_line c.in-Ok-Label.number c.in-Ok-Label.answers) c.as_slice.ensures.value (rw c.in-Ok-Label.field-0-is at c.in-Ok-Label.ensures) in
    let next = behind-label c.in_ok-line.line.now c.args.location c.in_ok-line.behind c.with_label.result c.in_ok-line.ensures c.with_label.ensures.number c.with_label.ensures.begun c.with_label.ensures.bytes c.with_label.ensures.room in
    let p = err_from_is_err_and c.from_residual-in_err-inner-in-Ok-Label.result c.from_residual-in_err-inner-in-Ok-Label.ensures.1 in
    rw (p.1, p.2) (label-fails c.args.limits c.args.depth c.in-Ok-Label.number c.in-Ok-Label.answers inside _ c.in_ok-line.line.now c.args.location c.with_label.result _ next known c.in_ok-enter-in-Ok-Label.ensures c.in_err-inner-in-Ok-Label.ensures.read)

pub returns-in_ok-shared-in-Ok-Split-clause-read :
    goal.returns-in_ok-shared-in-Ok-Split-clause-read
returns-in_ok-shared-in-Ok-Split-clause-read t c =
    let inside = c.args.trail.now.inside.items in
    let known = known-at c.args.limits c.args.location.begun c.args.depth c.as_slice.result.now inside c.in_ok-line.line.now (split_line c.in-Ok-Split.test) c.as_slice.ensures.value (rw c.in-Ok-Split.field-0-is at c.in-Ok-Split.ensures) in
    let second = takes-at c.args.limits (c.args.depth + 1) _ inside c.in_ok-yes-in-Ok-Split.middle c.in_ok-no-in-Ok-Split.end (node_lines (proof_of c.in_ok-no-in-Ok-Split.no.value)) c.in_ok-yes-in-Ok-Split.ensures.inside c.in_ok-no-in-Ok-Split.ensures.read in
    subst (λ (r : Proof). TakesLines c.args.limits (ExpectNode c.args.depth inside ∷ []) c.args.location (node_lines r) c.in_ok-no-in-Ok-Split.end) (sym (of-split c.in-Ok-Split.test c.in_ok-yes-in-Ok-Split.yes c.in_ok-no-in-Ok-Split.no c.in_ok-shared-in-Ok-Split.field-0.value c.in_ok-shared-in-Ok-Split.ensures))
    (split-takes c.args.limits c.args.depth c.in-Ok-Split.test inside c.in_ok-line.line.now c.args.location c.in_ok-line.behind c.in_ok-yes-in-Ok-Split.middle c.in_ok-no-in-Ok-Split.end (proof_of c.in_ok-yes-in-Ok-Split.yes.value) (proof_of c.in_ok-no-in-Ok-Split.no.value)
    c.in_ok-line.ensures known.0 known.1 c.in_ok-yes-in-Ok-Split.ensures.read second)

pub returns-in_ok-shared-in-Ok-Split-clause-lines :
    goal.returns-in_ok-shared-in-Ok-Split-clause-lines
returns-in_ok-shared-in-Ok-Split-clause-lines t c =
    subst (λ (r : Proof). c.read_node-in-Ok-Split.new.trail.lines ≡ c.args.trail.now.lines ++ node_line_numbers c.args.location.number r) (sym (of-split c.in-Ok-Split.test c.in_ok-yes-in-Ok-Split.yes c.in_ok-no-in-Ok-Split.no c.in_ok-shared-in-Ok-Split.field-0.value c.in_ok-shared-in-Ok-Split.ensures))
    (split-starts c.in-Ok-Split.test c.args.location.number c.in_ok-line.behind.number c.in_ok-yes-in-Ok-Split.middle.number (proof_of c.in_ok-yes-in-Ok-Split.yes.value) (proof_of c.in_ok-no-in-Ok-Split.no.value) c.args.trail.now.lines _ _ _
    c.in_ok-push.ensures.ok c.in_ok-yes-in-Ok-Split.ensures.lines c.in_ok-no-in-Ok-Split.ensures.lines c.in_ok-line.ensures.number c.in_ok-yes-in-Ok-Split.ensures.read.count)

pub returns-in_ok-shared-in-Ok-Label-clause-read :
    goal.returns-in_ok-shared-in-Ok-Label-clause-read
returns-in_ok-shared-in-Ok-Label-clause-read t c =
    let inside = c.args.trail.now.inside.items in
    let known = known-at c.args.limits c.args.location.begun c.args.depth c.as_slice.result.now inside c.in_ok-line.line.now (label_line c.in-Ok-Label.number c.in-Ok-Label.answers) c.as_slice.ensures.value (rw c.in-Ok-Label.field-0-is at c.in-Ok-Label.ensures) in
    let next = behind-label c.in_ok-line.line.now c.args.location c.in_ok-line.behind c.with_label.result c.in_ok-line.ensures c.with_label.ensures.number c.with_label.ensures.begun c.with_label.ensures.bytes c.with_label.ensures.room in
    subst (λ (r : Proof). TakesLines c.args.limits (ExpectNode c.args.depth inside ∷ []) c.args.location (node_lines r) c.in_ok-inner-in-Ok-Label.end) (sym (of-label c.in-Ok-Label.number c.in-Ok-Label.answers c.in_ok-inner-in-Ok-Label.inner c.in_ok-shared-in-Ok-Label.field-0.value c.in_ok-shared-in-Ok-Label.ensures))
    (label-takes c.args.limits c.args.depth c.in-Ok-Label.number c.in-Ok-Label.answers inside _ c.in_ok-line.line.now c.args.location c.with_label.result c.in_ok-inner-in-Ok-Label.end (proof_of c.in_ok-inner-in-Ok-Label.inner.value)
    next known c.in_ok-enter-in-Ok-Label.ensures c.in_ok-inner-in-Ok-Label.ensures.read)

pub returns-in_ok-shared-in-Ok-Label-clause-lines :
    goal.returns-in_ok-shared-in-Ok-Label-clause-lines
returns-in_ok-shared-in-Ok-Label-clause-lines t c =
    subst (λ (r : Proof). c.read_node-in-Ok-Label.new.trail.lines ≡ c.args.trail.now.lines ++ node_line_numbers c.args.location.number r) (sym (of-label c.in-Ok-Label.number c.in-Ok-Label.answers c.in_ok-inner-in-Ok-Label.inner c.in_ok-shared-in-Ok-Label.field-0.value c.in_ok-shared-in-Ok-Label.ensures))
    (label-starts c.in-Ok-Label.number c.args.location.number c.with_label.result.number c.in-Ok-Label.answers (proof_of c.in_ok-inner-in-Ok-Label.inner.value) c.args.trail.now.lines _ _
    c.in_ok-push.ensures.ok c.in_ok-inner-in-Ok-Label.ensures.lines (c.with_label.ensures.number ∙ c.in_ok-line.ensures.number))

pub returns-in-Ok-Slot-clause-read : goal.returns-in-Ok-Slot-clause-read
returns-in-Ok-Slot-clause-read t c =
    let inside = c.args.trail.now.inside.items in
    let known = known-at c.args.limits c.args.location.begun c.args.depth c.as_slice.result.now inside c.in_ok-line.line.now (slot_line c.in-Ok-Slot.core) c.as_slice.ensures.value (rw c.in-Ok-Slot.field-0-is at c.in-Ok-Slot.ensures) in
    core-read (λ (x : Rc Refutation Global). proof_of x.value) c.args.limits c.args.depth inside c.in-Ok-Slot.core c.in_ok-line.line.now c.args.location c.in_ok-line.behind c.read_core.result c.in_ok-line.ensures known.0 known.1 c.read_core.ensures.read c.read_core.ensures.core

pub returns-in_ok-again-in-Ok-Value-clause-read :
    goal.returns-in_ok-again-in-Ok-Value-clause-read
returns-in_ok-again-in-Ok-Value-clause-read t c =
    let inside = c.args.trail.now.inside.items in
    let known = known-at c.args.limits c.args.location.begun c.args.depth c.as_slice.result.now inside c.in_ok-line.line.now value_line c.as_slice.ensures.value (rw c.in-Ok-Value.field-0-is at c.in-Ok-Value.ensures) in
    subst (λ (r : Proof). TakesLines c.args.limits (ExpectNode c.args.depth inside ∷ []) c.args.location (node_lines r) c.in_ok-line.behind) (sym (of-value c.in_ok-again-in-Ok-Value.field-0.value (c.in_ok-again-in-Ok-Value.ensures ∙ c.requires.value)))
    (leads-alone c.args.limits (ExpectNode c.args.depth inside) c.args.location c.in_ok-line.behind c.in_ok-line.line.now value_line c.in_ok-line.ensures known.0 known.1 refl)

pub returns-in_ok-shared-in-Ok-Clauses-clause-read :
    goal.returns-in_ok-shared-in-Ok-Clauses-clause-read
returns-in_ok-shared-in-Ok-Clauses-clause-read t c =
    let inside = c.args.trail.now.inside.items in
    let known = known-at c.args.limits c.args.location.begun c.args.depth c.as_slice.result.now inside c.in_ok-line.line.now (clauses_line c.in-Ok-Clauses.hints) c.as_slice.ensures.value (rw c.in-Ok-Clauses.field-0-is at c.in-Ok-Clauses.ensures) in
    subst (λ (r : Proof). TakesLines c.args.limits (ExpectNode c.args.depth inside ∷ []) c.args.location (node_lines r) c.in_ok-line.behind) (sym (of-clauses c.in-Ok-Clauses.hints c.in_ok-shared-in-Ok-Clauses.field-0.value c.in_ok-shared-in-Ok-Clauses.ensures))
    (leads-alone c.args.limits (ExpectNode c.args.depth inside) c.args.location c.in_ok-line.behind c.in_ok-line.line.now (clauses_line c.in-Ok-Clauses.hints) c.in_ok-line.ensures known.0 known.1 refl)

pub returns-in_ok-shared-in-Ok-Reuse-clause-read :
    goal.returns-in_ok-shared-in-Ok-Reuse-clause-read
returns-in_ok-shared-in-Ok-Reuse-clause-read t c =
    let inside = c.args.trail.now.inside.items in
    let known = known-at c.args.limits c.args.location.begun c.args.depth c.as_slice.result.now inside c.in_ok-line.line.now (reuse_line c.in-Ok-Reuse.number) c.as_slice.ensures.value (rw c.in-Ok-Reuse.field-0-is at c.in-Ok-Reuse.ensures) in
    subst (λ (r : Proof). TakesLines c.args.limits (ExpectNode c.args.depth inside ∷ []) c.args.location (node_lines r) c.in_ok-line.behind) (sym (of-reuse c.in-Ok-Reuse.number c.in_ok-shared-in-Ok-Reuse.field-0.value c.in_ok-shared-in-Ok-Reuse.ensures))
    (leads-alone c.args.limits (ExpectNode c.args.depth inside) c.args.location c.in_ok-line.behind c.in_ok-line.line.now (reuse_line c.in-Ok-Reuse.number) c.in_ok-line.ensures known.0 known.1 refl)

pub returns-in_err-line-clause-read : goal.returns-in_err-line-clause-read
returns-in_err-line-clause-read t c =
    let p = err_from_is_err_and c.from_residual.result c.from_residual.ensures.1 in
    rw (p.1, p.2) (end-refused c.args.limits (ExpectNode c.args.depth c.args.trail.now.inside.items) c.args.location _ c.in_err-line.ensures)

pub returns-in_err-push-clause-read : goal.returns-in_err-push-clause-read
returns-in_err-push-clause-read t c =
    let p = err_from_is_err_and c.from_residual-in_err-push.result c.from_residual-in_err-push.ensures.1 in
    rw (p.1, p.2) tt

pub returns-in_err-yes-in-Ok-Split-clause-read : goal.returns-in_err-yes-in-Ok-Split-clause-read
returns-in_err-yes-in-Ok-Split-clause-read t c =
    let inside = c.args.trail.now.inside.items in
    let known = known-at c.args.limits c.args.location.begun c.args.depth c.as_slice.result.now inside c.in_ok-line.line.now (split_line c.in-Ok-Split.test) c.as_slice.ensures.value (rw c.in-Ok-Split.field-0-is at c.in-Ok-Split.ensures) in
    let below = ExpectNode (c.args.depth + 1) inside ∷ [] in
    let p = err_from_is_err_and c.from_residual-in_err-yes-in-Ok-Split.result c.from_residual-in_err-yes-in-Ok-Split.ensures.1 in
    rw (p.1, p.2) (fails-below c.args.limits (ExpectNode c.args.depth inside) c.args.location c.in_ok-line.behind c.in_ok-line.line.now (split_line c.in-Ok-Split.test) _ c.in_ok-line.ensures known.0 known.1
    (fails-longer c.args.limits below below c.in_ok-line.behind _ c.in_err-yes-in-Ok-Split.ensures.read))

pub returns-in_err-no-in-Ok-Split-clause-read : goal.returns-in_err-no-in-Ok-Split-clause-read
returns-in_err-no-in-Ok-Split-clause-read t c =
    let inside = c.args.trail.now.inside.items in
    let known = known-at c.args.limits c.args.location.begun c.args.depth c.as_slice.result.now inside c.in_ok-line.line.now (split_line c.in-Ok-Split.test) c.as_slice.ensures.value (rw c.in-Ok-Split.field-0-is at c.in-Ok-Split.ensures) in
    let below = ExpectNode (c.args.depth + 1) inside ∷ [] in
    let p = err_from_is_err_and c.from_residual-in_err-no-in-Ok-Split.result c.from_residual-in_err-no-in-Ok-Split.ensures.1 in
    rw (p.1, p.2) (fails-below c.args.limits (ExpectNode c.args.depth inside) c.args.location c.in_ok-line.behind c.in_ok-line.line.now (split_line c.in-Ok-Split.test) _ c.in_ok-line.ensures known.0 known.1
    (fails-behind c.args.limits below below c.in_ok-line.behind c.in_ok-yes-in-Ok-Split.middle (node_lines (proof_of c.in_ok-yes-in-Ok-Split.yes.value)) _ c.in_ok-yes-in-Ok-Split.ensures.read (rw c.in_ok-yes-in-Ok-Split.ensures.inside at c.in_err-no-in-Ok-Split.ensures.read)))

pub returns-in-Err-clause-read : goal.returns-in-Err-clause-read
returns-in-Err-clause-read t c =
    let inside = c.args.trail.now.inside.items in
    let read = subst (λ (ns : List ℕ). IsLineRead node_line_value c.args.limits c.args.location.begun (ExpectNode c.args.depth ns) (line_said (ExpectNode c.args.depth ns) c.in_ok-line.line.now) (Err c.in-Err.answer)) c.as_slice.ensures.value c.in-Err.ensures in
    line-refused node_line_value c.args.limits (ExpectNode c.args.depth inside) c.args.location c.in_ok-line.behind c.in_ok-line.line.now 0 c.in-Err.answer c.answer_here.result c.in_ok-line.ensures read c.answer_here.ensures
