use Rattle.std.proofs.Common.{◌≡◌, List, length, get_or, slice_get, ap, sym, ◌∙◌, arith}
use Rattle.policy_model.specs.declared.set.Document.{Document}
use Rattle.set_questions.proofs.Counting.{behind-guard, in-guard}
use Rattle.set_questions.proofs.names.guard_document.Goals as goal

pub returns-then-left-len : goal.returns-then-left-len
returns-then-left-len c =
    let g = c.guard-item.result in
    let i = c.loop-guard.guard-index in
    let gs = c.args.guards.now in
    let n = c.loop-guard.left in
    let count : c.len.result ≡ length (get_or gs i g) = c.len.ensures ∙ ap (λ (h : List Document). length h) c.guard-item.is in
    c.get.ensures ∙ ap (λ (h : List Document). slice_get h n) c.guard-item.is ∙ sym (in-guard i n gs g c.loop-guard-test.true (omega (arith, count, c.if-left-len.true))) ∙ sym c.loop-guard.invariant

pub loop-guard-preserved : goal.loop-guard-preserved
loop-guard-preserved c =
    let g = c.guard-item.result in
    let i = c.loop-guard.guard-index in
    let gs = c.args.guards.now in
    let n = c.loop-guard.left in
    let count : c.len-left.result ≡ length (get_or gs i g) = c.len-left.ensures ∙ ap (λ (h : List Document). length h) c.guard-item.is in
    let first : c.len.result ≡ length (get_or gs i g) = c.len.ensures ∙ ap (λ (h : List Document). length h) c.guard-item.is in
    rw count (c.loop-guard.invariant ∙ behind-guard i n gs g c.loop-guard-test.true (omega (arith, first, c.if-left-len.false)))
