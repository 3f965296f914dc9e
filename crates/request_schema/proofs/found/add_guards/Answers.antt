use Rattle.std.proofs.Common.{◌≡◌, ◌++◌, ℕ, List, length, get_or, drop, ◌+◌, ap, ◌∙◌, arith}
use Rattle.std.specs.Prelude.{sum_by}
use Rattle.std.proofs.lemmas.List.Sums.{sum_by-drop_more}
use Rattle.policy_model.specs.declared.set.Document.{Document}
use Rattle.policy_model.specs.StatementNames.{named_documents, named_guards}
use Rattle.request_schema.specs.Uses.{uses_found, uses_of_statements}
use Rattle.request_schema.proofs.Finding.{all-found, guards-left, no-guards, part-found}
use Rattle.request_schema.proofs.found.add_guards.Goals as goal

pub loop-guard-preserved : goal.loop-guard-preserved
loop-guard-preserved c =
    let x = c.guard-item.result in
    let e : length x ≡ length (get_or c.args.guards.now c.loop-guard.guard-index x) = ap (λ (g : List Document). length g) c.guard-item.is in
    let s : sum_by (λ g. length g) (drop c.loop-guard.guard-index c.args.guards.now) ≡ length (get_or c.args.guards.now c.loop-guard.guard-index x) + sum_by (λ g. length g) (drop (c.loop-guard.guard-index + 1) c.args.guards.now) =
    sum_by-drop_more (λ (g : List Document). length g) c.args.guards.now c.loop-guard.guard-index x c.loop-guard-test.true in
    let left = guards-left c.args.second c.loop-guard.next c.loop-guard.guard-index c.args.guards.now x c.loop-guard-test.true c.guard-item.is in
    let taken = ap (λ (ds : List Document). uses_of_statements c.args.second (named_documents c.loop-guard.next ds)) c.as_slice.ensures in
    let grown = c.in_ok-add_documents.ensures ∙ ap (λ part. uses_found c.loop-guard.uses.items ++ part) taken in
    let same = ap (λ (k : ℕ). uses_of_statements c.args.second (named_guards (c.loop-guard.next + k) (drop (c.loop-guard.guard-index + 1) c.args.guards.now))) c.len-next.ensures in
    record {
      found = ap (λ rest. uses_found c.add_documents.new.uses.items ++ rest) same ∙ part-found _ _ (uses_of_statements c.args.second (named_documents c.loop-guard.next x)) _ _ _ grown left c.loop-guard.invariant.found;
      room = omega arith;
    }

pub returns : goal.returns
returns c = all-found _ _ _ (no-guards c.args.second c.loop-guard.next c.loop-guard.guard-index c.args.guards.now c.loop-guard-test.false) c.loop-guard.invariant.found
