use Rattle.std.proofs.Common.{◌≡◌, ◌≤◌, ◌+◌, List, ℕ, [], ◌∷◌, All, drop, length, ap, arith, sym, subst, ◌∙◌}
use Rattle.std.proofs.lemmas.List.{drop_all, drop_more}
use Rattle.std.proofs.lemmas.List.Elements.{All-nil}
use Rattle.text_table.proofs.Laws.{walk-next}
use Rattle.json_shapes.specs.Checks.{first_fault}
use Rattle.json_shapes.proofs.Laws.{first_fault-rest, refused}
use Rattle.policy_model.specs.Requests.{HasValue}
use Rattle.request_json.specs.RequestKeys.{presence_check, presence_checks}
use Rattle.request_json.proofs.required.require_values.Goals as goal

pub loop-key-preserved : goal.loop-key-preserved
loop-key-preserved c =
    let context = c.args.context.now in
    let i = c.loop-key.key-index in
    let key = c.key-item.result in
    let left = drop (i + 1) c.args.keys.now in
    let split : drop i c.args.keys.now ≡ key ∷ left = drop_more c.args.keys.now i key c.loop-key-test.true ∙ ap (λ (k : List ℕ). k ∷ left) (sym c.key-item.is) in
    record {
      faults =
          c.loop-key.invariant.faults ∙ ap (λ (keys : List (List ℕ)). first_fault (presence_checks context keys)) split
          ∙ first_fault-rest (presence_check context key ∷ []) (presence_checks context left) c.in_ok-require_value.ensures.read.0;
      there = walk-next (HasValue context) _ _ _ _ split c.loop-key.invariant.there c.in_ok-require_value.ensures.there;
    }

pub returns-in_err-require_value-clause-read : goal.returns-in_err-require_value-clause-read
returns-in_err-require_value-clause-read c =
    let context = c.args.context.now in
    let i = c.loop-key.key-index in
    let key = c.key-item.result in
    let left = drop (i + 1) c.args.keys.now in
    let split : drop i c.args.keys.now ≡ key ∷ left = drop_more c.args.keys.now i key c.loop-key-test.true ∙ ap (λ (k : List ℕ). k ∷ left) (sym c.key-item.is) in
    let same = c.loop-key.invariant.faults ∙ ap (λ (keys : List (List ℕ)). first_fault (presence_checks context keys)) split in
    refused (presence_checks context c.args.keys.now) (presence_check context key ∷ []) (presence_checks context left) tt _ _ same c.in_err-require_value.ensures.read c.from_residual.ensures.1

pub returns-clause-there : goal.returns-clause-there
returns-clause-there c =
    let past : length c.args.keys.now ≤ c.loop-key.key-index = omega (arith, c.loop-key-test.false) in
    let none : drop c.loop-key.key-index c.args.keys.now ≡ [] = drop_all c.loop-key.key-index c.args.keys.now past in
    c.loop-key.invariant.there.1 (subst (All (HasValue c.args.context.now)) (sym none) (All-nil (HasValue c.args.context.now)))
