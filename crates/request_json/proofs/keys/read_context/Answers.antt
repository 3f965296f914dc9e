use Rattle.std.proofs.Common.{[]}
use Rattle.serde_json.specs.View.{view, members_view}
use Rattle.json_shapes.specs.Json.{pairs_of}
use Rattle.json_shapes.proofs.Laws.{pairs_from, refused}
use Rattle.request_json.specs.RequestKeys.{checks_by_rule, context_checks, context_from, rule_at}
use Rattle.request_json.proofs.Apart.{FileKey}
use Rattle.request_json.proofs.KeysRead.{next-faults, reads-key}
use Rattle.request_json.proofs.keys.read_context.Goals as goal

pub returns-in_err-context-clause-read : goal.returns-in_err-context-clause-read
returns-in_err-context-clause-read c =
    let key : FileKey = (c.as_str.result.now, view c.in-Some.values.now) in
    let keys = c.args.keys.now in
    let all = pairs_of (members_view c.args.given.now.entries) in
    let next = pairs_of (members_view c.next.new.self) in
    let here = pairs_from c.loop-name.name-iterator c.next.new.self c.in-Some.name.now c.in-Some.values.now c.as_str.result.now c.in-Some.ensures.steps c.as_str.ensures.value in
    let same = next-faults keys all _ next key c.loop-name.context c.loop-name.invariant.read here in
    refused (context_checks keys all) (checks_by_rule (rule_at keys key.0) key) (context_checks keys next) (context_from keys [] all) _ _ same c.in_err-context.ensures.read c.from_residual.ensures.1

pub loop-name-preserved : goal.loop-name-preserved
loop-name-preserved c =
    let key : FileKey = (c.as_str.result.now, view c.in-Some.values.now) in
    let keys = c.args.keys.now in
    let all = pairs_of (members_view c.args.given.now.entries) in
    let next = pairs_of (members_view c.next.new.self) in
    let here = pairs_from c.loop-name.name-iterator c.next.new.self c.in-Some.name.now c.in-Some.values.now c.as_str.result.now c.in-Some.ensures.steps c.as_str.ensures.value in
    record {
      can_next = tt;
      is_finite = tt;
      read = reads-key keys all _ next key c.loop-name.context c.loop-name.invariant.read here c.in_ok-context.context c.in_ok-context.ensures.read.0 c.in_ok-context.ensures.read.1 c.in_ok-context.ensures.valid;
    }
