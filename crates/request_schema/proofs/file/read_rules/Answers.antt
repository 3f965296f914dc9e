use Rattle.std.proofs.Common.{◌∷◌, [], refl}
use Rattle.serde_json.specs.View.{view, members_view}
use Rattle.json_shapes.specs.Json.{pairs_of}
use Rattle.json_shapes.proofs.Laws.{pairs_from, refused}
use Rattle.request_schema.specs.BuiltIn.{built_in_rules, with_rules}
use Rattle.request_schema.specs.SchemaRules.{is_noted, keys_checks, rule_checks, rule_of, rules_of}
use Rattle.request_schema.proofs.Keys.{FileKey, next-faults, reads-key}
use Rattle.request_schema.proofs.file.read_rules.Goals as goal

pub returns-in_err-add_rule-clause-read : goal.returns-in_err-add_rule-clause-read
returns-in_err-add_rule-clause-read c =
    let key : FileKey = (c.as_str.result.now, view c.in-Some.rule.now) in
    let all = pairs_of (members_view c.args.keys.now.entries) in
    let next = pairs_of (members_view c.next.new.self) in
    let here = pairs_from c.loop-name.name-iterator c.next.new.self c.in-Some.name.now c.in-Some.rule.now c.as_str.result.now c.in-Some.ensures.steps c.as_str.ensures.value in
    let so_far = c.loop-name.invariant.read in
    let twice = is_noted c.loop-name.seen key.0 in
    let same = next-faults c.args.second twice all _ next key c.loop-name.seen c.loop-name.rules so_far here refl in
    refused (keys_checks c.args.second [] all) (rule_checks c.args.second twice key) (keys_checks c.args.second (key.0 ∷ so_far.before) next) (with_rules built_in_rules (rules_of all)) _ _ same c.in_err-add_rule.ensures.read c.from_residual-in_err-add_rule.ensures.1

pub loop-name-preserved : goal.loop-name-preserved
loop-name-preserved c =
    let key : FileKey = (c.as_str.result.now, view c.in-Some.rule.now) in
    let all = pairs_of (members_view c.args.keys.now.entries) in
    let next = pairs_of (members_view c.next.new.self) in
    let here = pairs_from c.loop-name.name-iterator c.next.new.self c.in-Some.name.now c.in-Some.rule.now c.as_str.result.now c.in-Some.ensures.steps c.as_str.ensures.value in
    let twice = is_noted c.loop-name.seen key.0 in
    record {
      can_next = tt;
      is_finite = tt;
      read = reads-key c.args.second twice all _ next key c.loop-name.seen c.loop-name.rules c.loop-name.invariant.read here refl (rule_of key.1) _ _ c.in_ok-add_rule.ensures.read.0 refl c.in_ok-add_rule.ensures.sound c.in_ok-add_rule.ensures.noted c.in_ok-add_rule.ensures.added;
    }
