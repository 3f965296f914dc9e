use Rattle.call_cases.proofs.Given.{schema-with}
use Rattle.call_cases.proofs.schemas.add_key.Goals as goal

pub returns : goal.returns
returns c = schema-with c.args.schema.now c.insert.new.self c.in_ok-key.key c.in_ok-rule.rule c.requires c.in_ok-rule.ensures c.in_ok-insert.ensures.ok
