use Rattle.std.proofs.Common.{rules, sym}
use Rattle.json_shapes.proofs.Readings.{json_of-some, json_of-none}
use Rattle.json_shapes.proofs.read.read_json.Goals as goal

pub returns-in-Ok : goal.returns-in-Ok
returns-in-Ok c = sym (json_of-some c.args.bytes.now _ c.in-Ok.ensures.ok.0 c.in-Ok.ensures.ok.1)

pub returns-else-is_memory : goal.returns-else-is_memory
returns-else-is_memory c = sym (json_of-none c.args.bytes.now (c.in-Err.ensures.err (λ m. let f = c.if-is_memory.ensures.1 m in search rules)))
