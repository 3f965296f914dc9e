use Rattle.std.proofs.Common.{arith}
use Rattle.call_cases.proofs.keys.short.Goals as goal

pub returns : goal.returns
returns c = record {
  text = c.len.ensures.text;
  short = omega (arith, c.len.ensures.length, c.if-len-gt-MOST_PIECES.false);
}
