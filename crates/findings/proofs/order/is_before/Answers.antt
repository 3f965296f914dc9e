use Rattle.findings.proofs.Compared.{before-is}
use Rattle.findings.proofs.order.is_before.Goals as goal

pub returns : goal.returns
returns c = before-is c.args.one.now c.args.other.now c.as_slice.result.now c.as_slice-2.result.now c.cmp.result c.is_lt.result c.as_slice.ensures c.as_slice-2.ensures c.cmp.ensures c.is_lt.ensures
