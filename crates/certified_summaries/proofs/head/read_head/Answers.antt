use Rattle.std.proofs.Common.{arith}
use Rattle.std.proofs.lemmas.Result.{err_from_is_err_and}
use Rattle.certified_summaries.proofs.Heading.{head-fails, so-far-pair}
use Rattle.certified_summaries.proofs.head.read_head.Goals as goal

pub returns-in_err-pair : goal.returns-in_err-pair
returns-in_err-pair c =
    let p = err_from_is_err_and c.from_residual-in_err-pair.result c.from_residual-in_err-pair.ensures.1 in
    rw (p.1, p.2) (head-fails c.args.reader.now c.args.strata.now.dimensions c.args.bytes.now c.pairs.rest.now c.in-Some.count c.pairs.place _ c.pairs.pairs _ c.pairs.invariant.1 (omega arith) (omega arith) c.in_err-pair.ensures)

pub pairs-preserved : goal.pairs-preserved
pairs-preserved c = (
  c.pairs.invariant.0,
  so-far-pair c.args.reader.now c.args.strata.now.dimensions c.args.bytes.now c.pairs.rest.now c.in_ok-pair.behind.now c.in-Some.count c.pairs.place c.pairs.pairs c.push.new.self c.in_ok-pair.pair c.pairs.invariant.1 c.in_ok-pair.ensures c.in_ok-push.ensures.ok,
)
