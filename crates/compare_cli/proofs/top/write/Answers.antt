use Rattle.std.proofs.Common.{refl, rules}
use Rattle.std.specs.Prelude.{string_bytes}
use Rattle.pol_outside.specs.Sink.{Appends}
use Rattle.compare_cli.specs.Promises.{Writing}
use Rattle.compare_cli.proofs.Writing.{written_whole}
use Rattle.compare_cli.proofs.top.write.Goals as goal

pub returns-in-Ok-clause-written : goal.returns-in-Ok-clause-written
returns-in-Ok-clause-written g c =
    let w : Writing = record {
      faults_before = g.S.Sink.faults c.args.out.now;
      faults = g.S.Sink.faults c.put_all.new.out;
      before = g.S.Sink.written c.args.out.now;
      now = g.S.Sink.written c.put_all.new.out;
    } in
    let whole : Appends (g.S.Sink.written c.args.out.now) (string_bytes c.args.printed.now.text) (g.S.Sink.written c.put_all.new.out) = search rules in
    written_whole c.args.printed.now w c.args.printed.now.status refl c.requires whole

-- The search finds this unasked; asked for here, a wrong body is refused without a longer search.
pub returns-in-Err-clause-written : goal.returns-in-Err-clause-written
returns-in-Err-clause-written g c = search rules
