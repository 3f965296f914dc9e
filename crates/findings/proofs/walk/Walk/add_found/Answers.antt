use Rattle.std.proofs.Common.{refl}
use Rattle.findings.proofs.Sets.{inserted-copy}
use Rattle.findings.proofs.Passing.{found-added}
use Rattle.findings.proofs.walk.Walk.add_found.Goals as goal

pub returns : goal.returns
returns c = record {
  coming = refl;
  looked = λ new. inserted-copy c.args.self.now.looked.keys c.insert.new.self.keys c.args.finding c.in_ok-copy_of.field-0 c.in_ok-copy_of.ensures c.in_ok-insert.ensures.keys new;
  reducible = refl;
  found = found-added c.args.self.now.found.entries c.insert-2.new.self.entries c.into_vec.result c.args.finding c.args.request c.into_vec.ensures c.in_ok-insert-2.ensures.entries;
}
