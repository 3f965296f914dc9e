use Rattle.std.proofs.Common.{refl}
use Rattle.findings.proofs.Sets.{inserted, inserted-copy}
use Rattle.findings.proofs.walk.Walk.add_reducible.Goals as goal

pub returns : goal.returns
returns c = record {
  coming = c.in_ok-add_copies.ensures;
  looked = λ new. inserted-copy c.args.self.now.looked.keys c.insert.new.self.keys c.args.finding c.in_ok-copy_of.field-0 c.in_ok-copy_of.ensures c.in_ok-insert.ensures.keys new;
  reducible = λ new. inserted c.args.self.now.reducible.keys c.insert-2.new.self.keys c.args.finding c.in_ok-insert-2.ensures.keys new;
  found = refl;
}
