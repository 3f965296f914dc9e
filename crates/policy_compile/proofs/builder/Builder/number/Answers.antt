use Rattle.std.proofs.Common.{refl}
use Rattle.policy_compile.proofs.Asking.{still-few-after, test-put}
use Rattle.policy_compile.proofs.builder.Builder.number.Goals as goal

pub invariant_of-self : goal.invariant_of-self
invariant_of-self c = record {
  few = still-few-after c.args.self.now.tests.keys c.insert_full.new.self.keys c.args.test c.insert_full.result c.insert_full.ensures.keys c.insert_full.ensures.err c.args.self.now.few c.requires;
  earlier = c.args.self.now.earlier;
}

pub returns : goal.returns
returns c =
    let stored = c.in_ok-number.ensures.stored in
    let put = test-put c.args.self.now.tests.keys c.insert_full.new.self.keys c.args.test stored.0 c.in_ok-number.number c.in_ok-number.ensures.keys stored.1 stored.2 in
    record { collects = put.0; nodes = refl; at = put.1 }
