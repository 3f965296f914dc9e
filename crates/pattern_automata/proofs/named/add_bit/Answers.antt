use Rattle.std.proofs.Common.{List, subst}
use Rattle.pattern_automata.specs.declared.named.Named.{Named}
use Rattle.pattern_automata.specs.Named.{HasNone, IsPosition}
use Rattle.pattern_automata.proofs.Telling.{push-adds, set-adds}
use Rattle.pattern_automata.proofs.named.add_bit.Goals as goal

pub returns-in-Some : goal.returns-in-Some
returns-in-Some c =
    set-adds c.args.named.now.items c.args.c c.with_bit-bits.result c.args.bit c.in-Some.i c.index.result.now
    (subst (λ (x : List Named). IsPosition c.args.c x c.in-Some.i) c.as_slice.ensures.value c.in-Some.ensures) c.index.ensures c.with_bit-bits.ensures

pub returns-in_ok-push-in-None : goal.returns-in_ok-push-in-None
returns-in_ok-push-in-None c =
    push-adds c.args.named.now.items c.push.new.self.items c.args.c c.with_bit-bits-in-None.result c.args.bit c.in_ok-push-in-None.ensures.items
    (subst (λ (x : List Named). HasNone c.args.c x) c.as_slice.ensures.value c.in-None.ensures) c.with_bit-bits-in-None.ensures
