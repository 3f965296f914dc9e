-- The search finds this unasked; written out here, a wrong body is refused at once.
use Rattle.std.proofs.Common.{◌≡◌}
use Rattle.std.proofs.lemmas.Bool.Decides.{Decides-eqb}
use Rattle.pattern_automata.proofs.search.is_same.Goals as goal

pub returns : goal.returns
returns c = λ yes.
    let differs : c.args.patch.differs ≡ c.args.other.differs = (Decides-eqb c.args.patch.differs c.args.other.differs).0 yes in
    λ i. record {
      index = c.if-patch-other.false i;
      one = c.if-patch-other-2.false i;
      stay = c.if-patch-other-3.false i;
      differs = differs i;
    }
