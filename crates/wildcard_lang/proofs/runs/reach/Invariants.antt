use Rattle.wildcard_lang.proofs.Refusing.{Reaches}
use Rattle.wildcard_lang.proofs.runs.reach.Given as goal

abbrev pub invariant-run : goal.invariant-run
invariant-run g l = Reaches g.X.Taken.taken l.run (g.S.Source.left l.fn.text) l.place (g.S.Source.left l.ahead)
