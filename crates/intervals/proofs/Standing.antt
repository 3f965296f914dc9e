-- What is computed of a value and a bound is how they stand.
use Rattle.std.proofs.Common.{arith}
use Rattle.std.proofs.lemmas.Int.{ints}
use Rattle.std.proofs.lemmas.Bool.Decides.{Decides-int_eq}
use Rattle.intervals.specs.declared.compare.Compare.TheVariants.{Equal, Less, LessOrEqual, Greater, GreaterOrEqual}
use Rattle.intervals.specs.Laws.{StandsToIsComputed}

pub Decides-stands_to : StandsToIsComputed
Decides-stands_to Equal bound value = Decides-int_eq value bound
Decides-stands_to Less bound value = grind (arith, ints)
Decides-stands_to LessOrEqual bound value = grind (arith, ints)
Decides-stands_to Greater bound value = grind (arith, ints)
Decides-stands_to GreaterOrEqual bound value = grind (arith, ints)
