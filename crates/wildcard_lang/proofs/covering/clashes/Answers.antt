use Rattle.std.proofs.Common.{refl}
use Rattle.std.proofs.lemmas.Bool.Decides.{Decides-at}
use Rattle.wildcard_lang.proofs.Including.{Decides-clashes}
use Rattle.wildcard_lang.proofs.covering.clashes.Goals as goal

pub returns : goal.returns
returns c =
    Decides-at _ _ (rw (c.clashing.ensures, c.as_slice.ensures.value, c.as_slice-2.ensures.value) refl) (Decides-clashes c.args.pattern.now c.args.other.now)
