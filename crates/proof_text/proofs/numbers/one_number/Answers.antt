use Rattle.std.proofs.Common.{refl, sym, ap, ◌∙◌, Option, List, ℕ, Bor}
use Rattle.std.specs.Option.{option_copied}
use Rattle.proof_text.proofs.Bytes.{copied-some, one-none}
use Rattle.proof_text.proofs.numbers.one_number.Goals as goal

pub returns-then-is_some : goal.returns-then-is_some
returns-then-is_some c =
    (one-none (option_copied c.args.behind) c.in-Some.text.now c.cut.result.0.now (option_copied c.cut.result.1) (ap (λ (o : Option (Bor (List ℕ))). option_copied o) c.in-Some.is) c.cut.ensures.parts (copied-some c.cut.result.1 (sym c.is_some.ensures ∙ c.if-is_some.true)), refl)
