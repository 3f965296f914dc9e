use Rattle.std.proofs.Common.{sym, ap, ◌∙◌, subst, Option, List, ℕ, Bor}
use Rattle.std.specs.Option.{option_copied}
use Rattle.proof_text.specs.LineForms.{some_numbers}
use Rattle.proof_text.specs.Steps.{IsSmallRead, are_small, parts_left}
use Rattle.proof_text.proofs.Bytes.{some-of}
use Rattle.proof_text.proofs.numbers.some_numbers.Goals as goal

pub returns : goal.returns
returns c =
    let same = ap (λ (o : Option (Bor (List ℕ))). some_numbers (parts_left 32 (option_copied o))) c.in-Some.is ∙ some-of c.in-Some.text.now in
    subst (λ (said : Option (List ℕ)). IsSmallRead are_small said c.numbers_in.result) (sym same) c.numbers_in.ensures
