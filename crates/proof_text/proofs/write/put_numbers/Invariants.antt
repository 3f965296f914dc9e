use Rattle.std.proofs.Common.{◌≡◌, ◌++◌, decimal, flat_map, string_bytes, take}
use Rattle.proof_text.specs.Laws.{AreSmall}
use Rattle.proof_text.proofs.write.put_numbers.Given as goal

abbrev pub invariant-loop-number : goal.invariant-loop-number
invariant-loop-number l = record {
  text : string_bytes l.text ≡ string_bytes l.fn.text ++ flat_map (λ n. l.between ++ decimal n) (take l.number-index l.numbers);
  small : AreSmall (take l.number-index l.numbers);
}
