use Rattle.std.proofs.Common.{◌≡◌, ◌++◌, ◌∷◌, flat_map, string_bytes, take}
use Rattle.proof_text.specs.Lines.{answer_part}
use Rattle.proof_text.proofs.write.put_answers.Given as goal

abbrev pub invariant-loop-test : goal.invariant-loop-test
invariant-loop-test l = string_bytes l.text ≡ string_bytes l.fn.text ++ flat_map (λ p. 32 ∷ answer_part p) (take l.test-index l.answers)
