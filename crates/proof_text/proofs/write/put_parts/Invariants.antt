use Rattle.std.proofs.Common.{◌≡◌, ◌++◌, ◌∷◌, flat_map, string_bytes, take}
use Rattle.proof_text.specs.Laws.{AreListsSmall}
use Rattle.proof_text.specs.Lines.{places_part}
use Rattle.proof_text.proofs.write.put_parts.Given as goal

abbrev pub invariant-loop-i : goal.invariant-loop-i
invariant-loop-i l = record {
  text : string_bytes l.text ≡ string_bytes l.fn.text ++ flat_map (λ places. 32 ∷ places_part places) (take l.i l.state);
  small : AreListsSmall (take l.i l.state);
}
