use Rattle.std.proofs.Common.{◌≡◌, ◌++◌, flat_map, string_bytes, take}
use Rattle.proof_text.specs.Laws.{ArePlacesSmall}
use Rattle.proof_text.specs.Lines.{line_text, places_line}
use Rattle.proof_text.proofs.write.put_states.Given as goal

abbrev pub invariant-loop-i : goal.invariant-loop-i
invariant-loop-i l = record {
  text : string_bytes l.text ≡ string_bytes l.fn.text ++ flat_map (λ lists. line_text (places_line lists)) (take l.i l.closed);
  small : ArePlacesSmall (take l.i l.closed);
}
