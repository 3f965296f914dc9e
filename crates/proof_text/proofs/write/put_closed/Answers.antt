use Rattle.std.proofs.Common.{◌≡◌, ap, sym, flat_map, length, string_bytes, ◌++◌}
use Rattle.std.proofs.lemmas.List.Folds.{flat_map-map}
use Rattle.proof_text.specs.Lines.{closed_line, line_text, places_line}
use Rattle.proof_text.specs.Spelling.{closed_lines}
use Rattle.proof_text.proofs.Joined.{grown-two}
use Rattle.proof_text.proofs.write.put_closed.Goals as goal

pub returns-clause-text : goal.returns-clause-text
returns-clause-text c =
    let set = c.args.closed.now in
    let count : string_bytes c.put_with_number.new.text ≡ string_bytes c.args.text.now ++ line_text (closed_line (length set)) = rw (← c.len.ensures) c.in_ok-put_with_number.ensures in
    let states : string_bytes c.put_states.new.text ≡ string_bytes c.put_with_number.new.text ++ flat_map (λ lists. line_text (places_line lists)) set =
    c.in_ok-put_states.ensures.text in
    grown-two (string_bytes c.args.text.now) (string_bytes c.put_with_number.new.text) (string_bytes c.put_states.new.text)
    (line_text (closed_line (length set))) (flat_map (λ lists. line_text (places_line lists)) set) (flat_map line_text (closed_lines set))
    count states (ap (λ r. line_text (closed_line (length set)) ++ r) (sym (flat_map-map line_text places_line set)))
