use Rattle.std.proofs.Common.{◌≡◌, codes, flat_map, string_bytes, ◌++◌, ◌∷◌, []}
use Rattle.proof_text.specs.Lines.{line_text, places_line, places_part}
use Rattle.proof_text.proofs.Joined.{grown-three, line-joined}
use Rattle.proof_text.proofs.write.put_state.Goals as goal

pub returns-clause-text : goal.returns-clause-text
returns-clause-text c =
    let lists = c.args.state.now in
    let parts : string_bytes c.put_parts.new.text ≡ string_bytes c.push_str.new.self ++ flat_map (λ places. 32 ∷ places_part places) lists =
    c.in_ok-put_parts.ensures.text in
    grown-three (string_bytes c.args.text.now) (string_bytes c.push_str.new.self) (string_bytes c.put_parts.new.text) (string_bytes c.push_str-2.new.self)
    (codes "places") (flat_map (λ places. 32 ∷ places_part places) lists) (10 ∷ []) (line_text (places_line lists))
    c.in_ok-push_str.ensures.bytes parts c.in_ok-push_str-2.ensures.bytes (line-joined places_part (codes "places") lists)
