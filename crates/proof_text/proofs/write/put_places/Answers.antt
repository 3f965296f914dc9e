use Rattle.std.proofs.Common.{◌≡◌, ap, decimal, flat_map, string_bytes, sym, ◌∙◌, ◌++◌, ◌∷◌}
use Rattle.proof_text.specs.Lines.{places_part}
use Rattle.proof_text.proofs.Joined.{grown-two, joined}
use Rattle.proof_text.proofs.write.put_places.Goals as goal

pub returns-clause-text : goal.returns-clause-text
returns-clause-text c =
    let first = c.in-Some.first.now in
    let others = c.in-Some.others.now in
    let number : string_bytes c.put_number.new.text ≡ string_bytes c.args.text.now ++ decimal first = rw (← c.from.ensures) c.in_ok-put_number.ensures in
    let parts : places_part (first ∷ others) ≡ places_part c.args.places.now = ap places_part (sym c.in-Some.ensures.cases.0) in
    grown-two (string_bytes c.args.text.now) (string_bytes c.put_number.new.text) (string_bytes c.put_numbers.new.text)
    (decimal first) (flat_map (λ n. 44 ∷ decimal n) others) (places_part c.args.places.now)
    number c.in_ok-put_numbers.ensures.text (joined 44 decimal (decimal first) others ∙ parts)
