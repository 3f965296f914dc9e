use Rattle.std.proofs.Common.{◌≡◌, codes, decimal, flat_map, string_bytes, refl, ◌++◌, ◌∷◌, []}
use Rattle.proof_text.specs.Lines.{answer_part, label_line, line_text}
use Rattle.proof_text.proofs.Joined.{grown-three, grown-two, label-joined}
use Rattle.proof_text.proofs.write.put_label.Goals as goal

pub returns : goal.returns
returns c =
    let n = c.args.number in
    let given = c.args.answers.now in
    let number : string_bytes c.put_number.new.text ≡ string_bytes c.push_str.new.self ++ decimal n = rw (← c.from.ensures) c.in_ok-put_number.ensures in
    let start = grown-two (string_bytes c.args.text.now) (string_bytes c.push_str.new.self) (string_bytes c.put_number.new.text) (codes "label ") (decimal n) (codes "label " ++ decimal n)
    c.in_ok-push_str.ensures.bytes number refl in
    grown-three (string_bytes c.args.text.now) (string_bytes c.put_number.new.text) (string_bytes c.put_answers.new.text) (string_bytes c.push_str-2.new.self)
    (codes "label " ++ decimal n) (flat_map (λ p. 32 ∷ answer_part p) given) (10 ∷ []) (line_text (label_line n given))
    start c.in_ok-put_answers.ensures c.in_ok-push_str-2.ensures.bytes (label-joined n given)
