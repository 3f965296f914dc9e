use Rattle.std.proofs.Common.{decimal, flat_map, map, string_bytes, ◌++◌, ◌∷◌, []}
use Rattle.std.specs.List.{join_with_byte}
use Rattle.proof_text.proofs.Joined.{grown-three, line-joined}
use Rattle.proof_text.proofs.write.put_with_numbers.Goals as goal

pub returns-clause-text : goal.returns-clause-text
returns-clause-text c =
    let word = c.args.word.now in
    let ns = c.args.numbers.now in
    grown-three (string_bytes c.args.text.now) (string_bytes c.push_str.new.self) (string_bytes c.put_numbers.new.text) (string_bytes c.push_str-2.new.self)
    word (flat_map (λ n. 32 ∷ decimal n) ns) (10 ∷ []) (join_with_byte 32 (word ∷ map decimal ns) ++ 10 ∷ [])
    c.in_ok-push_str.ensures.bytes c.in_ok-put_numbers.ensures.text c.in_ok-push_str-2.ensures.bytes (line-joined decimal word ns)
