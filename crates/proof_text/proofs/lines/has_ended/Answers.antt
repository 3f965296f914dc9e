use Rattle.std.proofs.Common.{rules, arith, ◌∙◌}
use Rattle.std.proofs.lemmas.List.Sorted.{searched}
use Rattle.proof_text.proofs.Endings.{ended-is}
use Rattle.proof_text.proofs.lines.has_ended.Goals as goal

pub returns : goal.returns
returns c =
    let ns = c.args.around.inside.now in
    let found = searched ns c.args.number c.binary_search.result c.binary_search.ensures.position (λ i j h k. c.requires i j h k) in
    c.is_err.ensures.value ∙ ended-is c.args.around.begun c.args.number ns c.binary_search.result (omega arith) found

pub returns-then-number-around : goal.returns-then-number-around
returns-then-number-around c = search rules
