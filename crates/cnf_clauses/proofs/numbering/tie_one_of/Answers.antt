use Rattle.std.proofs.Common.{◌∙◌}
use Rattle.cnf_clauses.proofs.Indexing.{on_ok}
use Rattle.cnf_clauses.proofs.Tying.{tie-one-of}
use Rattle.cnf_clauses.proofs.numbering.tie_one_of.Goals as goal

pub returns : goal.returns
returns c =
    on_ok c.add_pairs.result _ _
    (λ pairs.
    tie-one-of c.args.next c.as_slice.result.now c.as_slice-2.result.now _ c.args.made.now c.add_long.new.self c.add_pairs.new.self
    (c.as_slice.ensures.value ∙ c.in_ok-variables.ensures) (c.as_slice-2.ensures.value ∙ c.in_ok-variables.ensures) c.in_ok-add_long.ensures pairs)
    c.add_pairs.ensures
