use Rattle.cnf_clauses.proofs.index.add_clause.Goals as goal

pub returns : goal.returns
returns c =
    let lists = c.add_short.ensures.lists in
    record {
      held = λ l h. rw (lists l) (c.in_ok-add_literals.ensures.named l h);
      kept = λ l i h. rw (lists l) (c.in_ok-add_literals.ensures.kept l i h);
      short = c.in_ok-add_short.ensures.noted;
      kept_short = λ i h. c.in_ok-add_short.ensures.kept i (rw c.add_literals.ensures.short h);
    }
