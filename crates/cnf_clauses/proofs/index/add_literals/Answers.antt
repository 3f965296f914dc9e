use Rattle.std.proofs.Common.{◌∙◌, sym, subst}
use Rattle.std.specs.List.{Contains}
use Rattle.std.proofs.lemmas.List.{take_all}
use Rattle.cnf_clauses.specs.Literals.{Clause}
use Rattle.cnf_clauses.proofs.Indexing.{named-more}
use Rattle.cnf_clauses.proofs.index.add_literals.Goals as goal

pub literals-preserved : goal.literals-preserved
literals-preserved c =
    let more = c.in_ok-add_literal.ensures in (
      named-more c.literals.index c.add_literal.new.index c.args.literals.now c.literals.literal-index c.args.number _ c.literals-test.true c.literals.invariant.0 more.kept more.named,
      λ m i n. more.kept m i (c.literals.invariant.1 m i n),
      more.short ∙ c.literals.invariant.2,
    )

pub returns-clause-named : goal.returns-clause-named
returns-clause-named c = λ l h.
    c.literals.invariant.0 l (subst (λ (x : Clause). Contains x l) (sym (take_all c.literals.literal-index c.args.literals.now c.literals-test.false)) h)
