use Rattle.std.proofs.Common.{◌∙◌, ◌<◌, All, List, arith, refl, subst, sym}
use Rattle.std.proofs.lemmas.List.{take_all}
use Rattle.std.proofs.lemmas.List.Elements.{All-more}
use Rattle.value_theory.specs.declared.clause.Literal.{Literal}
use Rattle.value_theory.proofs.clause.are_in_range.Goals as goal

pub loop-clause-preserved : goal.loop-clause-preserved
loop-clause-preserved c =
    let named : List Literal → Type 0 = All (λ (l : Literal). l.pattern < c.args.count) in
    let here = subst named (c.as_slice.ensures ∙ c.clause-item.is) (c.is_in_range.ensures.0 c.if-not-is_in_range.false) in
    All-more named c.args.clauses.now c.loop-clause.clause-index c.clause-item.result c.loop-clause-test.true c.loop-clause.invariant here

pub returns-then-not-is_in_range : goal.returns-then-not-is_in_range
returns-then-not-is_in_range c = (
  λ h. absurd (cc),
  λ all.
      let named : List Literal → Type 0 = All (λ (l : Literal). l.pattern < c.args.count) in
      let one = subst named (sym (c.as_slice.ensures ∙ c.clause-item.is)) (all c.loop-clause.clause-index c.clause-item.result c.loop-clause-test.true) in
      sym c.if-not-is_in_range.true ∙ c.is_in_range.ensures.1 one,
)

pub returns : goal.returns
returns c = (
  λ _. subst (All (All (λ (l : Literal). l.pattern < c.args.count))) (take_all c.loop-clause.clause-index c.args.clauses.now (omega (arith, c.loop-clause-test.false))) c.loop-clause.invariant,
  λ _. refl,
)
