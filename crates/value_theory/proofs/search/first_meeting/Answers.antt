use Rattle.std.proofs.Common.{◌≡◌, false, sym, ◌∙◌, subst, arith}
use Rattle.std.proofs.lemmas.Grind.{common_steps}
use Rattle.std.proofs.lemmas.List.Elements.{All-more}
use Rattle.value_theory.specs.declared.kinds.PlainValue.{PlainValue}
use Rattle.value_theory.specs.Solutions.{meets_clauses}
use Rattle.value_theory.proofs.search.first_meeting.Goals as goal

pub loop-index-preserved : goal.loop-index-preserved
loop-index-preserved c =
    let P : PlainValue → Type 0 = λ p. meets_clauses c.args.conds.now c.args.clauses.now p ≡ false in
    let here = subst P c.index-points-index.is (sym c.meets_clauses.ensures ∙ c.if-meets_clauses.false) in
    All-more P c.args.points.now c.loop-index.index c.index-points-index.result c.loop-index-test.true c.loop-index.invariant here

pub returns-then-meets_clauses : goal.returns-then-meets_clauses
returns-then-meets_clauses c = grind (arith, common_steps)
