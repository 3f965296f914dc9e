use Rattle.std.proofs.Common.{◌≡◌, [], length, sym}
use Rattle.std.proofs.lemmas.Result.{IfOk-from_err}
use Rattle.formula_tree.specs.Values.{value}
use Rattle.formula_tree.specs.declared.value.Three.TheVariants.{No}
use Rattle.policy_compile.specs.Queries.{asked_tree}
use Rattle.cnf_clauses.specs.Following.{IsConflictAt}
use Rattle.cnf_clauses.specs.Numbering.{clauses_of}
use Rattle.tree_search.proofs.Starting.{whole-clauses, whole-value}
use Rattle.tree_search.proofs.deciding.found_of.Goals as goal

pub returns-in-No : goal.returns-in-No
returns-in-No c =
    let query = c.args.query.now in
    let is_no : value [] (asked_tree query) ≡ No = sym (rw (c.deref.ensures, c.new.ensures) at c.in-No.ensures) in
    whole-value c.args.schema.now query c.args.budgets c.in_ok-value_part.field-0 c.requires.below c.in_ok-value_part.ensures is_no

pub returns-in_ok-clauses_part-in-Met : goal.returns-in_ok-clauses_part-in-Met
returns-in_ok-clauses_part-in-Met c =
    let query = c.args.query.now in
    let met : IsConflictAt c.in_ok-clauses.clauses [] c.in-Met.conflict = rw c.in-Met.is at c.in_ok-clauses-2.ensures in
    let clauses : c.in_ok-clauses.clauses ≡ clauses_of (length query.tests) (asked_tree query) = rw (c.deref-2.ensures, c.len.ensures) at c.in_ok-clauses.ensures in
    let conflict : IsConflictAt (clauses_of (length query.tests) (asked_tree query)) [] c.in-Met.conflict = rw clauses at met in
    whole-clauses c.args.schema.now query c.args.budgets c.in_ok-clauses_part-in-Met.field-0 c.in-Met.conflict c.requires.below c.in_ok-clauses_part-in-Met.ensures conflict

pub returns-in-Quiet : goal.returns-in-Quiet
returns-in-Quiet c = c.begin.ensures

-- ---- want of memory, of which nothing is said

pub returns-in_err-value_part : goal.returns-in_err-value_part
returns-in_err-value_part c = IfOk-from_err _ _ c.from_residual.ensures.0

pub returns-in_err-clauses : goal.returns-in_err-clauses
returns-in_err-clauses c = IfOk-from_err _ _ c.from_residual-in_err-clauses.ensures.0

pub returns-in_err-clauses-2 : goal.returns-in_err-clauses-2
returns-in_err-clauses-2 c = IfOk-from_err _ _ c.from_residual-in_err-clauses-2.ensures.0

pub returns-in_err-clauses_part-in-Met : goal.returns-in_err-clauses_part-in-Met
returns-in_err-clauses_part-in-Met c = IfOk-from_err _ _ c.from_residual-in_err-clauses_part-in-Met.ensures.0
