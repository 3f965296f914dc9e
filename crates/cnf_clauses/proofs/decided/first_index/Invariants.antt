use Rattle.std.proofs.Common.{◌≡◌, take, None}
use Rattle.formula_tree.specs.Answers.{answer_of}
use Rattle.cnf_clauses.proofs.decided.first_index.Given as goal

abbrev pub invariant-literals : goal.invariant-literals
invariant-literals l = answer_of (take l.index l.literals) l.variable ≡ None
