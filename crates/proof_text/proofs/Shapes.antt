-- Nodes as plain trees.
use Rattle.std.proofs.Common.{◌≡◌, ℕ, List, Global, rules, ap, ◌∙◌}
use Rattle.std.specs.declared.rc.Rc.{Rc}
use Rattle.formula_tree.specs.Answers.{Answers}
use Rattle.refute_check.specs.Proofs.{by_clauses, by_value, label, proof_of, reuse, split}
use Rattle.refute_check.specs.declared.refutation.Refutation.{Refutation, the_lemmas}
use Rattle.refute_check.specs.declared.refutation.Refutation.TheVariants.{ByClauses, ByValue, Label, Reuse, Split}

pub of-split : (n : ℕ) (y z : Rc Refutation Global) (r : Refutation) → r ≡ Split n y z → proof_of r ≡ split n (proof_of y.value) (proof_of z.value)
of-split n y z r is = ap proof_of is ∙ search (rules, the_lemmas)

pub of-value : (r : Refutation) → r ≡ ByValue → proof_of r ≡ by_value
of-value r is = ap proof_of is ∙ search (rules, the_lemmas)

pub of-clauses : (hints : List ℕ) (r : Refutation) → r ≡ ByClauses hints → proof_of r ≡ by_clauses hints
of-clauses hints r is = ap proof_of is ∙ search (rules, the_lemmas)

pub of-label : (n : ℕ) (given : Answers) (inner : Rc Refutation Global) (r : Refutation) → r ≡ Label n given inner → proof_of r ≡ label n given (proof_of inner.value)
of-label n given inner r is = ap proof_of is ∙ search (rules, the_lemmas)

pub of-reuse : (n : ℕ) (r : Refutation) → r ≡ Reuse n → proof_of r ≡ reuse n
of-reuse n r is = ap proof_of is ∙ search (rules, the_lemmas)
