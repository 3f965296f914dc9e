-- The first node whose own rule fails: it is one of the refutation's, there is at most one, and none where the refutation closes.
use Rattle.std.proofs.Common.{◌≡◌, ◌<◌, ◌+◌, ℕ, List, [], refl, sym, ap, ◌∙◌, arith}
use Rattle.formula_tree.specs.Answers.{Answers}
use Rattle.formula_tree.specs.Trees.{Tree, tree_of}
use Rattle.policy_model.specs.declared.schema.Schema.{Schema}
use Rattle.policy_model.specs.declared.test.Test.{Test}
use Rattle.refute_check.specs.declared.verdict.Verdict.TheVariants.{Closes as closes, Fails}
use Rattle.refute_check.specs.Closing.{Before, Closes, FailsAt, OwnRule, at_first, here, in_label, in_no, in_yes}
use Rattle.refute_check.specs.Proofs.{Proof, by_clauses, by_slot, by_value, label, proof_of, reuse, size, split}
use Rattle.refute_check.specs.Verdicts.{VerdictsAreEqual}

pub size_above : (p : Proof) → 0 < size p
size_above (split n y z) = omega arith
size_above by_value = omega arith
size_above (by_slot core proof) = omega arith
size_above (by_clauses hints) = omega arith
size_above (label n answers p) = omega arith
size_above (reuse n) = omega arith

module _ (schema : Schema) (tests : List Test) (tree : Tree) where
  abbrev Fails_at : Before → Proof → Answers → ℕ → Type 0
  Fails_at before p path node = FailsAt schema tests tree before p path node

  -- what closes keeps its first node's rule
  pub own-of : (before : Before) (p : Proof) (path : Answers) → Closes schema tests tree before p path → OwnRule schema tests tree before p path
  own-of before (split n y z) path closed = closed.0
  own-of before by_value path closed = closed
  own-of before (by_slot core proof) path closed = closed
  own-of before (by_clauses hints) path closed = closed
  own-of before (label n answers p) path closed = closed.0
  own-of before (reuse n) path closed = closed

  -- the node that fails is one of the refutation's
  pub fails-within : (before : Before) (p : Proof) (path : Answers) (node : ℕ) → Fails_at before p path node → node < size p
  fails-within before p path node (here broken) = size_above p
  fails-within before (split n y z) path node (in_yes {k = k} own fails is) = omega (arith, fails-within before y _ k fails, is, size_above z)
  fails-within before (split n y z) path node (in_no {k = k} own first fails is) = omega (arith, fails-within _ z _ k fails, is)
  fails-within before (label n answers p) path node (in_label {k = k} own fails is) = omega (arith, fails-within _ p answers k fails, is)

  -- what closes doesn't fail
  pub fails-not-closes : (before : Before) (p : Proof) (path : Answers) (node : ℕ) → Fails_at before p path node → Closes schema tests tree before p path → ⊥
  fails-not-closes before p path node (here broken) closed = broken (own-of before p path closed)
  fails-not-closes before (split n y z) path node (in_yes {k = k} own fails is) closed = fails-not-closes before y _ k fails closed.1
  fails-not-closes before (split n y z) path node (in_no {k = k} own first fails is) closed = fails-not-closes _ z _ k fails closed.2
  fails-not-closes before (label n answers p) path node (in_label {k = k} own fails is) closed = fails-not-closes _ p answers k fails closed.1

  -- and no other node fails first
  pub one-failure : (before : Before) (p : Proof) (path : Answers) (i j : ℕ) → Fails_at before p path i → Fails_at before p path j → i ≡ j
  one-failure before p path i j (here broken) (here other) = refl
  one-failure before (split n y z) path i j (here broken) (in_yes own fails is) = absurd (broken own)
  one-failure before (split n y z) path i j (here broken) (in_no own first fails is) = absurd (broken own)
  one-failure before (label n answers p) path i j (here broken) (in_label own fails is) = absurd (broken own)
  one-failure before (split n y z) path i j (in_yes own fails is) (here broken) = absurd (broken own)
  one-failure before (split n y z) path i j (in_yes {k = k} own fails is) (in_yes {k = m} other more also) = is ∙ ap (λ x. x + 1) (one-failure before y _ k m fails more) ∙ sym also
  one-failure before (split n y z) path i j (in_yes {k = k} own fails is) (in_no other first more also) = absurd (fails-not-closes before y _ k fails first)
  one-failure before (split n y z) path i j (in_no own first fails is) (here broken) = absurd (broken own)
  one-failure before (split n y z) path i j (in_no own first fails is) (in_yes {k = m} other more also) = absurd (fails-not-closes before y _ m more first)
  one-failure before (split n y z) path i j (in_no {k = k} own first fails is) (in_no {k = m} other again more also) = is ∙ ap (λ x. x + size y + 1) (one-failure _ z _ k m fails more) ∙ sym also
  one-failure before (label n answers p) path i j (in_label own fails is) (here broken) = absurd (broken own)
  one-failure before (label n answers p) path i j (in_label {k = k} own fails is) (in_label {k = m} other more also) = is ∙ ap (λ x. x + 1) (one-failure _ p answers k m fails more) ∙ sym also

pub one-verdict : VerdictsAreEqual
one-verdict schema q r closes closes this that = refl
one-verdict schema q r closes (Fails m) this that = absurd (fails-not-closes schema q.tests (tree_of q.formula.value) at_first (proof_of r) [] m that this)
one-verdict schema q r (Fails n) closes this that = absurd (fails-not-closes schema q.tests (tree_of q.formula.value) at_first (proof_of r) [] n this that)
one-verdict schema q r (Fails n) (Fails m) this that = ap Fails (one-failure schema q.tests (tree_of q.formula.value) at_first (proof_of r) [] n m this that)
