use Rattle.std.proofs.Common.{ℕ, Bool, List, true, false, IfOk, IsSome, IsTrue, All, ◌↔◌, refl, subst}
use Rattle.std.proofs.lemmas.Result.{IfOk-from_err}
use Rattle.formula_tree.specs.Answers.{Answers, answer_of}
use Rattle.formula_tree.specs.Runs.{path_with}
use Rattle.refute_check.specs.Proofs.{proof_of}
use Rattle.search_parts.specs.Shortening.{IsStillClosed}
use Rattle.search_parts.proofs.Fewer.{not-some, sides-all, still-label, still-slot}
use Rattle.search_parts.proofs.shortening.Shortening.+still_closes.Goals as goal

pub sides-returns-clause-still : goal.sides-returns-clause-still
sides-returns-clause-still t c =
    let s = c.args.self.now in
    let n = c.args.test in
    let path = c.args.path.now in
    let y = proof_of c.args.yes.now in
    let z = proof_of c.args.no.now in
    let new = not-some (answer_of path n) c.is_answered.result c.if-is_answered.false c.is_answered.ensures in
    let first = subst (λ (b : Bool). IsStillClosed s y (path_with path n true) b) c.if-not-branch.false c.in_ok-side.ensures.still in
    let second = subst (λ (q : Answers). IfOk c.side-2.result (IsStillClosed s z (path_with q n false))) c.in_ok-side.ensures.path c.side-2.ensures.still in
    sides-all s n y z path new c.side-2.result first second

pub still_closes-returns-in-BySlot-clause-still : goal.still_closes-returns-in-BySlot-clause-still
still_closes-returns-in-BySlot-clause-still t c =
    let path = c.args.path.now in
    let says = subst (λ (l : List ℕ). IsTrue c.are_answered.result ↔ All (λ n. IsSome (answer_of path n)) l) c.as_slice.ensures c.are_answered.ensures in
    still-slot c.args.self.now c.args.part.now path c.are_answered.result c.in-BySlot.core c.in-BySlot.proof c.in-BySlot.is says

pub still_closes-returns-in-Label-clause-still : goal.still_closes-returns-in-Label-clause-still
still_closes-returns-in-Label-clause-still t c =
    still-label c.args.self.now c.args.part.now c.args.path.now c.has_stored.result c.in-Label.number c.in-Label.answers c.in-Label.inner c.in-Label.is c.has_stored.ensures

-- ---- the path, where no side is looked at

pub still_closes-returns-in-ByValue-clause-path : goal.still_closes-returns-in-ByValue-clause-path
still_closes-returns-in-ByValue-clause-path t c = refl

pub still_closes-returns-in-BySlot-clause-path : goal.still_closes-returns-in-BySlot-clause-path
still_closes-returns-in-BySlot-clause-path t c = refl

pub still_closes-returns-in-Label-clause-path : goal.still_closes-returns-in-Label-clause-path
still_closes-returns-in-Label-clause-path t c = refl

pub still_closes-returns-in-Reuse-clause-path : goal.still_closes-returns-in-Reuse-clause-path
still_closes-returns-in-Reuse-clause-path t c = refl

-- ---- want of memory, of which nothing is said

pub sides-returns-in_err-side : goal.sides-returns-in_err-side
sides-returns-in_err-side t c = let e = c.from_residual.ensures.0 in record { still = IfOk-from_err _ _ e; path = IfOk-from_err _ _ e }

pub side-returns-in_err-push : goal.side-returns-in_err-push
side-returns-in_err-push t c = let e = c.from_residual.ensures.0 in record { still = IfOk-from_err _ _ e; path = IfOk-from_err _ _ e }

pub side-returns-in_err-still : goal.side-returns-in_err-still
side-returns-in_err-still t c = let e = c.from_residual-in_err-still.ensures.0 in record { still = IfOk-from_err _ _ e; path = IfOk-from_err _ _ e }
