use Rattle.std.proofs.Common.{◌↔◌, Bool, IfOk, IsTrue, ℕ, ap, map, subst, sym, ◌∙◌}
use Rattle.cnf_clauses.specs.Literals.{complement}
use Rattle.formula_tree.specs.Answers.{Answers}
use Rattle.slot_theory.specs.Cores.{Accepts}
use Rattle.slot_theory.specs.declared.outcome.SlotProof.{SlotProof}
use Rattle.clause_proofs.specs.declared.lines.Line.{Line}
use Rattle.clause_proofs.specs.Refuting.{IsJustified, clause_of}
use Rattle.clause_proofs.proofs.Falsifying.{twice}
use Rattle.clause_proofs.proofs.checking.is_justified.Goals as goal

pub excludes-requires-clause-path : goal.excludes-requires-clause-path
excludes-requires-clause-path c = c.requires.path ∙ ap (λ (l : Line). map complement (clause_of l)) c.in-Excluded.is ∙ twice _ ∙ sym c.as_slice.ensures

pub returns-in-Excluded : goal.returns-in-Excluded
returns-in-Excluded c =
    let schema = c.args.subject.now.schema.now in
    let tests = c.args.subject.now.query.now.tests in
    let own = subst (λ (x : Answers). IfOk c.excludes.result (λ (told : Bool). IsTrue told ↔ Accepts schema tests x (map (λ (a : ℕ × Bool). a.0) x) c.deref.result.now)) c.as_slice.ensures c.excludes.ensures in
    let shared = subst (λ (x : SlotProof). IfOk c.excludes.result (λ (told : Bool). IsTrue told ↔ Accepts schema tests c.in-Excluded.answers (map (λ (a : ℕ × Bool). a.0) c.in-Excluded.answers) x)) c.deref.ensures own in
    subst (λ (l : Line). IfOk c.excludes.result (λ (told : Bool). IsTrue told ↔ IsJustified schema tests c.args.clauses.now l)) (sym c.in-Excluded.is) shared
