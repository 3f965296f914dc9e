use Rattle.std.proofs.Common.{◌≡◌, ℕ, ◌+◌, Bool, List, [], ◌∷◌, ◌++◌, None, map, drop, length, All, ◌≤◌, ap, sym, subst, ◌∙◌, arith}
use Rattle.std.proofs.lemmas.Bool.{leb-true}
use Rattle.std.proofs.lemmas.List.{length_push}
use Rattle.std.proofs.lemmas.List.Elements.{All-push}
use Rattle.serde_json.specs.Data.{Data}
use Rattle.serde_json.specs.View.{view}
use Rattle.policy_model.specs.Soundness.{StatementIsSound}
use Rattle.policy_model.specs.declared.set.Statement.{Statement}
use Rattle.policy_json.specs.declared.statement.TheConstants.{MOST_STATEMENTS}
use Rattle.policy_json.specs.declared.location.Location.{Location}
use Rattle.json_shapes.specs.Checks.{first_fault}
use Rattle.policy_json.specs.Checks.{PolicyCheck}
use Rattle.policy_json.specs.Documents.{numbered_checks}
use Rattle.policy_json.specs.Statements.{statement_checks, statement_of}
use Rattle.json_shapes.proofs.Laws.{front_passes-none, from_here}
use Rattle.policy_json.proofs.Lists.{Next, Reading, reads-next, refuses-next}
use Rattle.policy_json.proofs.document.read_statements.Goals as goal

-- the next of the statements that are left, with its numbers
next_of : (document statement in_set n m : ℕ) (escapes : Bool) (all : List PolicyCheck) (whole done : List Statement) (left : List Data) (d : Data) (ds : List Data) → left ≡ d ∷ ds → n ≡ statement → m ≡ in_set
    → Reading all (numbered_checks document statement in_set escapes left) whole done (map (statement_of escapes) left)
    → Next all (statement_checks (record { document = document; statement = n }) m escapes d) (numbered_checks document (statement + 1) (in_set + 1) escapes ds) whole done (statement_of escapes d) (map (statement_of escapes) ds)
next_of document statement in_set n m escapes all whole done left d ds is same_n same_m here =
    let split : Reading all (numbered_checks document statement in_set escapes (d ∷ ds)) whole done (statement_of escapes d ∷ map (statement_of escapes) ds) = subst (λ (some : List Data). Reading all (numbered_checks document statement in_set escapes some) whole done (map (statement_of escapes) some)) is here in
    let numbers : first_fault all ≡ first_fault (statement_checks (record { document = document; statement = n }) in_set escapes d ++ numbered_checks document (statement + 1) (in_set + 1) escapes ds) = subst (λ (k : ℕ). first_fault all ≡ first_fault (statement_checks (record { document = document; statement = k }) in_set escapes d ++ numbered_checks document (statement + 1) (in_set + 1) escapes ds)) (sym same_n) split.faults in
    record {
      faults = subst (λ (k : ℕ). first_fault all ≡ first_fault (statement_checks (record { document = document; statement = n }) k escapes d ++ numbered_checks document (statement + 1) (in_set + 1) escapes ds)) (sym same_m) numbers;
      values = split.values;
    }

-- a statement that passes its checks is one of the first that a set may have
statement_within : (location : Location) (in_set : ℕ) (escapes : Bool) (d : Data) → first_fault (statement_checks location in_set escapes d) ≡ None → in_set ≤ MOST_STATEMENTS
statement_within location in_set escapes d e = leb-true in_set MOST_STATEMENTS (front_passes-none (statement_checks location in_set escapes d) e)

pub returns-in_err-statement-clause-read : goal.returns-in_err-statement-clause-read
returns-in_err-statement-clause-read c =
    let i = c.loop-value.value-index in
    let left = from_here view c.args.values.now i _ c.loop-value-test.true c.value-item.is in
    let here = next_of _ _ _ (c.len.result + 1) (c.args.before + c.len-in-loop-value.result + 1) _ _ _ _ _ _ _ left (omega arith) (omega arith) c.loop-value.invariant.reading in
    refuses-next _ _ here c.in_err-statement.ensures.read c.from_residual.ensures.1

pub loop-value-preserved : goal.loop-value-preserved
loop-value-preserved c =
    let i = c.loop-value.value-index in
    let left = from_here view c.args.values.now i _ c.loop-value-test.true c.value-item.is in
    let here = next_of _ _ _ (c.len.result + 1) (c.args.before + c.len-in-loop-value.result + 1) _ _ _ _ _ _ _ left (omega arith) (omega arith) c.loop-value.invariant.reading in
    let pushed : c.push.new.self ≡ c.loop-value.statements ++ c.in_ok-statement.statement ∷ [] = c.in_ok-push.ensures.ok in
    let read = reads-next _ _ here c.in_ok-statement.ensures.read.0 c.in_ok-statement.ensures.read.1 pushed in
    let few : c.args.before + c.len-in-loop-value.result + 1 ≤ MOST_STATEMENTS = statement_within (record { document = c.args.document; statement = c.len.result + 1 }) _ c.args.escapes (view c.value-item.result) c.in_ok-statement.ensures.read.0 in
    record {
      reading = subst (λ (k : ℕ). Reading (numbered_checks c.args.document 1 (c.args.before + 1) c.args.escapes (map view c.args.values.now)) (numbered_checks c.args.document (i + 1 + 1) k c.args.escapes (map view (drop (i + 1) c.args.values.now))) (map (statement_of c.args.escapes) (map view c.args.values.now)) c.push.new.self (map (statement_of c.args.escapes) (map view (drop (i + 1) c.args.values.now)))) (omega arith) read;
      count = ap length pushed ∙ length_push c.loop-value.statements c.in_ok-statement.statement ∙ omega arith;
      few = omega (arith, ap length pushed ∙ length_push c.loop-value.statements c.in_ok-statement.statement);
      sound = subst (All StatementIsSound) (sym pushed) (All-push StatementIsSound _ _ c.loop-value.invariant.sound c.in_ok-statement.ensures.sound);
    }
