-- A document as it is written is read as the set of its statements, without a fault.
use Rattle.std.proofs.Common.{◌≡◌, ◌≤◌, ◌+◌, ℕ, List, [], ◌∷◌, ◌++◌, map, true, None, Result, Ok, length, codes, refl, ap, ◌∙◌, arith}
use Rattle.json.proofs.Printed.Utf8.{IsUtf8-are_ascii}
use Rattle.serde_json.specs.Data.{Data, depth, items_depth}
use Rattle.serde_json.specs.Read.{max_depth}
use Rattle.serde_json.specs.View.{items_of}
use Rattle.serde_json.specs.Written.{compact_text}
use Rattle.json_shapes.specs.Checks.{first_fault}
use Rattle.json_shapes.specs.Json.{values_of}
use Rattle.json_shapes.specs.Spelled.{IsSpelled, ItemsAreSpelled}
use Rattle.json_shapes.proofs.Laws.{first_fault-rest, read-again}
use Rattle.policy_model.specs.declared.set.Document.{Document}
use Rattle.policy_model.specs.declared.set.PolicySet.{PolicySet}
use Rattle.policy_model.specs.declared.set.Statement.{Statement}
use Rattle.policy_json.specs.declared.fault.PolicyFault.{PolicyFault}
use Rattle.policy_json.specs.declared.statement.TheConstants.{MOST_STATEMENTS}
use Rattle.policy_json.specs.Documents.{document_checks, head_checks, numbered_checks}
use Rattle.policy_json.specs.Sets.{set_checks, set_from, set_of, set_or, set_read}
use Rattle.policy_json.specs.Statements.{statement_checks, statement_of}
use Rattle.policy_emit.specs.Written.{document_data}

-- the data is read as the statement, wherever it stands
pub record IsStatementOf (d : Data) (s : Statement) : Type 0 where
  pub stands : statement_of true d ≡ s
  pub passes : (document statement in_set : ℕ) → in_set ≤ MOST_STATEMENTS → first_fault (statement_checks (record { document = document; statement = statement }) in_set true d) ≡ None
  pub spelled : IsSpelled d
  pub shallow : depth d ≤ 4

abbrev pub AreStatementsOf : List Data → List Statement → Type 0
AreStatementsOf [] [] = Unit {0}
AreStatementsOf [] (s ∷ ss) = ⊥
AreStatementsOf (d ∷ ds) [] = ⊥
AreStatementsOf (d ∷ ds) (s ∷ ss) = IsStatementOf d s × AreStatementsOf ds ss

statements-stand : (ds : List Data) (ss : List Statement) → AreStatementsOf ds ss → map (statement_of true) ds ≡ ss
statements-stand [] [] are = refl
statements-stand [] (s ∷ ss) are = absurd are
statements-stand (d ∷ ds) [] are = absurd are
statements-stand (d ∷ ds) (s ∷ ss) are = ap (λ (t : Statement). t ∷ map (statement_of true) ds) are.0.stands ∙ ap (λ (ts : List Statement). s ∷ ts) (statements-stand ds ss are.1)

statements-pass : (document statement in_set : ℕ) (ds : List Data) (ss : List Statement) → in_set + length ds ≤ MOST_STATEMENTS + 1 → AreStatementsOf ds ss → first_fault (numbered_checks document statement in_set true ds) ≡ None
statements-pass document statement in_set [] ss few are = refl
statements-pass document statement in_set (d ∷ ds) [] few are = absurd are
statements-pass document statement in_set (d ∷ ds) (s ∷ ss) few are =
    first_fault-rest (statement_checks (record { document = document; statement = statement }) in_set true d) (numbered_checks document (statement + 1) (in_set + 1) true ds) (are.0.passes document statement in_set (omega (arith, few)))
    ∙ statements-pass document (statement + 1) (in_set + 1) ds ss (omega (arith, few)) are.1

statements-spelled : (ds : List Data) (ss : List Statement) → AreStatementsOf ds ss → ItemsAreSpelled (items_of ds)
statements-spelled [] ss are = tt
statements-spelled (d ∷ ds) [] are = absurd are
statements-spelled (d ∷ ds) (s ∷ ss) are = (are.0.spelled, statements-spelled ds ss are.1)

statements-shallow : (ds : List Data) (ss : List Statement) → AreStatementsOf ds ss → items_depth (items_of ds) ≤ 4
statements-shallow [] ss are = omega arith
statements-shallow (d ∷ ds) [] are = absurd are
statements-shallow (d ∷ ds) (s ∷ ss) are = let own = are.0.shallow in let rest = statements-shallow ds ss are.1 in omega (arith, own, rest)

listed : (ds : List Data) → values_of (items_of ds) ≡ ds
listed [] = refl
listed (d ∷ ds) = ap (λ (rest : List Data). d ∷ rest) (listed ds)

abbrev set_with_statements : List Statement → PolicySet
set_with_statements ss = (let document : Document = record { statements = ss } in let set : PolicySet = record { grants = document ∷ []; guards = [] } in set)

module _ (ds : List Data) (ss : List Statement) (few : length ds ≤ MOST_STATEMENTS) (are : AreStatementsOf ds ss) where
  numbered-pass : first_fault (numbered_checks 1 1 1 true (values_of (items_of ds))) ≡ None
  numbered-pass = ap (λ (es : List Data). first_fault (numbered_checks 1 1 1 true es)) (listed ds) ∙ statements-pass 1 1 1 ds ss (omega (arith, few)) are

  document-passes : first_fault (document_checks 1 0 (document_data ds)) ≡ None
  document-passes = first_fault-rest (head_checks (record { document = 1; statement = 0 }) (document_data ds)) (numbered_checks 1 1 1 true (values_of (items_of ds))) refl ∙ numbered-pass

  set-passes : first_fault (set_checks (document_data ds)) ≡ None
  set-passes = first_fault-rest (document_checks 1 0 (document_data ds)) [] document-passes

  set-stands : set_of (document_data ds) ≡ set_with_statements ss
  set-stands = ap (λ (es : List Data). set_with_statements (map (statement_of true) es)) (listed ds) ∙ ap set_with_statements (statements-stand ds ss are)

  document-spelled : IsSpelled (document_data ds)
  document-spelled = (
    ((refl, tt), (tt, tt)),
    ((IsUtf8-are_ascii (codes "Statement") refl, statements-spelled ds ss are), ((IsUtf8-are_ascii (codes "Version") refl, IsUtf8-are_ascii (codes "2012-10-17") refl), tt)),
  )

  document-shallow : depth (document_data ds) ≤ max_depth
  document-shallow = let items = statements-shallow ds ss are in omega (arith, items)

  pub document-read : set_from (compact_text (document_data ds) ++ 10 ∷ []) ≡ Ok (set_with_statements ss)
  document-read =
      let text = (read-again (document_data ds) document-spelled document-shallow).ended in
      ap set_read text ∙ ap (set_or (set_of (document_data ds))) set-passes ∙ ap (λ (set : PolicySet). let read : Result PolicySet PolicyFault = Ok set in read) set-stands
