-- Sets without one of their statements.
use Rattle.std.specs.Prelude.{ℕ, zero, suc, ◌-◌, List, [], ◌∷◌, length}
use Rattle.policy_model.specs.declared.set.Document.{Document}
use Rattle.policy_model.specs.declared.set.PolicySet.{PolicySet}
use Rattle.policy_model.specs.declared.set.StatementName.{StatementName}

-- the list without the item of this number. Numbers count from 1, and of number 0 there is no item
abbrev pub without_item : {T : Type 0} → ℕ → List T → List T
without_item n [] = []
without_item zero (x ∷ xs) = x ∷ xs
without_item (suc zero) (x ∷ xs) = xs
without_item (suc (suc n)) (x ∷ xs) = x ∷ without_item (suc n) xs

-- the list with the item of this number changed
abbrev pub change_item : {T : Type 0} → (T → T) → ℕ → List T → List T
change_item f n [] = []
change_item f zero (x ∷ xs) = x ∷ xs
change_item f (suc zero) (x ∷ xs) = f x ∷ xs
change_item f (suc (suc n)) (x ∷ xs) = x ∷ change_item f (suc n) xs

-- the document without its statement of this number
abbrev pub document_without : ℕ → Document → Document
document_without statement d = record { statements = without_item statement d.statements }

-- the documents, without that statement in the one of this number
abbrev pub documents_without : ℕ → ℕ → List Document → List Document
documents_without document statement ds = change_item (document_without statement) document ds

-- the same of guards, through which the documents are counted
abbrev pub guards_without : ℕ → ℕ → List (List Document) → List (List Document)
guards_without document statement [] = []
guards_without document statement (g ∷ gs) =
    documents_without document statement g ∷ guards_without (document - length g) statement gs

-- the set without the statement of this name. Its documents and guards stay, also where they are empty, so that no
-- other document has another number
abbrev pub without_statement : PolicySet → StatementName → PolicySet
without_statement set name = record {
  grants = documents_without name.document name.statement set.grants;
  guards = guards_without (name.document - length set.grants) name.statement set.guards;
}
