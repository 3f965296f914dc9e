-- The names of statements: the numbers of their documents and of themselves in them, from 1 on. Documents are numbered as they are
-- read, through the grants and then through the guards in order.
use Rattle.std.specs.Prelude.{ℕ, ◌+◌, List, [], ◌∷◌, ◌++◌, length}
use Rattle.policy_model.specs.declared.set.Statement.{Statement}
use Rattle.policy_model.specs.declared.set.StatementName.{StatementName}
use Rattle.policy_model.specs.declared.set.Document.{Document}
use Rattle.policy_model.specs.declared.set.PolicySet.{PolicySet}

-- a statement with its name
abbrev pub Named : Type 0
Named = StatementName × Statement

-- statement s of document d
abbrev pub name_of : ℕ → ℕ → StatementName
name_of d s = record { document = d; statement = s }

-- the statements of document d, numbered from s
abbrev pub named_statements : ℕ → ℕ → List Statement → List Named
named_statements d s [] = []
named_statements d s (x ∷ xs) = (name_of d s, x) ∷ named_statements d (s + 1) xs

-- the statements of documents, numbered from d, in reading order
abbrev pub named_documents : ℕ → List Document → List Named
named_documents d [] = []
named_documents d (x ∷ xs) = named_statements d 1 x.statements ++ named_documents (d + 1) xs

-- the statements of guards, in reading order. The first document has the number d
abbrev pub named_guards : ℕ → List (List Document) → List Named
named_guards d [] = []
named_guards d (g ∷ gs) = named_documents d g ++ named_guards (d + length g) gs

-- the statements of the grants, and those of the whole set, in reading order
abbrev pub named_grants : PolicySet → List Named
named_grants set = named_documents 1 set.grants

abbrev pub named_set : PolicySet → List Named
named_set set = named_grants set ++ named_guards (1 + length set.grants) set.guards
