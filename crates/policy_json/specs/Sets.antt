-- Files of sets: one document, a list of documents, or a guarded set, whose guards are lists of documents. What is checked of a
-- file, in this order, and what it stands for. Guarded sets in one file are this project's own form.
use Rattle.std.specs.Prelude.{◌≡◌, ⊤, ℕ, ◌+◌, List, [], ◌∷◌, ◌++◌, length, map, sum_by, Bool, ◌||◌, nat_le, Option, Some, None, Result, Ok, Err, if◌then◌else◌, codes}
use Rattle.std.specs.List.{flat_map, list_all}
use Rattle.serde_json.specs.Data.{Data}
use Rattle.serde_json.specs.Find.{get}
use Rattle.policy_model.specs.declared.set.PolicySet.{PolicySet}
use Rattle.policy_json.specs.declared.fault.PolicyFault.{PolicyFault}
use Rattle.policy_json.specs.declared.fault.PolicyCode.TheVariants.{P1NotJson, P2SetShape, P4WrongShape, P5MissingElement, P17Limit}
use Rattle.policy_json.specs.declared.location.Location.{Location}
use Rattle.policy_json.specs.declared.counts.Counts.{Counts}
use Rattle.policy_model.specs.declared.set.Document.{Document}
use Rattle.json_shapes.specs.Checks.{first_fault, IsReadOf}
use Rattle.policy_json.specs.Checks.{PolicyCheck, check, name_checks, PolicyAnswer}
use Rattle.json_shapes.specs.Json.{has_name, json_of, list_under, values_in}
use Rattle.json_shapes.specs.Shapes.{is_list, is_object, is_object_or_list, is_there_and}
use Rattle.policy_json.specs.Documents.{document_checks, document_of, statements_in}
use Rattle.policy_json.specs.declared.set.TheConstants.{MOST_GUARDS}
use Rattle.json_shapes.specs.declared.read_error.ReadError.TheVariants.{Refused, NoMemory}

-- the file as a whole
abbrev pub file_location : Location
file_location = record { document = 0; statement = 0 }

-- the file is an object with one of the names of a guarded set
abbrev pub is_guarded : Data → Bool
is_guarded d = has_name (codes "Grants") d || has_name (codes "Guards") d

-- the documents of the grants
abbrev pub grant_documents : Data → List Data
grant_documents d = list_under (get (codes "Grants") d)

-- the guards, each a list of documents
abbrev pub guards_in : Data → List Data
guards_in d = list_under (get (codes "Guards") d)

-- both names of a guarded set are there, both are lists, and there are few guards, each a list
abbrev pub list_checks : Data → List PolicyCheck
list_checks d =
    check file_location (has_name (codes "Grants") d) P5MissingElement (codes "Grants") ∷
    check file_location (has_name (codes "Guards") d) P5MissingElement (codes "Guards") ∷
    check file_location (is_there_and is_list (get (codes "Grants") d)) P4WrongShape (codes "Grants") ∷
    check file_location (is_there_and is_list (get (codes "Guards") d)) P4WrongShape (codes "Guards") ∷
    check file_location (nat_le (length (guards_in d)) MOST_GUARDS) P17Limit (codes "Guards") ∷
    check file_location (list_all is_list (guards_in d)) P4WrongShape (codes "Guards") ∷ []

-- a guarded set has no other name
abbrev pub guarded_checks : Data → List PolicyCheck
guarded_checks d = name_checks file_location (codes "Grants" ∷ codes "Guards" ∷ []) d ++ list_checks d

-- a file without guards is an object or a list
abbrev pub plain_checks : Data → List PolicyCheck
plain_checks d = check file_location (is_object_or_list d) P2SetShape [] ∷ []

-- the documents of the file in order: of a guarded set the grants, and then the guards one by one
abbrev pub documents_in : Data → List Data
documents_in d =
    (if is_guarded d then grant_documents d ++ flat_map values_in (guards_in d)
    else (if is_object d then d ∷ [] else values_in d))

-- documents are numbered in order, and statements are counted through all documents
abbrev pub documents_checks : ℕ → ℕ → List Data → List PolicyCheck
documents_checks number before [] = []
documents_checks number before (d ∷ ds) =
    document_checks number before d ++ documents_checks (number + 1) (before + length (statements_in d)) ds

-- how many statements stand in the documents
abbrev pub statement_count : List Data → ℕ
statement_count ds = sum_by (λ d. length (statements_in d)) ds

-- all checks of a file's value
abbrev pub set_checks : Data → List PolicyCheck
set_checks d = (if is_guarded d then guarded_checks d else plain_checks d) ++ documents_checks 1 0 (documents_in d)

-- the set of these grants, and of these guards, each a list of documents
abbrev pub set_with : List Data → List Data → PolicySet
set_with grants guards = record { grants = map document_of grants; guards = map (λ g. map document_of (values_in g)) guards }

-- what the value stands for
abbrev pub set_of : Data → PolicySet
set_of d = (if is_guarded d then set_with (grant_documents d) (guards_in d) else set_with (documents_in d) [])

-- ---- readers of parts

-- documents are counted, and so are their statements, and the documents of guards
abbrev pub CountsDocuments : Counts → Counts → List Document → Type 0
CountsDocuments before behind documents = behind.documents ≡ before.documents + length documents

abbrev pub CountsStatements : Counts → Counts → List Data → Type 0
CountsStatements before behind ds = behind.statements ≡ before.statements + statement_count ds

abbrev pub CountsGuards : Counts → Counts → List (List Document) → Type 0
CountsGuards before behind guards = behind.documents ≡ before.documents + sum_by (λ g. length g) guards

-- what a reader answers of the documents that stand behind so many of the set, of its guards, and of both
abbrev pub AreDocumentsRead : Counts → List Data → Result (List Document) PolicyAnswer → Type 0
AreDocumentsRead before ds = IsReadOf (documents_checks (before.documents + 1) before.statements ds) (map document_of ds)

abbrev pub AreGuardsRead : Counts → List Data → Result (List (List Document)) PolicyAnswer → Type 0
AreGuardsRead before guards =
    IsReadOf (documents_checks (before.documents + 1) before.statements (flat_map values_in guards))
    (map (λ g. map document_of (values_in g)) guards)

abbrev pub AreSetPartsRead : List Data → List Data → Result PolicySet PolicyAnswer → Type 0
AreSetPartsRead grants guards = IsReadOf (documents_checks 1 0 (grants ++ flat_map values_in guards)) (set_with grants guards)

-- what a reader of a file's value answers
abbrev pub IsValueRead : Data → Result PolicySet PolicyAnswer → Type 0
IsValueRead d = IsReadOf (set_checks d) (set_of d)

-- ---- files

-- the file has no reading as a JSON value
abbrev pub not_json : PolicyFault
not_json = record { code = P1NotJson; document = 0; statement = 0; element = [] }

-- the set that a file stands for, or its first fault
abbrev pub set_or : PolicySet → Option PolicyFault → Result PolicySet PolicyFault
set_or set None = Ok set
set_or set (Some fault) = Err fault

abbrev pub set_read : Option Data → Result PolicySet PolicyFault
set_read None = Err not_json
set_read (Some d) = set_or (set_of d) (first_fault (set_checks d))

abbrev pub set_from : List ℕ → Result PolicySet PolicyFault
set_from bytes = set_read (json_of bytes)

-- what a reader of files answers: the set, or the first fault, besides want of memory
abbrev pub IsSetOf : List ℕ → Result PolicySet PolicyAnswer → Type 0
IsSetOf bytes (Ok set) = set_from bytes ≡ Ok set
IsSetOf bytes (Err (Refused fault)) = set_from bytes ≡ Err fault
IsSetOf bytes (Err NoMemory) = ⊤
