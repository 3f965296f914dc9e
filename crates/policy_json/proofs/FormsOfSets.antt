-- The statements, the documents and the sets that pass their checks are of the forms that files give.
use Rattle.std.proofs.Common.{◌≡◌, ◌≤◌, ℕ, ◌+◌, List, [], ◌∷◌, ◌++◌, length, map, Bool, true, false, if◌then◌else◌, Option, Some, None, unwrap_or, Ok, codes, All as Each, inl, inr, refl, ap, sym, subst, arith}
use Rattle.std.specs.Prelude.{IfSome}
use Rattle.std.specs.List.{flat_map}
use Rattle.std.proofs.lemmas.Bool.{cases_Bool, leb-true}
use Rattle.std.proofs.lemmas.List.{append-nil, length-append, length-map}
use Rattle.json_shapes.specs.Shapes.{is_object}
use Rattle.std.proofs.lemmas.List.Elements.{All-cons, All-head, All-map, All-nil, All-tail}
use Rattle.std.proofs.lemmas.List.Sums.{sum_by-append, sum_by-cons}
use Rattle.serde_json.specs.Data.{Data}
use Rattle.serde_json.specs.Find.{get}
use Rattle.wildcard_lang.specs.declared.piece.Piece.{Piece}
use Rattle.policy_model.specs.declared.matcher.Matcher.{Matcher}
use Rattle.policy_model.specs.declared.set.Document.{Document}
use Rattle.policy_model.specs.declared.set.PolicySet.{PolicySet}
use Rattle.json_shapes.specs.Checks.{first_fault}
use Rattle.json_shapes.specs.Json.{json_of, one_or_more, values_in}
use Rattle.json_shapes.proofs.Laws.{front_passes-none}
use Rattle.policy_json.specs.declared.document.TheConstants.{MOST_DOCUMENTS}
use Rattle.policy_json.specs.declared.fault.PolicyFault.{PolicyFault}
use Rattle.policy_json.specs.declared.location.Location.{Location}
use Rattle.policy_json.specs.declared.set.TheConstants.{MOST_GUARDS}
use Rattle.policy_json.specs.declared.statement.TheConstants.{MOST_STATEMENTS}
use Rattle.policy_json.specs.Checks.{PolicyCheck, name_checks}
use Rattle.policy_json.specs.Conditions.{condition_checks}
use Rattle.policy_json.specs.Documents.{document_checks, document_of, has_escapes, head_checks, numbered_checks, statements_in}
use Rattle.policy_json.specs.Elements.{both_checks}
use Rattle.policy_json.specs.Principals.{entries_of, principal_checks}
use Rattle.policy_json.specs.ReadForms.{AreReadDocuments, IsReadAction, IsReadCondition, IsReadEntry, IsReadForm, IsReadResource, IsReadStatement, document_count, statement_total, statements_among}
use Rattle.policy_json.specs.Sets.{documents_checks, grant_documents, guarded_checks, guards_in, is_guarded, documents_in, list_checks, file_location, plain_checks, set_checks, set_from, set_of, set_or, set_read, set_with, statement_count}
use Rattle.policy_json.specs.Statements.{action_checks, actions_of, effect_checks, form_checks, resource_checks, resources_of, statement_checks, statement_of, who_checks, who_of}
use Rattle.policy_json.specs.Texts.{glob_of, globs_of, matcher_of, pattern_checks, patterns_checks}
use Rattle.policy_json.proofs.FormsOfValues.{action_form, id_form, key_form, resource_form}
use Rattle.policy_json.proofs.Sound.{behind, each_sound, entries_each, first_passes, none-behind, none-front, none-rest, third_of}
use Rattle.policy_json.proofs.SoundConditions.{conditions_each}

-- ---- elements

-- the items of an element or of its Not element, whichever is there
matcher_each : {X : Type 0} (items : Data → List X) (P : X → Type 0) (a b : Option Data) → ((d : Data) → a ≡ Some d → Each P (items d)) → ((d : Data) → b ≡ Some d → Each P (items d)) → IfSome (matcher_of items a b) (λ m. Each P m.items)
matcher_each items P (Some d) b first second = first d refl
matcher_each items P None (Some d) first second = second d refl
matcher_each items P None None first second = tt

-- what is checked of an element is checked of its value
of_value : (checks : Option Data → List PolicyCheck) (element : Option Data) (d : Data) → first_fault (checks element) ≡ None → element ≡ Some d → first_fault (checks (Some d)) ≡ None
of_value checks element d e is = subst (λ (o : Option Data). first_fault (checks o) ≡ None) is e

module _ (location : Location) (d : Data) where
  who_form : first_fault (who_checks location d) ≡ None → IfSome (who_of d) (λ m. Each IsReadEntry m.items)
  who_form e =
      let name = codes "Principal" in
      let other = codes "NotPrincipal" in
      let both = none-rest (both_checks location name other d) (principal_checks location name (get name d) ++ principal_checks location other (get other d)) e in
      let first = none-front (principal_checks location name (get name d)) (principal_checks location other (get other d)) both in
      let second = none-rest (principal_checks location name (get name d)) (principal_checks location other (get other d)) both in
      matcher_each entries_of IsReadEntry (get name d) (get other d)
      (λ x is. entries_each IsReadEntry location name (id_form location name) tt x (of_value (principal_checks location name) (get name d) x first is))
      (λ x is. entries_each IsReadEntry location other (id_form location other) tt x (of_value (principal_checks location other) (get other d) x second is))

  globs_form : (name : List ℕ) (fold escapes : Bool) (P : List Piece → Type 0) → ((x : Data) → first_fault (pattern_checks location name escapes x) ≡ None → P (glob_of fold escapes x)) → (x : Data) → first_fault (patterns_checks location name escapes (Some x)) ≡ None → Each P (globs_of fold escapes x)
  globs_form name fold escapes P each x e =
      All-map P (glob_of fold escapes) (one_or_more x) (each_sound (pattern_checks location name escapes) (λ y. P (glob_of fold escapes y)) each (one_or_more x) (first_passes _ _ _ e))

  -- the patterns of an element or of its Not element
  patterns_form : (name other : List ℕ) (fold escapes : Bool) (P : List Piece → Type 0) → ((word : List ℕ) (x : Data) → first_fault (pattern_checks location word escapes x) ≡ None → P (glob_of fold escapes x)) →
      first_fault (patterns_checks location name escapes (get name d) ++ patterns_checks location other escapes (get other d)) ≡ None → IfSome (matcher_of (globs_of fold escapes) (get name d) (get other d)) (λ m. Each P m.items)
  patterns_form name other fold escapes P each e =
      let first = none-front (patterns_checks location name escapes (get name d)) (patterns_checks location other escapes (get other d)) e in
      let second = none-rest (patterns_checks location name escapes (get name d)) (patterns_checks location other escapes (get other d)) e in
      matcher_each (globs_of fold escapes) P (get name d) (get other d)
      (λ x is. globs_form name fold escapes P (each name) x (of_value (patterns_checks location name escapes) (get name d) x first is))
      (λ x is. globs_form other fold escapes P (each other) x (of_value (patterns_checks location other escapes) (get other d) x second is))

  resources_form : (escapes : Bool) → first_fault (resource_checks location escapes d) ≡ None → IfSome (resources_of escapes d) (λ m. Each IsReadResource m.items)
  resources_form escapes e =
      let name = codes "Resource" in
      let other = codes "NotResource" in
      patterns_form name other false escapes IsReadResource (λ word x one. resource_form location word escapes x one)
      (none-rest (both_checks location name other d) (patterns_checks location name escapes (get name d) ++ patterns_checks location other escapes (get other d)) e)

  -- the matcher of an element that must be there
  there : (P : List Piece → Type 0) (o : Option (Matcher (List Piece))) → IfSome o (λ m. Each P m.items) → Each P (unwrap_or o (record { not = false; items = [] })).items
  there P None h = All-nil P
  there P (Some m) h = h

  actions_form : first_fault (action_checks location d) ≡ None → Each IsReadAction (actions_of d).items
  actions_form e =
      let name = codes "Action" in
      let other = codes "NotAction" in
      let passed : first_fault (patterns_checks location name false (get name d) ++ patterns_checks location other false (get other d)) ≡ None =
      none-behind (behind (action_checks location d)) (none-behind (action_checks location d) e) in
      there IsReadAction (matcher_of (globs_of true false) (get name d) (get other d))
      (patterns_form name other true false IsReadAction (λ word x one. action_form location word x one) passed)

  -- a statement that passes its checks
  statement_form : (in_set : ℕ) (escapes : Bool) → first_fault (statement_checks location in_set escapes d) ≡ None → IsReadStatement (statement_of escapes d)
  statement_form in_set escapes e =
      let conditions = condition_checks location escapes (get (codes "Condition") d) in
      let resources = resource_checks location escapes d ++ conditions in
      let actions = action_checks location d ++ resources in
      let who = who_checks location d ++ actions in
      let behind_form : first_fault (effect_checks location d ++ who) ≡ None = none-rest (form_checks location in_set d) (effect_checks location d ++ who) e in
      let at_who : first_fault who ≡ None = none-rest (effect_checks location d) who behind_form in
      let at_actions : first_fault actions ≡ None = none-rest (who_checks location d) actions at_who in
      let at_resources : first_fault resources ≡ None = none-rest (action_checks location d) resources at_actions in
      record {
        principal = who_form (none-front (who_checks location d) actions at_who);
        action = actions_form (none-front (action_checks location d) resources at_actions);
        resource = resources_form escapes (none-front (resource_checks location escapes d) conditions at_resources);
        conditions = conditions_each IsReadCondition location escapes (λ o sound key passed. key_form location escapes o sound key passed) (get (codes "Condition") d) (none-rest (resource_checks location escapes d) conditions at_resources);
      }

-- ---- documents

-- the statement of this number in its set is one of the first
numbered : (location : Location) (in_set : ℕ) (escapes : Bool) (d : Data) → first_fault (statement_checks location in_set escapes d) ≡ None → in_set ≤ MOST_STATEMENTS
numbered location in_set escapes d e = leb-true in_set MOST_STATEMENTS (front_passes-none (statement_checks location in_set escapes d) e)

statements_form : (document statement in_set : ℕ) (escapes : Bool) (ds : List Data) → first_fault (numbered_checks document statement in_set escapes ds) ≡ None → Each IsReadStatement (map (statement_of escapes) ds)
statements_form document statement in_set escapes [] e = All-nil IsReadStatement
statements_form document statement in_set escapes (d ∷ ds) e =
    let location : Location = record { document = document; statement = statement } in
    let own = statement_checks location in_set escapes d in
    let rest = numbered_checks document (statement + 1) (in_set + 1) escapes ds in
    All-cons IsReadStatement (statement_of escapes d) (map (statement_of escapes) ds) (statement_form location d in_set escapes (none-front own rest e)) (statements_form document (statement + 1) (in_set + 1) escapes ds (none-rest own rest e))

-- statements from this number on
statements_few : (document statement in_set : ℕ) (escapes : Bool) (ds : List Data) → in_set ≤ MOST_STATEMENTS + 1 → first_fault (numbered_checks document statement in_set escapes ds) ≡ None → in_set + length ds ≤ MOST_STATEMENTS + 1
statements_few document statement in_set escapes [] few e = omega (arith, few)
statements_few document statement in_set escapes (d ∷ ds) few e =
    let location : Location = record { document = document; statement = statement } in
    let own = statement_checks location in_set escapes d in
    let rest = numbered_checks document (statement + 1) (in_set + 1) escapes ds in
    let here : in_set ≤ MOST_STATEMENTS = numbered location in_set escapes d (none-front own rest e) in
    let later : (in_set + 1) + length ds ≤ MOST_STATEMENTS + 1 = statements_few document (statement + 1) (in_set + 1) escapes ds (omega (arith, here)) (none-rest own rest e) in
    omega (arith, later)

module _ (n before : ℕ) (d : Data) (e : first_fault (document_checks n before d) ≡ None) where
  at_head : first_fault (head_checks (record { document = n; statement = 0 }) d) ≡ None
  at_head = none-front (head_checks (record { document = n; statement = 0 }) d) (numbered_checks n 1 (before + 1) (has_escapes d) (statements_in d)) e

  at_statements : first_fault (numbered_checks n 1 (before + 1) (has_escapes d) (statements_in d)) ≡ None
  at_statements = none-rest (head_checks (record { document = n; statement = 0 }) d) (numbered_checks n 1 (before + 1) (has_escapes d) (statements_in d)) e

  document_few : n ≤ MOST_DOCUMENTS
  document_few = leb-true n MOST_DOCUMENTS (front_passes-none (head_checks (record { document = n; statement = 0 }) d) at_head)

  document_form : Each IsReadStatement (document_of d).statements
  document_form = statements_form n 1 (before + 1) (has_escapes d) (statements_in d) at_statements

  still_few : before ≤ MOST_STATEMENTS → before + length (statements_in d) ≤ MOST_STATEMENTS
  still_few few =
      let many : (before + 1) + length (statements_in d) ≤ MOST_STATEMENTS + 1 = statements_few n 1 (before + 1) (has_escapes d) (statements_in d) (omega (arith, few)) at_statements in
      omega (arith, many)

documents_form : (n before : ℕ) (ds : List Data) → first_fault (documents_checks n before ds) ≡ None → Each (λ d. Each IsReadStatement (document_of d).statements) ds
documents_form n before [] e = All-nil (λ d. Each IsReadStatement (document_of d).statements)
documents_form n before (d ∷ ds) e =
    let own = document_checks n before d in
    let rest = documents_checks (n + 1) (before + length (statements_in d)) ds in
    All-cons (λ x. Each IsReadStatement (document_of x).statements) d ds (document_form n before d (none-front own rest e)) (documents_form (n + 1) (before + length (statements_in d)) ds (none-rest own rest e))

documents_few : (n before : ℕ) (ds : List Data) → n ≤ MOST_DOCUMENTS + 1 → first_fault (documents_checks n before ds) ≡ None → n + length ds ≤ MOST_DOCUMENTS + 1
documents_few n before [] few e = omega (arith, few)
documents_few n before (d ∷ ds) few e =
    let own = document_checks n before d in
    let rest = documents_checks (n + 1) (before + length (statements_in d)) ds in
    let here : n ≤ MOST_DOCUMENTS = document_few n before d (none-front own rest e) in
    let later : (n + 1) + length ds ≤ MOST_DOCUMENTS + 1 = documents_few (n + 1) (before + length (statements_in d)) ds (omega (arith, here)) (none-rest own rest e) in
    omega (arith, later)

all_few : (n before : ℕ) (ds : List Data) → before ≤ MOST_STATEMENTS → first_fault (documents_checks n before ds) ≡ None → before + statement_count ds ≤ MOST_STATEMENTS
all_few n before [] few e = omega (arith, few)
all_few n before (d ∷ ds) few e =
    let own = document_checks n before d in
    let rest = documents_checks (n + 1) (before + length (statements_in d)) ds in
    let here : before + length (statements_in d) ≤ MOST_STATEMENTS = still_few n before d (none-front own rest e) few in
    let later : (before + length (statements_in d)) + statement_count ds ≤ MOST_STATEMENTS = all_few (n + 1) (before + length (statements_in d)) ds here (none-rest own rest e) in
    let count : statement_count (d ∷ ds) ≡ length (statements_in d) + statement_count ds = sum_by-cons (λ x. length (statements_in x)) d ds in
    omega (arith, later, count)

-- ---- grants and guards

-- how many documents and statements stand in what lists of values stand for
documents_counted : (ds : List Data) → statements_among (map document_of ds) ≡ statement_count ds
documents_counted [] = refl
documents_counted (d ∷ ds) =
    let more = sum_by-cons (λ (x : Document). length x.statements) (document_of d) (map document_of ds) in
    let count = sum_by-cons (λ x. length (statements_in x)) d ds in
    let own : length (document_of d).statements ≡ length (statements_in d) = length-map (statements_in d) (statement_of (has_escapes d)) in
    let rest = documents_counted ds in
    omega (arith, more, count, own, rest)

-- the guards that values stand for
abbrev guards_of : List Data → List (List Document)
guards_of guards = map (λ g. map document_of (values_in g)) guards

guards_counted : (guards : List Data) → document_count (guards_of guards) ≡ length (flat_map values_in guards)
guards_counted [] = refl
guards_counted (g ∷ guards) =
    let more = sum_by-cons (λ (documents : List Document). length documents) (map document_of (values_in g)) (guards_of guards) in
    let own : length (map document_of (values_in g)) ≡ length (values_in g) = length-map (values_in g) document_of in
    let joined = length-append (values_in g) (flat_map values_in guards) in
    let rest = guards_counted guards in
    omega (arith, more, own, joined, rest)

statements_counted : (guards : List Data) → statement_total (guards_of guards) ≡ statement_count (flat_map values_in guards)
statements_counted [] = refl
statements_counted (g ∷ guards) =
    let more = sum_by-cons statements_among (map document_of (values_in g)) (guards_of guards) in
    let own = documents_counted (values_in g) in
    let joined = sum_by-append (λ x. length (statements_in x)) (values_in g) (flat_map values_in guards) in
    let rest = statements_counted guards in
    omega (arith, more, own, joined, rest)

-- what holds of each item of two lists holds of each of either
of_front : {T : Type 0} (P : T → Type 0) (xs ys : List T) → Each P (xs ++ ys) → Each P xs
of_front P [] ys h = All-nil P
of_front P (x ∷ xs) ys h = All-cons P x xs (All-head P x (xs ++ ys) h) (of_front P xs ys (All-tail P x (xs ++ ys) h))

of_back : {T : Type 0} (P : T → Type 0) (xs ys : List T) → Each P (xs ++ ys) → Each P ys
of_back P [] ys h = h
of_back P (x ∷ xs) ys h = of_back P xs ys (All-tail P x (xs ++ ys) h)

of_flat : {A X : Type 0} (f : A → List X) (P : X → Type 0) (all : List A) → Each P (flat_map f all) → Each (λ a. Each P (f a)) all
of_flat f P [] h = All-nil (λ a. Each P (f a))
of_flat f P (a ∷ all) h = All-cons (λ x. Each P (f x)) a all (of_front P (f a) (flat_map f all) h) (of_flat f P all (of_back P (f a) (flat_map f all) h))

-- each document stands for statements of the forms
abbrev StandsRead : Data → Type 0
StandsRead d = Each IsReadStatement (document_of d).statements

map_each : (ds : List Data) → Each StandsRead ds → AreReadDocuments (map document_of ds)
map_each ds h = All-map (λ (d : Document). Each IsReadStatement d.statements) document_of ds h

guards_each : (guards : List Data) → Each (λ g. Each StandsRead (values_in g)) guards → Each AreReadDocuments (guards_of guards)
guards_each [] h = All-nil AreReadDocuments
guards_each (g ∷ guards) h =
    All-cons AreReadDocuments (map document_of (values_in g)) (guards_of guards) (map_each (values_in g) (All-head (λ x. Each StandsRead (values_in x)) g guards h)) (guards_each guards (All-tail (λ x. Each StandsRead (values_in x)) g guards h))

parts_form : (grants guards : List Data) → length guards ≤ MOST_GUARDS → first_fault (documents_checks 1 0 (grants ++ flat_map values_in guards)) ≡ None → IsReadForm (set_with grants guards)
parts_form grants guards few e =
    let inside = flat_map values_in guards in
    let all = grants ++ inside in
    let each : Each StandsRead all = documents_form 1 0 all e in
    let documents : 1 + length all ≤ MOST_DOCUMENTS + 1 = documents_few 1 0 all (omega arith) e in
    let statements : 0 + statement_count all ≤ MOST_STATEMENTS = all_few 1 0 all (omega arith) e in
    let joined = length-append grants inside in
    let summed : statement_count all ≡ statement_count grants + statement_count inside = sum_by-append (λ x. length (statements_in x)) grants inside in
    let grants_are : length (map document_of grants) ≡ length grants = length-map grants document_of in
    let guards_are = guards_counted guards in
    let statements_are = documents_counted grants in
    let guarded_are = statements_counted guards in
    let many : length (guards_of guards) ≡ length guards = length-map guards (λ g. map document_of (values_in g)) in
    record {
      documents = omega (arith, documents, joined, grants_are, guards_are);
      statements = omega (arith, statements, summed, statements_are, guarded_are);
      guards = omega (arith, few, many);
      granting = map_each grants (of_front StandsRead grants inside each);
      guarding = guards_each guards (of_flat values_in StandsRead guards (of_back StandsRead grants inside each));
    }

-- ---- files

guards_few : (d : Data) → first_fault (guarded_checks d) ≡ None → length (guards_in d) ≤ MOST_GUARDS
guards_few d e =
    let at_lists : first_fault (list_checks d) ≡ None = none-rest (name_checks file_location (codes "Grants" ∷ codes "Guards" ∷ []) d) (list_checks d) e in
    leb-true (length (guards_in d)) MOST_GUARDS (third_of (behind (behind (list_checks d))) (none-behind (behind (list_checks d)) (none-behind (list_checks d) at_lists)))

module _ (d : Data) (e : first_fault (set_checks d) ≡ None) where
  of_file : first_fault (if is_guarded d then guarded_checks d else plain_checks d) ≡ None
  of_file = none-front (if is_guarded d then guarded_checks d else plain_checks d) (documents_checks 1 0 (documents_in d)) e

  of_documents : first_fault (documents_checks 1 0 (documents_in d)) ≡ None
  of_documents = none-rest (if is_guarded d then guarded_checks d else plain_checks d) (documents_checks 1 0 (documents_in d)) e

  guarded_form : is_guarded d ≡ true → IsReadForm (set_of d)
  guarded_form is =
      let one : List Data = if is_object d then d ∷ [] else values_in d in
      let documents : documents_in d ≡ grant_documents d ++ flat_map values_in (guards_in d) = ap (λ b. if b then grant_documents d ++ flat_map values_in (guards_in d) else one) is in
      let stands : set_of d ≡ set_with (grant_documents d) (guards_in d) = ap (λ b. if b then set_with (grant_documents d) (guards_in d) else set_with (documents_in d) []) is in
      let few : length (guards_in d) ≤ MOST_GUARDS = guards_few d (subst (λ b. first_fault (if b then guarded_checks d else plain_checks d) ≡ None) is of_file) in
      subst IsReadForm (sym stands) (parts_form (grant_documents d) (guards_in d) few (subst (λ (ds : List Data). first_fault (documents_checks 1 0 ds) ≡ None) documents of_documents))

  plain_form : is_guarded d ≡ false → IsReadForm (set_of d)
  plain_form is =
      let stands : set_of d ≡ set_with (documents_in d) [] = ap (λ b. if b then set_with (grant_documents d) (guards_in d) else set_with (documents_in d) []) is in
      subst IsReadForm (sym stands) (parts_form (documents_in d) [] (omega arith) (subst (λ (ds : List Data). first_fault (documents_checks 1 0 ds) ≡ None) (sym (append-nil (documents_in d))) of_documents))

  set_form : IsReadForm (set_of d)
  set_form = elim (cases_Bool (is_guarded d)) [ inl is ↦ guarded_form is | inr is ↦ plain_form is ]

of_checks : (d : Data) (set : PolicySet) (o : Option PolicyFault) → first_fault (set_checks d) ≡ o → set_or (set_of d) o ≡ Ok set → IsReadForm set
of_checks d set None passed is = let same : set_of d ≡ set = cc in subst IsReadForm same (set_form d passed)
of_checks d set (Some fault) refused is = absurd cc

of_reading : (o : Option Data) (set : PolicySet) → set_read o ≡ Ok set → IsReadForm set
of_reading None set is = absurd cc
of_reading (Some d) set is = of_checks d set (first_fault (set_checks d)) refl is

-- the set of a file is of the forms that files give
pub read-form : (bytes : List ℕ) (set : PolicySet) → set_from bytes ≡ Ok set → IsReadForm set
read-form bytes set is = of_reading (json_of bytes) set is
