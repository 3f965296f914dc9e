-- Of the set's statements just the named one is taken away.
use Rattle.std.proofs.Common.{◌≡◌, ◌⊎◌, ◌+◌, ◌-◌, ℕ, suc, zero, List, [], ◌∷◌, ◌++◌, length, inl, inr, refl, ap, sym, ◌∙◌, arith}
use Rattle.std.specs.List.{flat_map}
use Rattle.std.proofs.lemmas.List.{append_assoc, map-append}
use Rattle.policy_model.specs.declared.set.Document.{Document}
use Rattle.policy_model.specs.declared.set.PolicySet.{PolicySet}
use Rattle.policy_model.specs.declared.set.Statement.{Statement}
use Rattle.policy_model.specs.declared.set.StatementName.{StatementName}
use Rattle.policy_model.specs.StatementNames.{Named, name_of, named_documents, named_statements}
use Rattle.set_questions.specs.Removal.{change_item, document_without, documents_without, guards_without, without_statement, without_item}
use Rattle.set_questions.specs.Laws.{WithoutTakesOne, statements_named}
use Rattle.set_questions.specs.SetDocuments.{guard_documents, set_documents}
use Rattle.set_questions.proofs.Changing.{as-many, same-lengths}
use Rattle.set_questions.proofs.Placing.{named-all}
use Rattle.set_questions.proofs.Removing.{change-none}

-- ---- the statements of documents, without their names

abbrev pub document_statements : List Document → List Statement
document_statements ds = flat_map (λ d. d.statements) ds

unnamed-statements : (d k : ℕ) (xs : List Statement) → statements_named (named_statements d k xs) ≡ xs
unnamed-statements d k [] = refl
unnamed-statements d k (x ∷ xs) = ap (λ ys. x ∷ ys) (unnamed-statements d (k + 1) xs)

pub unnamed-documents : (d : ℕ) (xs : List Document) → statements_named (named_documents d xs) ≡ document_statements xs
unnamed-documents d [] = refl
unnamed-documents d (x ∷ xs) =
    map-append (λ (n : Named). n.1) (named_statements d 1 x.statements) (named_documents (d + 1) xs)
    ∙ ap (λ ys. ys ++ statements_named (named_documents (d + 1) xs)) (unnamed-statements d 1 x.statements)
    ∙ ap (λ ys. x.statements ++ ys) (unnamed-documents (d + 1) xs)

-- ---- where lists are joined

-- an item of a joined list stands in the front or behind it
record InFront {T : Type 0} (front after before : List T) (x : T) (rest : List T) : Type 0 where
  between : List T
  front_is : front ≡ before ++ x ∷ between
  after_is : after ≡ between ++ rest

record IsBehind {T : Type 0} (front before behind : List T) (x : T) (after : List T) : Type 0 where
  between : List T
  before_is : before ≡ front ++ between
  behind_is : behind ≡ between ++ x ∷ after

head-same : {T : Type 0} (x y : T) (xs ys : List T) → x ∷ xs ≡ y ∷ ys → x ≡ y
head-same x y xs ys e = cc

tail-same : {T : Type 0} (x y : T) (xs ys : List T) → x ∷ xs ≡ y ∷ ys → xs ≡ ys
tail-same x y xs ys e = cc

joined : {T : Type 0} (front rest before : List T) (x : T) (after : List T) → front ++ rest ≡ before ++ x ∷ after → InFront front after before x rest ⊎ IsBehind front before rest x after
joined [] rest before x after e = inr (record { between = before; before_is = refl; behind_is = e })
joined (y ∷ front) rest [] x after e =
    inl (record { between = front; front_is = ap (λ z. z ∷ front) (head-same y x (front ++ rest) after e); after_is = sym (tail-same y x (front ++ rest) after e) })
joined (y ∷ front) rest (z ∷ before) x after e =
    let same = head-same y z (front ++ rest) (before ++ x ∷ after) e in
    elim (joined front rest before x after (tail-same y z (front ++ rest) (before ++ x ∷ after) e)) [
      | inl h ↦ inl (record { between = h.between; front_is = ap (λ ys. y ∷ ys) h.front_is ∙ ap (λ w. w ∷ before ++ x ∷ h.between) same; after_is = h.after_is })
      | inr h ↦ inr (record { between = h.between; before_is = ap (λ ys. z ∷ ys) h.before_is ∙ ap (λ w. w ∷ front ++ h.between) (sym same); behind_is = h.behind_is })
    ]

-- ---- one statement goes

-- the statement is the j-th, counted from 0, of a document, and without it the others are left
pub record OneGoes (k : ℕ) (xs : List Statement) (before after : List Named) (name : StatementName) : Type 0 where
  j : ℕ
  number : name.statement ≡ k + j
  left : without_item (suc j) xs ≡ statements_named before ++ statements_named after

from-here : (k m : ℕ) → k ≡ m → m ≡ k + 0
from-here k m e = omega (arith, e)

goes-of-statements : (d k : ℕ) (xs : List Statement) (before : List Named) (name : StatementName) (s : Statement) (after : List Named) → named_statements d k xs ≡ before ++ (name, s) ∷ after → OneGoes k xs before after name × (name.document ≡ d)
goes-of-statements d k [] [] name s after e = absurd (cc)
goes-of-statements d k [] (n ∷ before) name s after e = absurd (cc)
goes-of-statements d k (x ∷ xs) [] name s after e =
    let head : (name_of d k, x) ≡ (name, s) = head-same (name_of d k, x) (name, s) (named_statements d (k + 1) xs) after e in
    let tail : named_statements d (k + 1) xs ≡ after = tail-same (name_of d k, x) (name, s) (named_statements d (k + 1) xs) after e in
    let same : k ≡ name.statement = ap (λ (n : Named). n.0.statement) head in
    (record { j = 0; number = from-here k name.statement same; left = sym (unnamed-statements d (k + 1) xs) ∙ ap (λ ns. statements_named ns) tail }, sym (ap (λ (n : Named). n.0.document) head))
goes-of-statements d k (x ∷ xs) (n ∷ before) name s after e =
    let head : (name_of d k, x) ≡ n = head-same (name_of d k, x) n (named_statements d (k + 1) xs) (before ++ (name, s) ∷ after) e in
    let rest = goes-of-statements d (k + 1) xs before name s after (tail-same (name_of d k, x) n (named_statements d (k + 1) xs) (before ++ (name, s) ∷ after) e) in
    let number : name.statement ≡ k + 1 + rest.0.j = rest.0.number in (
      record {
        j = suc rest.0.j;
        number = omega (arith, number);
        left = ap (λ ys. x ∷ ys) rest.0.left ∙ ap (λ (m : Named). m.1 ∷ statements_named before ++ statements_named after) head;
      },
      rest.1,
    )

-- the same of documents: the statement is the j-th of the i-th
pub record OneGoesOf (d : ℕ) (xs : List Document) (before after : List Named) (name : StatementName) : Type 0 where
  pub i : ℕ
  pub j : ℕ
  pub document_number : name.document ≡ d + i
  pub statement_number : name.statement ≡ 1 + j
  pub left : document_statements (change_item (document_without (suc j)) (suc i) xs) ≡ statements_named before ++ statements_named after

pub goes-of-documents : (d : ℕ) (xs : List Document) (before : List Named) (name : StatementName) (s : Statement) (after : List Named) → named_documents d xs ≡ before ++ (name, s) ∷ after → OneGoesOf d xs before after name
goes-of-documents d [] [] name s after e = absurd (cc)
goes-of-documents d [] (n ∷ before) name s after e = absurd (cc)
goes-of-documents d (x ∷ xs) before name s after e =
    elim (joined (named_statements d 1 x.statements) (named_documents (d + 1) xs) before (name, s) after e) [
      | inl h ↦
          let one = goes-of-statements d 1 x.statements before name s h.between h.front_is in
          let number : name.document ≡ d = one.1 in
          record {
            i = 0;
            j = one.0.j;
            document_number = omega (arith, number);
            statement_number = one.0.number;
            left = ap (λ ys. ys ++ document_statements xs) one.0.left
                ∙ append_assoc (statements_named before) (statements_named h.between) (document_statements xs)
                ∙ ap (λ ys. statements_named before ++ (statements_named h.between ++ ys)) (sym (unnamed-documents (d + 1) xs))
                ∙ ap (λ ys. statements_named before ++ ys) (sym (map-append (λ (n : Named). n.1) h.between (named_documents (d + 1) xs)))
                ∙ ap (λ ns. statements_named before ++ statements_named ns) (sym h.after_is);
          }
      | inr h ↦
          let rest = goes-of-documents (d + 1) xs h.between name s after h.behind_is in
          let number : name.document ≡ d + 1 + rest.i = rest.document_number in
          record {
            i = suc rest.i;
            j = rest.j;
            document_number = omega (arith, number);
            statement_number = rest.statement_number;
            left = ap (λ ys. x.statements ++ ys) rest.left
                ∙ sym (append_assoc x.statements (statements_named h.between) (statements_named after))
                ∙ ap (λ ys. (ys ++ statements_named h.between) ++ statements_named after) (sym (unnamed-statements d 1 x.statements))
                ∙ ap (λ ys. ys ++ statements_named after) (sym (map-append (λ (n : Named). n.1) (named_statements d 1 x.statements) h.between))
                ∙ ap (λ ns. statements_named ns ++ statements_named after) (sym h.before_is);
          }
    ]

-- ---- the documents of the set, in one list

change-past : {T : Type 0} (f : T → T) (n : ℕ) (xs ys : List T) → change_item f n (xs ++ ys) ≡ change_item f n xs ++ change_item f (n - length xs) ys
change-past f n [] ys = let e : n - 0 ≡ n = omega arith in rw e refl
change-past f zero (x ∷ xs) ys = let e : 0 - suc (length xs) ≡ 0 = omega arith in rw e (ap (λ zs. x ∷ xs ++ zs) (sym (change-none f ys)))
change-past f (suc zero) (x ∷ xs) ys = let e : 1 - suc (length xs) ≡ 0 = omega arith in rw e (ap (λ zs. f x ∷ xs ++ zs) (sym (change-none f ys)))
change-past f (suc (suc n)) (x ∷ xs) ys = let e : suc (suc n) - suc (length xs) ≡ suc n - length xs = omega arith in rw e (ap (λ zs. x ∷ zs) (change-past f (suc n) xs ys))

guards-in-one : (n k : ℕ) (gs : List (List Document)) → guard_documents (guards_without n k gs) ≡ change_item (document_without k) n (guard_documents gs)
guards-in-one n k [] = refl
guards-in-one n k (g ∷ gs) =
    ap (λ ds. documents_without n k g ++ ds) (guards-in-one (n - length g) k gs) ∙ sym (change-past (document_without k) n g (guard_documents gs))

set-in-one : (set : PolicySet) (name : StatementName) → set_documents (without_statement set name) ≡ change_item (document_without name.statement) name.document (set_documents set)
set-in-one set name =
    ap (λ ds. documents_without name.document name.statement set.grants ++ ds) (guards-in-one (name.document - length set.grants) name.statement set.guards)
    ∙ sym (change-past (document_without name.statement) name.document set.grants (guard_documents set.guards))

pub takes-one : WithoutTakesOne
takes-one set name s before after is =
    let one = goes-of-documents 1 (set_documents set) before name s after (sym (named-all set) ∙ is) in
    let d : name.document ≡ 1 + one.i = one.document_number in
    let k : name.statement ≡ 1 + one.j = one.statement_number in
    let document : name.document ≡ suc one.i = omega (arith, d) in
    let statement : name.statement ≡ suc one.j = omega (arith, k) in
    let there : change_item (document_without name.statement) name.document (set_documents set) ≡ change_item (document_without (suc one.j)) (suc one.i) (set_documents set) =
    ap (λ m. change_item (document_without name.statement) m (set_documents set)) document ∙ ap (λ m. change_item (document_without m) (suc one.i) (set_documents set)) statement in
    record {
      statements = ap (λ ns. statements_named ns) (named-all (without_statement set name)) ∙ unnamed-documents 1 (set_documents (without_statement set name)) ∙ ap (λ ds. document_statements ds) (set-in-one set name ∙ there) ∙ one.left;
      grants = as-many (document_without name.statement) name.document set.grants;
      guards = same-lengths name.statement (name.document - length set.grants) set.guards;
    }
