-- Where a named statement stands: its document among those of the set, and itself in its document.
use Rattle.std.proofs.Common.{◌≡◌, ◌↔◌, ◌+◌, ◌-◌, ◌≤◌, ℕ, suc, Bool, IsTrue, List, [], ◌∷◌, ◌++◌, length, slice_get, Some, None, inl, inr, refl, ap, sym, ◌∙◌, subst, arith}
use Rattle.std.specs.Prelude.{Contains}
use Rattle.std.proofs.lemmas.List.{append_assoc}
use Rattle.std.proofs.lemmas.List.Elements.{Contains-append_cases, Contains-append_left}
use Rattle.std.proofs.lemmas.Option.{same_Some, none-some}
use Rattle.policy_model.specs.declared.set.Document.{Document}
use Rattle.policy_model.specs.declared.set.PolicySet.{PolicySet}
use Rattle.policy_model.specs.declared.set.Statement.{Statement}
use Rattle.policy_model.specs.declared.set.StatementName.{StatementName}
use Rattle.policy_model.specs.StatementNames.{Named, named_documents, named_grants, named_guards, named_set, named_statements}
use Rattle.set_questions.proofs.Placed.{Place, document-found, document-from-one, document-within, in-documents, statement-found, statement-from-one}
use Rattle.set_questions.specs.Idle.{IsNameIn, EachNamed}
use Rattle.set_questions.specs.SetDocuments.{guard_documents, set_documents}

-- ---- documents one after another

-- the documents of two lists, and those of guards, in one list
named-append : (d : ℕ) (xs ys : List Document) → named_documents d (xs ++ ys) ≡ named_documents d xs ++ named_documents (d + length xs) ys
named-append d [] ys = let e : d + 0 ≡ d = omega arith in rw e refl
named-append d (x ∷ xs) ys =
    let e : d + suc (length xs) ≡ d + 1 + length xs = omega arith in
    ap (λ ns. named_statements d 1 x.statements ++ ns) (named-append (d + 1) xs ys)
    ∙ sym (append_assoc (named_statements d 1 x.statements) (named_documents (d + 1) xs) (named_documents (d + 1 + length xs) ys))
    ∙ ap (λ k. (named_statements d 1 x.statements ++ named_documents (d + 1) xs) ++ named_documents k ys) (sym e)

named-guards : (d : ℕ) (gs : List (List Document)) → named_guards d gs ≡ named_documents d (guard_documents gs)
named-guards d [] = refl
named-guards d (g ∷ gs) = ap (λ ns. named_documents d g ++ ns) (named-guards (d + length g) gs) ∙ sym (named-append d g (guard_documents gs))

pub named-all : (set : PolicySet) → named_set set ≡ named_documents 1 (set_documents set)
named-all set = ap (λ ns. named_documents 1 set.grants ++ ns) (named-guards (1 + length set.grants) set.guards) ∙ sym (named-append 1 set.grants (guard_documents set.guards))

-- ---- places

pub place-of : (set : PolicySet) (name : StatementName) (s : Statement) → Contains (named_set set) (name, s) → Place 1 (set_documents set) name s
place-of set name s at = in-documents 1 (set_documents set) name s (subst (λ (ns : List Named). Contains ns (name, s)) (named-all set) at)

-- ---- names

-- a statement has the name
pub named-there : (set : PolicySet) (name : StatementName) → IsNameIn set name → (s : Statement) × Contains (named_set set) (name, s)
named-there set name (k, n, h, e, is) = (n.1, subst (λ (m : StatementName). Contains (named_set set) (m, n.1)) is (k, h, e))

-- the statements of the grants are statements of the set
pub granted-there : (set : PolicySet) (name : StatementName) (s : Statement) → Contains (named_grants set) (name, s) → Contains (named_set set) (name, s)
granted-there set name s at = Contains-append_left (named_grants set) (named_guards (1 + length set.grants) set.guards) (name, s) at

pub placed : (set : PolicySet) (name : StatementName) → IsNameIn set name → (s : Statement) × Place 1 (set_documents set) name s
placed set name is = let there = named-there set name is in (there.0, place-of set name there.0 there.1)

-- numbers count from 1
pub numbers-from-one : (set : PolicySet) (name : StatementName) → IsNameIn set name → (1 ≤ name.document) × (1 ≤ name.statement)
numbers-from-one set name is =
    let p = placed set name is in
    (document-from-one (set_documents set) name p.0 p.1, statement-from-one (set_documents set) name p.0 p.1)

-- the document is there, and the statement is there in it
pub document-there : (set : PolicySet) (name : StatementName) → IsNameIn set name → slice_get (set_documents set) (name.document - 1) ≡ None → ⊥
document-there set name is none = let p = placed set name is in none-some p.1.document (sym none ∙ document-found (set_documents set) name p.0 p.1)

pub statement-there : (set : PolicySet) (name : StatementName) (x : Document) → IsNameIn set name → slice_get (set_documents set) (name.document - 1) ≡ Some x → slice_get x.statements (name.statement - 1) ≡ None → ⊥
statement-there set name x is found none =
    let p = placed set name is in
    let same : p.1.document ≡ x = same_Some _ _ (sym (document-found (set_documents set) name p.0 p.1) ∙ found) in
    none-some p.0 (sym none ∙ subst (λ (d : Document). slice_get d.statements (name.statement - 1) ≡ Some p.0) same (statement-found (set_documents set) name p.0 p.1))

-- the statement that is found there is the named one
pub statement-is : (set : PolicySet) (name : StatementName) (x : Document) (t : Statement) → slice_get (set_documents set) (name.document - 1) ≡ Some x → slice_get x.statements (name.statement - 1) ≡ Some t → EachNamed set name (λ s. t ≡ s)
statement-is set name x t found here s at =
    let p = place-of set name s at in
    let same : p.document ≡ x = same_Some _ _ (sym (document-found (set_documents set) name s p) ∙ found) in
    let there : slice_get x.statements (name.statement - 1) ≡ Some s = subst (λ (d : Document). slice_get d.statements (name.statement - 1) ≡ Some s) same (statement-found (set_documents set) name s p) in
    same_Some _ _ (sym here ∙ there)
