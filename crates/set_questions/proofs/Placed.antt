-- Where a named statement of documents stands: its document among them, and itself in its document.
use Rattle.std.proofs.Common.{◌≡◌, ◌⊎◌, ◌+◌, ◌-◌, ◌<◌, ◌≤◌, ℕ, suc, zero, List, [], ◌∷◌, length, get_or, slice_get, Some, inl, inr, refl, ap, sym, subst, arith}
use Rattle.std.specs.Prelude.{Contains}
use Rattle.std.proofs.lemmas.List.Elements.{Contains-append_cases}
use Rattle.std.proofs.lemmas.Option.{get_or_from_slice_get, same_Some, slice_get_within}
use Rattle.policy_model.specs.declared.set.Document.{Document}
use Rattle.policy_model.specs.declared.set.Statement.{Statement}
use Rattle.policy_model.specs.declared.set.StatementName.{StatementName}
use Rattle.policy_model.specs.StatementNames.{Named, name_of, named_documents, named_statements}

-- ---- membership

none-there : {T : Type 0} (y : T) → Contains [] y → ⊥
none-there y at = let h = at.1 in omega arith

pub there-cases : {T : Type 0} (x y : T) (xs : List T) → Contains (x ∷ xs) y → (x ≡ y) ⊎ Contains xs y
there-cases x y xs (zero, h, e) = inl e
there-cases x y xs (suc k, h, e) = inr (k, omega (arith, h), e)

-- ---- places

-- the named statement is the j-th, counted from 0, of the i-th document, whose number counts on from d
pub record Place (d : ℕ) (xs : List Document) (name : StatementName) (s : Statement) : Type 0 where
  pub i : ℕ
  pub j : ℕ
  pub document : Document
  pub document_number : name.document ≡ d + i
  pub statement_number : name.statement ≡ 1 + j
  pub document_is : slice_get xs i ≡ Some document
  pub statement_is : slice_get document.statements j ≡ Some s

in-statements : (d k : ℕ) (xs : List Statement) (name : StatementName) (s : Statement) → Contains (named_statements d k xs) (name, s) → (j : ℕ) × (name.document ≡ d) × (name.statement ≡ k + j) × (slice_get xs j ≡ Some s)
in-statements d k [] name s at = absurd (none-there (name, s) at)
in-statements d k (x ∷ xs) name s at = elim (there-cases (name_of d k, x) (name, s) (named_statements d (k + 1) xs) at) [
  | inl e ↦
      let same : k ≡ name.statement = ap (λ (n : Named). n.0.statement) e in
      (0, sym (ap (λ (n : Named). n.0.document) e), omega (arith, same), ap (λ (n : Named). Some n.1) e)
  | inr later ↦
      let rest = in-statements d (k + 1) xs name s later in
      let number : name.statement ≡ k + 1 + rest.0 = rest.2 in
      (suc rest.0, rest.1, omega (arith, number), rest.3)
]

pub in-documents : (d : ℕ) (xs : List Document) (name : StatementName) (s : Statement) → Contains (named_documents d xs) (name, s) → Place d xs name s
in-documents d [] name s at = absurd (none-there (name, s) at)
in-documents d (x ∷ xs) name s at = elim (Contains-append_cases (named_statements d 1 x.statements) (named_documents (d + 1) xs) (name, s) at) [
  | inl front ↦
      let here = in-statements d 1 x.statements name s front in
      let number : name.document ≡ d = here.1 in
      record { i = 0; j = here.0; document = x; document_number = omega (arith, number); statement_number = here.2; document_is = refl; statement_is = here.3 }
  | inr behind ↦
      let rest = in-documents (d + 1) xs name s behind in
      let number : name.document ≡ d + 1 + rest.i = rest.document_number in
      record { i = suc rest.i; j = rest.j; document = rest.document; document_number = omega (arith, number); statement_number = rest.statement_number; document_is = rest.document_is; statement_is = rest.statement_is }
]

-- the numbers of a name, which count from 1, by which its statement is found
module _ (documents : List Document) (name : StatementName) (s : Statement) (p : Place 1 documents name s) where
  pub document-from-one : 1 ≤ name.document
  document-from-one = let d : name.document ≡ 1 + p.i = p.document_number in omega (arith, d)

  pub statement-from-one : 1 ≤ name.statement
  statement-from-one = let k : name.statement ≡ 1 + p.j = p.statement_number in omega (arith, k)

  pub document-found : slice_get documents (name.document - 1) ≡ Some p.document
  document-found =
      let d : name.document ≡ 1 + p.i = p.document_number in
      let e : name.document - 1 ≡ p.i = omega (arith, d) in
      rw e p.document_is

  pub statement-found : slice_get p.document.statements (name.statement - 1) ≡ Some s
  statement-found =
      let k : name.statement ≡ 1 + p.j = p.statement_number in
      let e : name.statement - 1 ≡ p.j = omega (arith, k) in
      rw e p.statement_is

  pub document-within : name.document - 1 < length documents
  document-within = slice_get_within documents (name.document - 1) p.document document-found
