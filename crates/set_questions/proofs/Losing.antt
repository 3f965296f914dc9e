-- A set that loses a statement: each document stays, or goes without the statement once.
use Rattle.std.proofs.Common.{◌≡◌, ◌⊎◌, ◌+◌, ◌-◌, ◌<◌, ◌≤◌, ℕ, suc, zero, List, [], ◌∷◌, ◌++◌, length, All, slice_get, Some, inl, inr, refl, ap, sym, ◌∙◌, subst, arith}
use Rattle.std.specs.Prelude.{Any, Contains}
use Rattle.std.specs.List.{AllZip}
use Rattle.std.proofs.lemmas.List.Elements.{All-cons, All-head, All-nil, All-tail}
use Rattle.std.proofs.lemmas.Bool.{cases_lt}
use Rattle.std.proofs.lemmas.Option.{same_Some}
use Rattle.policy_model.proofs.Laws.{Any-here, Any-later, Any-nil, Any-split}
use Rattle.policy_model.specs.declared.set.Document.{Document}
use Rattle.policy_model.specs.declared.set.PolicySet.{PolicySet}
use Rattle.policy_model.specs.declared.set.Statement.{Statement}
use Rattle.policy_model.specs.declared.set.StatementName.{StatementName}
use Rattle.policy_model.specs.StatementNames.{named_set}
use Rattle.set_questions.specs.Removal.{document_without, documents_without, guards_without, without_statement, without_item}
use Rattle.set_questions.specs.SetDocuments.{guard_documents, set_documents}
use Rattle.set_questions.proofs.Removing.{change-none}
use Rattle.set_questions.proofs.Counting.{slice_get-behind}
use Rattle.set_questions.proofs.Placing.{place-of}

-- the second document is the first without one of its statements that is s
pub record Cut (s : Statement) (d e : Document) : Type 0 where
  pub before : List Statement
  pub after : List Statement
  pub whole : d.statements ≡ before ++ s ∷ after
  pub rest : e.statements ≡ before ++ after

abbrev pub Loses : Statement → Document → Document → Type 0
Loses s d e = (e ≡ d) ⊎ Cut s d e

-- document by document
abbrev pub EachLoses : Statement → List Document → List Document → Type 0
EachLoses s ds es = AllZip (Loses s) ds es

pub record SetLoses (s : Statement) (set part : PolicySet) : Type 0 where
  pub grants : EachLoses s set.grants part.grants
  pub guards : AllZip (EachLoses s) set.guards part.guards

-- ---- a statement that is cut

cut-list : (s : Statement) (j : ℕ) (xs : List Statement) → slice_get xs j ≡ Some s → (before after : List Statement) × (xs ≡ before ++ s ∷ after) × (without_item (suc j) xs ≡ before ++ after)
cut-list s j [] at = absurd (cc)
cut-list s zero (x ∷ xs) at = ([], xs, ap (λ y. y ∷ xs) (same_Some x s at), refl)
cut-list s (suc j) (x ∷ xs) at = let c = cut-list s j xs at in (x ∷ c.0, c.1, ap (λ ys. x ∷ ys) c.2, ap (λ ys. x ∷ ys) c.3)

cut-document : (s : Statement) (j : ℕ) (d : Document) → slice_get d.statements j ≡ Some s → Cut s d (document_without (suc j) d)
cut-document s j d at = let c = cut-list s j d.statements at in record { before = c.0; after = c.1; whole = c.2; rest = c.3 }

keeps : (s : Statement) (ds : List Document) → EachLoses s ds ds
keeps s [] = tt
keeps s (d ∷ ds) = (inl refl, keeps s ds)

each-keeps : (s : Statement) (gs : List (List Document)) → AllZip (EachLoses s) gs gs
each-keeps s [] = tt
each-keeps s (g ∷ gs) = (keeps s g, each-keeps s gs)

pub guards-none : (k : ℕ) (gs : List (List Document)) → guards_without 0 k gs ≡ gs
guards-none k [] = refl
guards-none k (g ∷ gs) =
    let e : 0 - length g ≡ 0 = omega arith in
    rw e (ap (λ h. h ∷ guards_without 0 k gs) (change-none (document_without k) g) ∙ ap (λ hs. g ∷ hs) (guards-none k gs))

module _ (s : Statement) (j : ℕ) (x : Document) (here : slice_get x.statements j ≡ Some s) where
  change-loses : (i : ℕ) (ds rest : List Document) → slice_get (ds ++ rest) i ≡ Some x → EachLoses s ds (documents_without (suc i) (suc j) ds)
  change-loses i [] rest at = tt
  change-loses zero (d ∷ ds) rest at =
      let same : x ≡ d = sym (same_Some d x at) in
      (inr (cut-document s j d (subst (λ (y : Document). slice_get y.statements j ≡ Some s) same here)), keeps s ds)
  change-loses (suc i) (d ∷ ds) rest at = (inl refl, change-loses i ds rest at)

  -- the guards behind documents
  guards-behind : (i : ℕ) (ds : List Document) (gs : List (List Document)) → ((k : ℕ) → slice_get (guard_documents gs) k ≡ Some x → AllZip (EachLoses s) gs (guards_without (suc k) (suc j) gs)) →
      ((i < length ds) ⊎ (length ds ≤ i)) → slice_get (ds ++ guard_documents gs) i ≡ Some x → AllZip (EachLoses s) gs (guards_without (suc i - length ds) (suc j) gs)
  guards-behind i ds gs rest (inl within) at =
      let e : suc i - length ds ≡ 0 = omega (arith, within) in
      rw e (subst (λ (hs : List (List Document)). AllZip (EachLoses s) gs hs) (sym (guards-none (suc j) gs)) (each-keeps s gs))
  guards-behind i ds gs rest (inr past) at =
      let e : suc i - length ds ≡ suc (i - length ds) = omega (arith, past) in
      rw e (rest (i - length ds) (sym (slice_get-behind ds (guard_documents gs) i past) ∙ at))

  guards-lose : (i : ℕ) (gs : List (List Document)) → slice_get (guard_documents gs) i ≡ Some x → AllZip (EachLoses s) gs (guards_without (suc i) (suc j) gs)
  guards-lose i [] at = tt
  guards-lose i (g ∷ gs) at = (change-loses i g (guard_documents gs) at, guards-behind i g gs (λ k there. guards-lose k gs there) (cases_lt i (length g)) at)

  abbrev without_at : PolicySet → ℕ → ℕ → PolicySet
  without_at set n k = record { grants = documents_without n k set.grants; guards = guards_without (n - length set.grants) k set.guards }

  set-at : (i : ℕ) (set : PolicySet) → slice_get (set_documents set) i ≡ Some x → SetLoses s set (without_at set (suc i) (suc j))
  set-at i set at = record {
    grants = change-loses i set.grants (guard_documents set.guards) at;
    guards = guards-behind i set.grants set.guards (λ k there. guards-lose k set.guards there) (cases_lt i (length set.grants)) at;
  }

  set-numbered : (i n k : ℕ) (set : PolicySet) → n ≡ suc i → k ≡ suc j → slice_get (set_documents set) i ≡ Some x → SetLoses s set (without_at set n k)
  set-numbered i n k set document statement at =
      subst (λ (m : ℕ). SetLoses s set (without_at set m k)) (sym document)
      (subst (λ (m : ℕ). SetLoses s set (without_at set (suc i) m)) (sym statement) (set-at i set at))

-- the set loses the named statement
pub set-loses : (set : PolicySet) (name : StatementName) (s : Statement) → Contains (named_set set) (name, s) → SetLoses s set (without_statement set name)
set-loses set name s at =
    let p = place-of set name s at in
    let d : name.document ≡ 1 + p.i = p.document_number in
    let k : name.statement ≡ 1 + p.j = p.statement_number in
    set-numbered s p.j p.document p.statement_is p.i name.document name.statement set (omega (arith, d)) (omega (arith, k)) p.document_is

-- ---- some and all of lists that go item by item

pub zip-any : {T : Type 0} (R : T → T → Type 0) (P Q : T → Type 0) → ((x y : T) → R x y → Q y → P x) → (xs ys : List T) → AllZip R xs ys → Any Q ys → Any P xs
zip-any R P Q moves [] [] both some = absurd (Any-nil Q some)
zip-any R P Q moves [] (y ∷ ys) both some = absurd both
zip-any R P Q moves (x ∷ xs) [] both some = absurd both
zip-any R P Q moves (x ∷ xs) (y ∷ ys) both some = elim (Any-split Q y ys some) [
  | inl q ↦ Any-here P x xs (moves x y both.0 q)
  | inr later ↦ Any-later P x xs (zip-any R P Q moves xs ys both.1 later)
]

pub zip-any-back : {T : Type 0} (R : T → T → Type 0) (P Q : T → Type 0) → ((x y : T) → R x y → P x → Q y) → (xs ys : List T) → AllZip R xs ys → Any P xs → Any Q ys
zip-any-back R P Q moves [] [] both some = absurd (Any-nil P some)
zip-any-back R P Q moves [] (y ∷ ys) both some = absurd both
zip-any-back R P Q moves (x ∷ xs) [] both some = absurd both
zip-any-back R P Q moves (x ∷ xs) (y ∷ ys) both some = elim (Any-split P x xs some) [
  | inl p ↦ Any-here Q y ys (moves x y both.0 p)
  | inr later ↦ Any-later Q y ys (zip-any-back R P Q moves xs ys both.1 later)
]

pub zip-all : {T : Type 0} (R : T → T → Type 0) (P Q : T → Type 0) → ((x y : T) → R x y → Q y → P x) → (xs ys : List T) → AllZip R xs ys → All Q ys → All P xs
zip-all R P Q moves [] [] both each = All-nil P
zip-all R P Q moves [] (y ∷ ys) both each = absurd both
zip-all R P Q moves (x ∷ xs) [] both each = absurd both
zip-all R P Q moves (x ∷ xs) (y ∷ ys) both each = All-cons P x xs (moves x y both.0 (All-head Q y ys each)) (zip-all R P Q moves xs ys both.1 (All-tail Q y ys each))

pub zip-all-back : {T : Type 0} (R : T → T → Type 0) (P Q : T → Type 0) → ((x y : T) → R x y → P x → Q y) → (xs ys : List T) → AllZip R xs ys → All P xs → All Q ys
zip-all-back R P Q moves [] [] both each = All-nil Q
zip-all-back R P Q moves [] (y ∷ ys) both each = absurd both
zip-all-back R P Q moves (x ∷ xs) [] both each = absurd both
zip-all-back R P Q moves (x ∷ xs) (y ∷ ys) both each = All-cons Q y ys (moves x y both.0 (All-head P x xs each)) (zip-all-back R P Q moves xs ys both.1 (All-tail P x xs each))

-- ---- statements

more-some : (P : Statement → Type 0) (s : Statement) (before after : List Statement) → Any P (before ++ after) → Any P (before ++ s ∷ after)
more-some P s [] after some = Any-later P s after some
more-some P s (x ∷ before) after some = elim (Any-split P x (before ++ after) some) [
  | inl p ↦ Any-here P x (before ++ s ∷ after) p
  | inr later ↦ Any-later P x (before ++ s ∷ after) (more-some P s before after later)
]

less-some : (P : Statement → Type 0) (s : Statement) → (P s → ⊥) → (before after : List Statement) → Any P (before ++ s ∷ after) → Any P (before ++ after)
less-some P s not [] after some = elim (Any-split P s after some) [ inl p ↦ absurd (not p) | inr later ↦ later ]
less-some P s not (x ∷ before) after some = elim (Any-split P x (before ++ s ∷ after) some) [
  | inl p ↦ Any-here P x (before ++ after) p
  | inr later ↦ Any-later P x (before ++ after) (less-some P s not before after later)
]

-- a statement of the document that is left is one of the whole, and one other than s is left
document-more : (P : Statement → Type 0) (s : Statement) (d e : Document) → Loses s d e → Any P e.statements → Any P d.statements
document-more P s d e (inl same) some = subst (λ (x : Document). Any P x.statements) same some
document-more P s d e (inr cut) some = subst (Any P) (sym cut.whole) (more-some P s cut.before cut.after (subst (Any P) cut.rest some))

document-less : (P : Statement → Type 0) (s : Statement) → (P s → ⊥) → (d e : Document) → Loses s d e → Any P d.statements → Any P e.statements
document-less P s not d e (inl same) some = subst (λ (x : Document). Any P x.statements) (sym same) some
document-less P s not d e (inr cut) some = subst (Any P) (sym cut.rest) (less-some P s not cut.before cut.after (subst (Any P) cut.whole some))

-- the same of documents
pub some-more : (P : Statement → Type 0) (s : Statement) (ds es : List Document) → EachLoses s ds es → Any (λ e. Any P e.statements) es → Any (λ d. Any P d.statements) ds
some-more P s ds es lose some = zip-any (Loses s) (λ d. Any P d.statements) (λ e. Any P e.statements) (document-more P s) ds es lose some

pub some-less : (P : Statement → Type 0) (s : Statement) → (P s → ⊥) → (ds es : List Document) → EachLoses s ds es → Any (λ d. Any P d.statements) ds → Any (λ e. Any P e.statements) es
some-less P s not ds es lose some = zip-any-back (Loses s) (λ d. Any P d.statements) (λ e. Any P e.statements) (document-less P s not) ds es lose some
