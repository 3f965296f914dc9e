-- The first statement of a list that has an effect and applies, found piece by piece.
use Rattle.std.proofs.Common.{◌≡◌, ◌<◌, ◌≤◌, ◌+◌, ℕ, suc, List, [], ◌∷◌, ◌++◌, length, get_or, drop, take, Bool, Option, Some, None, All, refl, ap, sym, ◌∙◌, subst, arith}
use Rattle.std.proofs.Math.Seq.{drop-cons}
use Rattle.std.proofs.lemmas.List.{drop_all, take-append-drop, length-take-le, take_all}
use Rattle.std.specs.Option.{is_some}
use Rattle.std.proofs.Common.{true, false}
use Rattle.std.proofs.lemmas.List.Elements.{All-cons, All-nil, All-more}
use Rattle.policy_model.specs.Sets.{Decides, SomeDecides}
use Rattle.policy_model.specs.declared.schema.Schema.{Schema}
use Rattle.policy_model.specs.declared.request.Request.{Request}
use Rattle.policy_model.specs.declared.set.Statement.{Statement}
use Rattle.policy_model.specs.declared.set.StatementName.{StatementName}
use Rattle.policy_model.specs.declared.set.Document.{Document}
use Rattle.policy_model.specs.StatementNames.{Named, name_of, named_statements, named_documents, named_guards}
use Rattle.policy_eval.specs.Deciding.{NamedDecides, NoneDecides, FirstIs, IsFirstSilent, FirstSilentIs}

-- a statement before that doesn't decide
pub FirstIs-cons : (schema : Schema) (allow : Bool) (r : Request) (n : Named) (rest : List Named) (o : Option StatementName) → ¬ NamedDecides schema allow r n → FirstIs schema allow r rest o → FirstIs schema allow r (n ∷ rest) o
FirstIs-cons schema allow r n rest None not first = All-cons (λ m. ¬ NamedDecides schema allow r m) n rest not first
FirstIs-cons schema allow r n rest (Some name) not first = record {
  before = n ∷ first.before;
  statement = first.statement;
  after = first.after;
  is = ap (λ xs. n ∷ xs) first.is;
  none_before = All-cons (λ m. ¬ NamedDecides schema allow r m) n first.before not first.none_before;
  here = first.here;
}

-- the first statement decides
pub FirstIs-here : (schema : Schema) (allow : Bool) (r : Request) (name : StatementName) (s : Statement) (rest : List Named) → Decides schema allow r s → FirstIs schema allow r ((name, s) ∷ rest) (Some name)
FirstIs-here schema allow r name s rest here = record {
  before = [];
  statement = s;
  after = rest;
  is = refl;
  none_before = All-nil (λ m. ¬ NamedDecides schema allow r m);
  here = here;
}

-- what holds of each item holds of the first, and of the others
All-tail : {T : Type 0} (P : T → Type 0) (x : T) (xs : List T) → All P (x ∷ xs) → All P xs
All-tail P x xs all = λ k d h. all (suc k) d (omega arith)

All-head : {T : Type 0} (P : T → Type 0) (x : T) (xs : List T) → All P (x ∷ xs) → P x
All-head P x xs all = all 0 x (omega arith)

-- statements before of which none decides
pub FirstIs-behind : (schema : Schema) (allow : Bool) (r : Request) (xs ys : List Named) (o : Option StatementName) → NoneDecides schema allow r xs → FirstIs schema allow r ys o → FirstIs schema allow r (xs ++ ys) o
FirstIs-behind schema allow r [] ys o none first = first
FirstIs-behind schema allow r (x ∷ xs) ys o none first =
    FirstIs-cons schema allow r x (xs ++ ys) o (All-head (λ m. ¬ NamedDecides schema allow r m) x xs none)
    (FirstIs-behind schema allow r xs ys o (All-tail (λ m. ¬ NamedDecides schema allow r m) x xs none) first)

-- the names of the statements from an index on
pub named_statements-drop : (d s i : ℕ) (xs : List Statement) (x : Statement) → i < length xs →
    named_statements d s (drop i xs) ≡ (name_of d s, get_or xs i x) ∷ named_statements d (s + 1) (drop (i + 1) xs)
named_statements-drop d s i xs x h = let e : i + 1 ≡ suc i = omega arith in rw (e, drop-cons xs i x) refl

-- the names of the statements of the documents from an index on
pub named_documents-drop : (d i : ℕ) (xs : List Document) (x : Document) → i < length xs →
    named_documents d (drop i xs) ≡ named_statements d 1 (get_or xs i x).statements ++ named_documents (d + 1) (drop (i + 1) xs)
named_documents-drop d i xs x h = let e : i + 1 ≡ suc i = omega arith in rw (e, drop-cons xs i x) refl

-- the same of guards
pub named_guards-drop : (d i : ℕ) (xs : List (List Document)) (x : List Document) → i < length xs →
    named_guards d (drop i xs) ≡ named_documents d (get_or xs i x) ++ named_guards (d + length (get_or xs i x)) (drop (i + 1) xs)
named_guards-drop d i xs x h = let e : i + 1 ≡ suc i = omega arith in rw (e, drop-cons xs i x) refl

-- at a statement that decides, and past one that doesn't
pub statement-found : (schema : Schema) (allow : Bool) (r : Request) (d i : ℕ) (xs : List Statement) (x : Statement) (name : StatementName) → i < length xs → name ≡ name_of d (1 + i) → Decides schema allow r (get_or xs i x) →
    FirstIs schema allow r (named_statements d (1 + i) (drop i xs)) (Some name)
statement-found schema allow r d i xs x name h is here =
    rw (named_statements-drop d (1 + i) i xs x h, is) (FirstIs-here schema allow r (name_of d (1 + i)) (get_or xs i x) (named_statements d (1 + i + 1) (drop (i + 1) xs)) here)

pub statement-passed : (schema : Schema) (allow : Bool) (r : Request) (d i : ℕ) (xs : List Statement) (x : Statement) → i < length xs → ¬ Decides schema allow r (get_or xs i x) → (o : Option StatementName) →
    FirstIs schema allow r (named_statements d (1 + (i + 1)) (drop (i + 1) xs)) o → FirstIs schema allow r (named_statements d (1 + i) (drop i xs)) o
statement-passed schema allow r d i xs x h not o first =
    let e : 1 + (i + 1) ≡ 1 + i + 1 = omega arith in
    rw (named_statements-drop d (1 + i) i xs x h) (FirstIs-cons schema allow r (name_of d (1 + i), get_or xs i x) (named_statements d (1 + i + 1) (drop (i + 1) xs)) o not (rw e at first))

pub document-passed : (schema : Schema) (allow : Bool) (r : Request) (d i : ℕ) (xs : List Document) (x : Document) → i < length xs → FirstIs schema allow r (named_statements (d + i) 1 (get_or xs i x).statements) None → (o : Option StatementName) →
    FirstIs schema allow r (named_documents (d + (i + 1)) (drop (i + 1) xs)) o → FirstIs schema allow r (named_documents (d + i) (drop i xs)) o
document-passed schema allow r d i xs x h none o first =
    let e : d + (i + 1) ≡ d + i + 1 = omega arith in
    rw (named_documents-drop (d + i) i xs x h) (FirstIs-behind schema allow r (named_statements (d + i) 1 (get_or xs i x).statements) (named_documents (d + i + 1) (drop (i + 1) xs)) o none (rw e at first))

pub guard-passed : (schema : Schema) (allow : Bool) (r : Request) (d i : ℕ) (xs : List (List Document)) (x : List Document) → i < length xs → FirstIs schema allow r (named_documents d (get_or xs i x)) None → (o : Option StatementName) →
    FirstIs schema allow r (named_guards (d + length (get_or xs i x)) (drop (i + 1) xs)) o → FirstIs schema allow r (named_guards d (drop i xs)) o
guard-passed schema allow r d i xs x h none o first =
    rw (named_guards-drop d i xs x h) (FirstIs-behind schema allow r (named_documents d (get_or xs i x)) (named_guards (d + length (get_or xs i x)) (drop (i + 1) xs)) o none first)

-- nothing is left
pub statements-left : (schema : Schema) (allow : Bool) (r : Request) (d s i : ℕ) (xs : List Statement) → length xs ≤ i → FirstIs schema allow r (named_statements d s (drop i xs)) None
statements-left schema allow r d s i xs h = let e : drop i xs ≡ [] = drop_all i xs h in rw e (All-nil (λ m. ¬ NamedDecides schema allow r m))

pub documents-left : (schema : Schema) (allow : Bool) (r : Request) (d i : ℕ) (xs : List Document) → length xs ≤ i → FirstIs schema allow r (named_documents d (drop i xs)) None
documents-left schema allow r d i xs h = let e : drop i xs ≡ [] = drop_all i xs h in rw e (All-nil (λ m. ¬ NamedDecides schema allow r m))

pub guards-left : (schema : Schema) (allow : Bool) (r : Request) (d i : ℕ) (xs : List (List Document)) → length xs ≤ i → FirstIs schema allow r (named_guards d (drop i xs)) None
guards-left schema allow r d i xs h = let e : drop i xs ≡ [] = drop_all i xs h in rw e (All-nil (λ m. ¬ NamedDecides schema allow r m))

-- what a call answered, by its variant
pub first-none : (schema : Schema) (allow : Bool) (r : Request) (xs ys : List Named) (o : Option StatementName) → is_some o ≡ false → xs ≡ ys → FirstIs schema allow r xs o → FirstIs schema allow r ys None
first-none schema allow r xs ys None e same first = subst (λ (zs : List Named). FirstIs schema allow r zs None) same first
first-none schema allow r xs ys (Some name) e same first = absurd (cc)

-- at a guard without an Allow statement that applies
pub silent-found : (schema : Schema) (r : Request) (i : ℕ) (xs : List (List Document)) (x : List Document) → i < length xs → All (SomeDecides schema true r) (take i xs) → ¬ SomeDecides schema true r (get_or xs i x) → IsFirstSilent schema r xs (i + 1)
silent-found schema r i xs x h before silent = record {
  before = take i xs;
  guard = get_or xs i x;
  after = drop (suc i) xs;
  is = sym (take-append-drop i xs) ∙ ap (λ ys. take i xs ++ ys) (drop-cons xs i x h);
  number = omega (arith, length-take-le {A = List Document});
  none_before = before;
  silent = silent;
}

-- past a guard that has one, and behind the last
pub guard-allows : (schema : Schema) (r : Request) (i : ℕ) (xs : List (List Document)) (x : List Document) → i < length xs → x ≡ get_or xs i x → SomeDecides schema true r x → All (SomeDecides schema true r) (take i xs) →
    All (SomeDecides schema true r) (take (i + 1) xs)
guard-allows schema r i xs x h is here before = All-more (SomeDecides schema true r) xs i x h before (subst (SomeDecides schema true r) is here)

pub guards-allow : (schema : Schema) (r : Request) (i : ℕ) (xs : List (List Document)) → length xs ≤ i → All (SomeDecides schema true r) (take i xs) → All (SomeDecides schema true r) xs
guards-allow schema r i xs h all = let e : take i xs ≡ xs = take_all i xs h in rw e at all

pub guards-fail : (schema : Schema) (r : Request) (i : ℕ) (xs : List (List Document)) (x : List Document) → i < length xs → x ≡ get_or xs i x → ¬ SomeDecides schema true r x → ¬ All (SomeDecides schema true r) xs
guards-fail schema r i xs x h is silent all = silent (subst (SomeDecides schema true r) (sym is) (all i x h))

-- an answer at an equal list
pub FirstIs-at : (schema : Schema) (allow : Bool) (r : Request) (xs ys : List Named) (o v : Option StatementName) → o ≡ v → xs ≡ ys → FirstIs schema allow r xs o → FirstIs schema allow r ys v
FirstIs-at schema allow r xs ys o v e f first = subst (λ (zs : List Named). FirstIs schema allow r zs v) f (subst (λ (w : Option StatementName). FirstIs schema allow r xs w) e first)

pub FirstSilentIs-at : (schema : Schema) (r : Request) (xs ys : List (List Document)) (o v : Option ℕ) → o ≡ v → xs ≡ ys → FirstSilentIs schema r xs o → FirstSilentIs schema r ys v
FirstSilentIs-at schema r xs ys o v e f first = subst (λ (zs : List (List Document)). FirstSilentIs schema r zs v) f (subst (λ (w : Option ℕ). FirstSilentIs schema r xs w) e first)
