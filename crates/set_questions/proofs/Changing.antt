-- What a set without a statement allows, which schemas fit it, and which tests it asks.
use Rattle.std.proofs.Common.{◌≡◌, ◌+◌, ◌-◌, ◌≤◌, ℕ, suc, zero, List, [], ◌∷◌, length, map, All, Bool, true, false, inl, inr, refl, ap, sym, ◌∙◌, arith}
use Rattle.std.specs.Prelude.{sum_by}
use Rattle.std.specs.List.{sum}
use Rattle.std.proofs.lemmas.List.Sums.{sum-map}
use Rattle.std.proofs.lemmas.List.Elements.{All-cons, All-head, All-tail}
use Rattle.policy_model.specs.declared.request.Request.{Request}
use Rattle.policy_model.specs.declared.schema.Schema.{Schema}
use Rattle.policy_model.specs.declared.set.Document.{Document}
use Rattle.policy_model.specs.declared.set.PolicySet.{PolicySet}
use Rattle.policy_model.specs.declared.set.Statement.{Statement}
use Rattle.policy_model.specs.declared.set.StatementName.{StatementName}
use Rattle.policy_model.specs.Sets.{Allows, Decides, SomeDecides}
use Rattle.policy_model.specs.Soundness.{ConditionFits, DocumentFits, DocumentIsSound, IsSound, SchemaFits, StatementIsSound}
use Rattle.policy_compile.specs.Asked.{HasStatementsOf, SomeStatementIn}
use Rattle.set_questions.specs.Removal.{change_item, document_without, documents_without, guards_without, without_statement, without_item}
use Rattle.set_questions.proofs.Losing.{EachLoses, SetLoses, some-less, some-more, zip-all, zip-all-back, zip-any, zip-any-back}

-- ---- what is allowed

module _ (schema : Schema) (s : Statement) (set part : PolicySet) (lose : SetLoses s set part) (r : Request) where
  -- a statement of the part that decides is one of the set
  decides-more : (allow : Bool) (ds es : List Document) → EachLoses s ds es → SomeDecides schema allow r es → SomeDecides schema allow r ds
  decides-more allow ds es each some = some-more (Decides schema allow r) s ds es each some

  -- one of the set with the other effect is one of the part
  decides-less : (allow : Bool) → (s.allow ≡ allow → ⊥) → (ds es : List Document) → EachLoses s ds es → SomeDecides schema allow r ds → SomeDecides schema allow r es
  decides-less allow other ds es each some = some-less (Decides schema allow r) s (λ d. other d.0) ds es each some

  -- by an Allow the set can only allow more
  pub allow-adds : s.allow ≡ true → Allows schema part r → Allows schema set r
  allow-adds is h =
      let other : s.allow ≡ false → ⊥ = λ e. absurd (cc) in
      record {
        granted = decides-more true set.grants part.grants lose.grants h.granted;
        guarded = zip-all (EachLoses s) (SomeDecides schema true r) (SomeDecides schema true r) (decides-more true) set.guards part.guards lose.guards h.guarded;
        not_denied = λ some. h.not_denied (decides-less false other set.grants part.grants lose.grants some);
        not_denied_by_guard = λ some. h.not_denied_by_guard (zip-any-back (EachLoses s) (SomeDecides schema false r) (SomeDecides schema false r) (decides-less false other) set.guards part.guards lose.guards some);
      }

  -- by a Deny it can only allow less
  pub deny-takes : s.allow ≡ false → Allows schema set r → Allows schema part r
  deny-takes is h =
      let other : s.allow ≡ true → ⊥ = λ e. absurd (cc) in
      record {
        granted = decides-less true other set.grants part.grants lose.grants h.granted;
        guarded = zip-all-back (EachLoses s) (SomeDecides schema true r) (SomeDecides schema true r) (decides-less true other) set.guards part.guards lose.guards h.guarded;
        not_denied = λ some. h.not_denied (decides-more false set.grants part.grants lose.grants some);
        not_denied_by_guard = λ some. h.not_denied_by_guard (zip-any (EachLoses s) (SomeDecides schema false r) (SomeDecides schema false r) (decides-more false) set.guards part.guards lose.guards some);
      }

-- ---- which tests are asked

-- each statement of the part is one of the set
pub part-among : (s : Statement) (set part : PolicySet) → SetLoses s set part → HasStatementsOf set part
part-among s set part lose t (inl some) = inl (some-more (λ u. u ≡ t) s set.grants part.grants lose.grants some)
part-among s set part lose t (inr some) =
    inr (zip-any (EachLoses s) (SomeStatementIn (λ u. u ≡ t)) (SomeStatementIn (λ u. u ≡ t)) (some-more (λ u. u ≡ t) s) set.guards part.guards lose.guards some)

-- ---- which schemas fit

all-without : {T : Type 0} (P : T → Type 0) (n : ℕ) (xs : List T) → All P xs → All P (without_item n xs)
all-without P n [] each = each
all-without P zero (x ∷ xs) each = each
all-without P (suc zero) (x ∷ xs) each = All-tail P x xs each
all-without P (suc (suc n)) (x ∷ xs) each = All-cons P x (without_item (suc n) xs) (All-head P x xs each) (all-without P (suc n) xs (All-tail P x xs each))

fewer : {T : Type 0} (n : ℕ) (xs : List T) → length (without_item n xs) ≤ length xs
fewer n [] = omega arith
fewer zero (x ∷ xs) = omega arith
fewer (suc zero) (x ∷ xs) = omega arith
fewer (suc (suc n)) (x ∷ xs) = let h = fewer (suc n) xs in omega (arith, h)

all-change : {T : Type 0} (P : T → Type 0) (f : T → T) → ((x : T) → P x → P (f x)) → (n : ℕ) (xs : List T) → All P xs → All P (change_item f n xs)
all-change P f keeps n [] each = each
all-change P f keeps zero (x ∷ xs) each = each
all-change P f keeps (suc zero) (x ∷ xs) each = All-cons P (f x) xs (keeps x (All-head P x xs each)) (All-tail P x xs each)
all-change P f keeps (suc (suc n)) (x ∷ xs) each = All-cons P x (change_item f (suc n) xs) (All-head P x xs each) (all-change P f keeps (suc n) xs (All-tail P x xs each))

pub as-many : {T : Type 0} (f : T → T) (n : ℕ) (xs : List T) → length (change_item f n xs) ≡ length xs
as-many f n [] = refl
as-many f zero (x ∷ xs) = refl
as-many f (suc zero) (x ∷ xs) = refl
as-many f (suc (suc n)) (x ∷ xs) = ap (λ k. suc k) (as-many f (suc n) xs)

all-guards : (P : Document → Type 0) (k : ℕ) → ((d : Document) → P d → P (document_without k d)) → (n : ℕ) (gs : List (List Document)) → All (λ g. All P g) gs → All (λ g. All P g) (guards_without n k gs)
all-guards P k keeps n [] each = each
all-guards P k keeps n (g ∷ gs) each =
    All-cons (λ g. All P g) (documents_without n k g) (guards_without (n - length g) k gs)
    (all-change P (document_without k) keeps n g (All-head (λ g. All P g) g gs each))
    (all-guards P k keeps (n - length g) gs (All-tail (λ g. All P g) g gs each))

-- each guard has as many documents
pub same-lengths : (k n : ℕ) (gs : List (List Document)) → map (λ (g : List Document). length g) (guards_without n k gs) ≡ map (λ (g : List Document). length g) gs
same-lengths k n [] = refl
same-lengths k n (g ∷ gs) = rw (as-many (document_without k) n g, same-lengths k (n - length g) gs) refl

same-count : (k n : ℕ) (gs : List (List Document)) → length (guards_without n k gs) ≡ length gs
same-count k n [] = refl
same-count k n (g ∷ gs) = ap (λ m. suc m) (same-count k (n - length g) gs)

same-sum : (k n : ℕ) (gs : List (List Document)) → sum_by (λ (g : List Document). length g) (guards_without n k gs) ≡ sum_by (λ (g : List Document). length g) gs
same-sum k n gs =
    sym (sum-map (λ (g : List Document). length g) (guards_without n k gs)) ∙ ap (λ ns. sum ns) (same-lengths k n gs) ∙ sum-map (λ (g : List Document). length g) gs

document-stays-sound : (k : ℕ) (d : Document) → DocumentIsSound d → DocumentIsSound (document_without k d)
document-stays-sound k d sound =
    let few = fewer k d.statements in
    let count : length d.statements ≤ 4294967295 = sound.count in
    record { count = omega (arith, few, count); each = all-without StatementIsSound k d.statements sound.each }

document-stays-fit : (schema : Schema) (k : ℕ) (d : Document) → DocumentFits schema d → DocumentFits schema (document_without k d)
document-stays-fit schema k d fits = all-without (λ s. All (ConditionFits schema) s.conditions) k d.statements fits

pub stays-sound : (set : PolicySet) (name : StatementName) → IsSound set → IsSound (without_statement set name)
stays-sound set name sound =
    let k = name.statement in
    let n = name.document - length set.grants in
    let documents : length set.grants + sum_by (λ (g : List Document). length g) set.guards ≤ 4294967295 = sound.documents in
    let guards : length set.guards ≤ 4294967295 = sound.guards in
    record {
      documents = rw (as-many (document_without k) name.document set.grants, same-sum k n set.guards) documents;
      guards = rw (same-count k n set.guards) guards;
      granting = all-change DocumentIsSound (document_without k) (document-stays-sound k) name.document set.grants sound.granting;
      guarding = all-guards DocumentIsSound k (document-stays-sound k) n set.guards sound.guarding;
    }

pub stays-fit : (schema : Schema) (set : PolicySet) (name : StatementName) → SchemaFits schema set → SchemaFits schema (without_statement set name)
stays-fit schema set name fits =
    let k = name.statement in
    let n = name.document - length set.grants in
    record {
      sound = stays-sound set name fits.sound;
      granting = all-change (DocumentFits schema) (document_without k) (document-stays-fit schema k) name.document set.grants fits.granting;
      guarding = all-guards (DocumentFits schema) k (document-stays-fit schema k) n set.guards fits.guarding;
    }
