-- The findings to come, one after another, and what was found by its key.
use Rattle.std.proofs.Common.{◌≡◌, ◌↔◌, ℕ, ◌+◌, ◌<◌, ◌≤◌, List, [], ◌∷◌, ◌++◌, length, map, Bool, true, false, Option, Some, None, refl, sym, ap, subst, ◌∙◌, inl, inr, arith, MatchBool, IsTrue, Ordering}
use Rattle.std.specs.Prelude.{Contains, IsSome, Vec}
use Rattle.std.specs.Global.{Global}
use Rattle.std.specs.Option.{option_to_list}
use Rattle.std.specs.BTreeMap.{insert_entry}
use Rattle.std.specs.Cmp.Lexicographic.{slice_cmp}
use Rattle.std.specs.List.Sorted.{IsStrictlySortedBy}
use Rattle.std.specs.Map.{keys_of}
use Rattle.std.specs.Ordering.{nat_cmp}
use Rattle.std.proofs.lemmas.List.{append_assoc, length-append}
use Rattle.std.proofs.lemmas.List.Elements.{All-cons, Contains-append_left, Contains-push}
use Rattle.policy_model.specs.declared.request.Request.{Request}
use Rattle.strata.specs.declared.stratum.Stratum.{Stratum}
use Rattle.findings.specs.declared.walk.Walk.{Walk}
use Rattle.findings.specs.Findings.{IsFinding}
use Rattle.findings.specs.Walked.{AreFindings, IsDue, IsPassedFinding, IsPassing, PassesTo, SameBesides, with_found}
use Rattle.findings.specs.Walks.{AreAboveIn}
use Rattle.findings.proofs.Entered.{seen-entered, seen-sorted}

pub due-or-passed : (ds : List Stratum) (w : Walk) (f : List ℕ) (due among : Bool) → among ≡ false → (IsTrue among ↔ Contains w.looked.keys f) → (IsTrue due ↔ AreAboveIn ds w.reducible.keys f) → MatchBool due (IsDue ds w f) (IsPassedFinding ds w f)
due-or-passed ds w f true among none seen above = record { new = λ h. (let yes = seen.1 h in absurd (cc)); above = above.0 refl }
due-or-passed ds w f false among none seen above = inr (λ h. let yes = above.1 h in absurd (cc))

-- a finding that is taken from those to come is one of those that were to come
pub taken-finding : (ds : List Stratum) (old now : Walk) (n : ℕ) (rest : List (List ℕ)) (f : List ℕ) → AreFindings ds old.coming.items → IsPassing ds old now n → now.coming.items ≡ rest ++ f ∷ [] → IsFinding ds f
taken-finding ds old now n rest f are passing is =
    are f (subst (λ (xs : List (List ℕ)). Contains xs f) (sym passing.passes.is) (Contains-append_left now.coming.items passing.passes.passed f (subst (λ (xs : List (List ℕ)). Contains xs f) (sym is) (Contains-push rest f))))

-- what holds of walks that differ in what is to come alone
passed-same : (ds : List Stratum) (old now : Walk) (f : List ℕ) → SameBesides old now → IsPassedFinding ds now f → IsPassedFinding ds old f
passed-same ds old now f same passed = elim passed [
  | inl seen ↦ inl (subst (λ (xs : List (List ℕ)). Contains xs f) same.looked seen)
  | inr missing ↦ inr (subst (λ (xs : List (List ℕ)). ¬ AreAboveIn ds xs f) same.reducible missing)
]

-- or passed
pub passing-more : (ds : List Stratum) (old now next : Walk) (n : ℕ) (f : List ℕ) → IsPassing ds old now n → now.coming.items ≡ next.coming.items ++ f ∷ [] → SameBesides now next → IsPassedFinding ds next f → IsPassing ds old next (n + 1)
passing-more ds old now next n f passing is same passed =
    let whole : SameBesides old next = record { looked = same.looked ∙ passing.same.looked; reducible = same.reducible ∙ passing.same.reducible; found = same.found ∙ passing.same.found } in
    record {
      passes = record {
        passed = f ∷ passing.passes.passed;
        is = passing.passes.is ∙ ap (λ (xs : List (List ℕ)). xs ++ passing.passes.passed) is ∙ append_assoc next.coming.items (f ∷ []) passing.passes.passed;
        each = All-cons (IsPassedFinding ds old) f passing.passes.passed (passed-same ds old next f whole passed) passing.passes.each;
      };
      same = whole;
      count = (let long = ap length is in let one = length-append next.coming.items (f ∷ []) in omega (arith, passing.count, long, one));
    }

-- at the end none is to come
pub passes-all : (ds : List Stratum) (old now : Walk) (n : ℕ) → IsPassing ds old now n → now.coming.items ≡ [] → PassesTo ds old []
passes-all ds old now n passing none = subst (PassesTo ds old) none passing.passes

-- ---- what was found by its key

-- the order of keys
abbrev pub key_cmp : Vec ℕ Global → Vec ℕ Global → Ordering
key_cmp x y = slice_cmp nat_cmp x.items y.items

pub found-added : (old new : List (Vec ℕ Global × Request)) (key : Vec ℕ Global) (f : List ℕ) (r : Request) → key.items ≡ f → new ≡ insert_entry key_cmp old key r → map (λ e. (e.0.items, e.1)) new ≡ with_found (map (λ e. (e.0.items, e.1)) old) f r
found-added old new key f r same is =
    ap (map (λ (e : Vec ℕ Global × Request). (e.0.items, e.1))) is ∙ seen-entered (λ (v : Vec ℕ Global). v.items) key_cmp (λ x y. refl) old key r ∙
    ap (λ (g : List ℕ). insert_entry (slice_cmp nat_cmp) (map (λ (e : Vec ℕ Global × Request). (e.0.items, e.1)) old) g r) same

abbrev Entry : Type 0
Entry = Vec ℕ Global × Request

-- an entry as a finding with its request
abbrev pub as_found : Entry → List ℕ × Request
as_found e = (e.0.items, e.1)

map-last : (xs : List Entry) (x : Entry) → map as_found (xs ++ x ∷ []) ≡ map as_found xs ++ as_found x ∷ []
map-last [] x = refl
map-last (y ∷ xs) x = ap (λ (ys : List (List ℕ × Request)). as_found y ∷ ys) (map-last xs x)

pub found-more : (seen : List Entry) (before after : List (List ℕ × Request)) (key : Vec ℕ Global) (r : Request) (f : List ℕ) → before ≡ map as_found seen → f ≡ key.items → after ≡ before ++ (f, r) ∷ [] → after ≡ map as_found (seen ++ (key, r) ∷ [])
found-more seen before after key r f was is grows =
    grows ∙ ap (λ (xs : List (List ℕ × Request)). xs ++ (f, r) ∷ []) was ∙ ap (λ (g : List ℕ). map as_found seen ++ (g, r) ∷ []) is ∙ sym (map-last seen (key, r))

map-same : (xs : List Entry) → map (λ (x : Entry). x) xs ≡ xs
map-same [] = refl
map-same (x ∷ xs) = ap (λ (ys : List Entry). x ∷ ys) (map-same xs)

pub found-all : (seen all : List Entry) (summary : List (List ℕ × Request)) → summary ≡ map as_found seen → map (λ (x : Entry). x) seen ≡ all → summary ≡ map as_found all
found-all seen all summary was is = was ∙ ap (map as_found) (sym (map-same seen) ∙ is)

pub found-sorted : (all : List Entry) (summary : List (List ℕ × Request)) → summary ≡ map as_found all → IsStrictlySortedBy key_cmp (keys_of all) → IsStrictlySortedBy (slice_cmp nat_cmp) (map (λ p. p.0) summary)
found-sorted all summary is sorted =
    subst (λ (xs : List (List ℕ × Request)). IsStrictlySortedBy (slice_cmp nat_cmp) (map (λ p. p.0) xs)) (sym is) (seen-sorted (λ (v : Vec ℕ Global). v.items) key_cmp (λ x y. refl) all sorted)

-- ---- what an answer tells

pub passed-by : (ds : List Stratum) (w : Walk) (f : List ℕ) (b : Bool) → b ≡ false → MatchBool b (IsDue ds w f) (IsPassedFinding ds w f) → IsPassedFinding ds w f
passed-by ds w f true e h = absurd (cc)
passed-by ds w f false e h = h

-- as many were taken as were to come
pub none-left : (ds : List Stratum) (old now : Walk) (n : ℕ) → IsPassing ds old now n → length old.coming.items ≤ n → now.coming.items ≡ []
none-left ds old now n passing all = by now.coming.items refl
  where
    by : (xs : List (List ℕ)) → now.coming.items ≡ xs → now.coming.items ≡ []
    by [] e = e
    by (x ∷ xs) e = let long = ap length e in absurd (omega (arith, all, passing.count, long))

-- nothing could be taken
pub none-popped : (items rest : List (List ℕ)) (o : Option (List ℕ)) → ((x : List ℕ) → ¬ (o ≡ Some x)) → items ≡ rest ++ option_to_list o → (0 < length items → IsSome o) → items ≡ []
none-popped [] rest o never is some = refl
none-popped (x ∷ xs) rest None never is some = let bad = some (omega arith) in absurd (cc)
none-popped (x ∷ xs) rest (Some y) never is some = absurd (never y refl)

pub none-of : {T : Type 0} (o : Option T) → ((x : T) → ¬ (o ≡ Some x)) → o ≡ None
none-of None never = refl
none-of (Some x) never = absurd (never x refl)

pub rest-empty : (items rest : List (List ℕ)) (o : Option (List ℕ)) → items ≡ rest ++ option_to_list o → items ≡ [] → rest ≡ []
rest-empty items [] o is empty = refl
rest-empty items (x ∷ rest) o is empty = absurd (cc)
