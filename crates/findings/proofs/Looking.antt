-- What the steps of a walk leave, for the set that the strata are made for.
use Rattle.std.proofs.Common.{◌≡◌, ◌≢◌, ◌⊎◌, ◌↔◌, ℕ, zero, suc, ◌+◌, Bool, true, false, List, [], ◌∷◌, ◌++◌, length, map, refl, sym, ap, subst, inl, inr, arith}
use Rattle.std.specs.Prelude.{All, Contains, IsTrue, get_or}
use Rattle.std.proofs.lemmas.List.{append-nil, append_assoc, length-append}
use Rattle.std.proofs.lemmas.List.Elements.{All-head, All-push, All-tail, All-weaker, Contains-append_cases, Contains-append_left, Contains-append_right, Contains-get_or, Contains-push}
use Rattle.std.proofs.lemmas.List.Quantifiers.{all_pairs_push}
use Rattle.std.specs.Cmp.Lexicographic.{slice_cmp}
use Rattle.std.specs.List.Sorted.{IsStrictlySortedBy}
use Rattle.std.specs.Ordering.{nat_cmp}
use Rattle.policy_model.specs.declared.request.Request.{Request}
use Rattle.policy_model.specs.declared.schema.Schema.{Schema}
use Rattle.policy_model.specs.declared.test.Test.{Test}
use Rattle.policy_model.specs.Tests.{TestHolds}
use Rattle.policy_compile.specs.declared.outcome.Query.{Query}
use Rattle.policy_compile.specs.Meaning.{AnswersAs}
use Rattle.refute_check.specs.Laws.{IsMetBy, NoneMeets}
use Rattle.strata.specs.declared.stratum.Strata.{Strata}
use Rattle.strata.specs.declared.stratum.Stratum.{Stratum}
use Rattle.findings.specs.declared.region.Region.{Region}
use Rattle.findings.specs.declared.walk.Walk.{Walk}
use Rattle.policy_compile.specs.Queries.{asked_tree}
use Rattle.findings.specs.Asked.{HoldsForOwn}
use Rattle.findings.specs.Findings.{IsIrreducible, IsOwn}
use Rattle.findings.specs.Queries.{AreMadeFor}
use Rattle.findings.specs.Summaries.{IsSummary, MustBeVisited, VisitsAtLeast, findings_of}
use Rattle.findings.specs.Walked.{AddsFound, GoesBelowFor, IsDue, IsTakenFor, PassesTo, SameBesides, StartsAt, found_by}
use Rattle.findings.specs.Walks.{AreAboveIn, IsFoundFinding, IsWalk, first_finding}
use Rattle.findings.proofs.Entered.{all-entered, entered-kept, entered-there}
use Rattle.findings.proofs.Orders.{AllHaveSteps, under-finding}
use Rattle.findings.proofs.Walking.{all-found, found-maximal, taken-visited, walk-irreducible, walk-reducible, walk-skip, walk-start}

-- ---- answers of a request to tests can't be denied

classical : {P : Type 0} → ((P ⊎ ¬ P) → ⊥) → ⊥
classical deny = deny (inr (λ h. deny (inl h)))

-- the answers with one more in front
abbrev in-front : Bool → (ℕ → Bool) → ℕ → Bool
in-front b answers zero = b
in-front b answers (suc n) = answers n

front-as : (r : Request) (t : Test) (ts : List Test) (answers : ℕ → Bool) (b : Bool) → (IsTrue b ↔ TestHolds r t) → AnswersAs answers r ts → AnswersAs (in-front b answers) r (t ∷ ts)
front-as r t ts answers b says rest zero u at = let same : t ≡ u = cc in subst (λ (x : Test). IsTrue b ↔ TestHolds r x) same says
front-as r t ts answers b says rest (suc n) u at = rest n u at

no-test : (answers : ℕ → Bool) (r : Request) → AnswersAs answers r []
no-test answers r n t at = absurd (cc)

pub some-answers : (r : Request) (tests : List Test) → ((answers : ℕ → Bool) → AnswersAs answers r tests → ⊥) → ⊥
some-answers r [] deny = deny (λ n. false) (no-test (λ n. false) r)
some-answers r (t ∷ ts) deny = some-answers r ts (λ answers says. classical {P = TestHolds r t} (λ known. elim known [
  | inl h ↦ deny (in-front true answers) (front-as r t ts answers true (λ e. h, λ again. refl) says)
  | inr never ↦ deny (in-front false answers) (front-as r t ts answers false (λ e. absurd (cc), λ h. absurd (never h)) says)
]))

-- ---- what the answer to a finding's query says

pub met-own : (schema : Schema) (region : Region) (base : Query) (strata : Strata) (f : List ℕ) (q : Query) (r : Request) → AreMadeFor schema region base strata → HoldsForOwn base strata f q → IsMetBy schema q.tests (asked_tree q) [] r → IsOwn schema region strata.dimensions f r
met-own schema region base strata f q r made own met = (own schema region made r met.meets.0 met.valid met.meets.1).0 met.meets.2

pub none-own : (schema : Schema) (region : Region) (base : Query) (strata : Strata) (f : List ℕ) (q : Query) → AreMadeFor schema region base strata → HoldsForOwn base strata f q → NoneMeets schema q.tests (asked_tree q) [] → ¬ IsIrreducible schema region strata.dimensions f
none-own schema region base strata f q made own none irreducible =
    let r = irreducible.0 in
    some-answers r q.tests (λ answers says. none r (record {
      valid = irreducible.1.valid;
      answers = λ n b t e at. absurd (cc);
      meets = (answers, says, (own schema region made r answers irreducible.1.valid says).1 irreducible.1);
    }))

-- ---- the walk

module _ (schema : Schema) (region : Region) (ds : List Stratum) (steps : AllHaveSteps schema ds) where
  -- those that were passed may be left out
  pub walk-passes : (looked reducible : List (List ℕ)) (found : List (List ℕ × Request)) (left passed : List (List ℕ)) → All (λ f. Contains looked f ⊎ ¬ AreAboveIn ds reducible f) passed → IsWalk schema region ds (left ++ passed) looked reducible found → IsWalk schema region ds left looked reducible found
  walk-passes looked reducible found left [] all walk = subst (λ (xs : List (List ℕ)). IsWalk schema region ds xs looked reducible found) (append-nil left) walk
  walk-passes looked reducible found left (p ∷ ps) all walk =
      let P = λ (f : List ℕ). Contains looked f ⊎ ¬ AreAboveIn ds reducible f in
      let longer : IsWalk schema region ds ((left ++ p ∷ []) ++ ps) looked reducible found = subst (λ (xs : List (List ℕ)). IsWalk schema region ds xs looked reducible found) (sym (append_assoc left (p ∷ []) ps)) walk in
      walk-skip schema region ds steps left looked reducible found p (walk-passes looked reducible found (left ++ p ∷ []) ps (All-tail P p ps all) longer) (All-head P p ps all)

  pub stands-start : (w : Walk) → StartsAt ds w → IsWalk schema region ds w.coming.items w.looked.keys w.reducible.keys (found_by w)
  stands-start w is =
      let found_is : found_by w ≡ [] = ap (map (λ e. (e.0.items, e.1))) is.found in
      subst (λ (xs : List (List ℕ)). IsWalk schema region ds xs w.looked.keys w.reducible.keys (found_by w)) (sym is.coming)
      (subst (λ (xs : List (List ℕ)). IsWalk schema region ds (first_finding ds ∷ []) xs w.reducible.keys (found_by w)) (sym is.looked)
      (subst (λ (xs : List (List ℕ)). IsWalk schema region ds (first_finding ds ∷ []) [] xs (found_by w)) (sym is.reducible)
      (subst (IsWalk schema region ds (first_finding ds ∷ []) [] []) (sym found_is) (walk-start schema region ds steps))))

  -- the next finding, taken from those to come
  pub takes : (old new : Walk) (f : List ℕ) → IsWalk schema region ds old.coming.items old.looked.keys old.reducible.keys (found_by old) → PassesTo ds old (new.coming.items ++ f ∷ []) → IsDue ds old f → SameBesides old new → IsTakenFor schema region ds new f
  takes old new f walk passes due same =
      let found_same : found_by new ≡ found_by old = ap (map (λ e. (e.0.items, e.1))) same.found in
      let left = walk-passes old.looked.keys old.reducible.keys (found_by old) (new.coming.items ++ f ∷ []) passes.passed passes.each (subst (λ (xs : List (List ℕ)). IsWalk schema region ds xs old.looked.keys old.reducible.keys (found_by old)) passes.is walk) in
      record {
        walk = subst (λ (xs : List (List ℕ)). IsWalk schema region ds (new.coming.items ++ f ∷ []) xs new.reducible.keys (found_by new)) (sym same.looked)
            (subst (λ (xs : List (List ℕ)). IsWalk schema region ds (new.coming.items ++ f ∷ []) old.looked.keys xs (found_by new)) (sym same.reducible)
            (subst (IsWalk schema region ds (new.coming.items ++ f ∷ []) old.looked.keys old.reducible.keys) (sym found_same) left));
        due = record {
          new = subst (λ (xs : List (List ℕ)). ¬ Contains xs f) (sym same.looked) due.new;
          above = subst (λ (xs : List (List ℕ)). AreAboveIn ds xs f) (sym same.reducible) due.above;
        };
      }

  -- it was found
  pub stands-found : (old new : Walk) (f : List ℕ) (r : Request) → IsTakenFor schema region ds old f → IsOwn schema region ds f r → AddsFound old f r new → IsWalk schema region ds new.coming.items new.looked.keys new.reducible.keys (found_by new)
  stands-found old new f r taken own adds =
      let looked_is = adds.looked taken.due.new in
      let found_in : IsFoundFinding schema region ds (old.looked.keys ++ f ∷ []) (f, r) = (Contains-push old.looked.keys f, own) in
      let before = All-weaker (IsFoundFinding schema region ds old.looked.keys) (IsFoundFinding schema region ds (old.looked.keys ++ f ∷ [])) (λ p h. (Contains-append_left old.looked.keys (f ∷ []) p.0 h.0, h.1)) (found_by old) taken.walk.own in
      let walk = walk-irreducible schema region ds steps old.coming.items old.looked.keys old.reducible.keys (found_by old) f taken.walk taken.due.new taken.due.above (found_by new)
      (subst (All (IsFoundFinding schema region ds (old.looked.keys ++ f ∷ []))) (sym adds.found) (all-entered (IsFoundFinding schema region ds (old.looked.keys ++ f ∷ [])) (found_by old) f r before found_in))
      (λ g h. subst (λ (xs : List (List ℕ × Request)). Contains (findings_of xs) g) (sym adds.found) (entered-kept (found_by old) f r g h))
      (subst (λ (xs : List (List ℕ × Request)). Contains (findings_of xs) f) (sym adds.found) (entered-there (found_by old) f r)) in
      subst (λ (xs : List (List ℕ)). IsWalk schema region ds xs new.looked.keys new.reducible.keys (found_by new)) (sym adds.coming)
      (subst (λ (xs : List (List ℕ)). IsWalk schema region ds old.coming.items xs new.reducible.keys (found_by new)) (sym looked_is)
      (subst (λ (xs : List (List ℕ)). IsWalk schema region ds old.coming.items (old.looked.keys ++ f ∷ []) xs (found_by new)) (sym adds.reducible) walk))

  -- it has no request of its own
  pub stands-reducible : (old new : Walk) (f : List ℕ) → IsTakenFor schema region ds old f → ¬ IsIrreducible schema region ds f → GoesBelowFor schema region ds old f new → IsWalk schema region ds new.coming.items new.looked.keys new.reducible.keys (found_by new)
  stands-reducible old new f taken none goes =
      let adds = goes.adds in
      let looked_is = adds.looked taken.due.new in
      let is_f = taken.walk.next f (Contains-push old.coming.items f) in
      let reducible_is = adds.reducible (λ h. taken.due.new (taken.walk.unmet f h).0) in
      let found_same : found_by new ≡ found_by old = ap (map (λ e. (e.0.items, e.1))) adds.found in
      let walk = walk-reducible schema region ds steps old.coming.items old.looked.keys old.reducible.keys (found_by old) f taken.walk taken.due.new taken.due.above (old.coming.items ++ goes.kept) none
      (λ g h. elim (Contains-append_cases old.coming.items goes.kept g h) [
        | inl before ↦ taken.walk.next g (Contains-append_left old.coming.items (f ∷ []) g before)
        | inr kept ↦ elim (goes.are.only g (goes.inhabited.only g kept)) [ inl no_one ↦ absurd (omega (arith, no_one.1)) | inr under ↦ under-finding schema ds steps g f under is_f ]
      ])
      (λ g h. Contains-append_left old.coming.items goes.kept g h)
      (λ g right. elim (goes.inhabited.others g (goes.are.under g right)) [ inl kept ↦ inl (Contains-append_right old.coming.items goes.kept g kept) | inr nobody ↦ inr nobody ]) in
      subst (λ (xs : List (List ℕ)). IsWalk schema region ds xs new.looked.keys new.reducible.keys (found_by new)) (sym adds.coming)
      (subst (λ (xs : List (List ℕ)). IsWalk schema region ds (old.coming.items ++ goes.kept) xs new.reducible.keys (found_by new)) (sym looked_is)
      (subst (λ (xs : List (List ℕ)). IsWalk schema region ds (old.coming.items ++ goes.kept) (old.looked.keys ++ f ∷ []) xs (found_by new)) (sym reducible_is)
      (subst (IsWalk schema region ds (old.coming.items ++ goes.kept) (old.looked.keys ++ f ∷ []) (old.reducible.keys ++ f ∷ [])) (sym found_same) walk)))

  -- one that is taken must be looked at
  pub taken-must : (w : Walk) (f : List ℕ) → IsTakenFor schema region ds w f → MustBeVisited schema region ds f
  taken-must w f taken = taken-visited schema region ds steps w.coming.items w.looked.keys w.reducible.keys (found_by w) f taken.walk taken.due.new taken.due.above

  -- so that with those that were looked at there is one more
  pub one-more : (w : Walk) (f : List ℕ) → IsTakenFor schema region ds w f → VisitsAtLeast schema region ds (length w.looked.keys + 1)
  one-more w f taken = record {
    listed = w.looked.keys ++ f ∷ [];
    count = length-append w.looked.keys (f ∷ []);
    different = all_pairs_push (λ g h. g ≢ h) w.looked.keys f taken.walk.different (λ k d within same. taken.due.new (subst (Contains w.looked.keys) same (Contains-get_or w.looked.keys k d within)));
    each = All-push (MustBeVisited schema region ds) w.looked.keys f (λ k d within. taken.walk.visited (get_or w.looked.keys k d) (Contains-get_or w.looked.keys k d within)) (taken-must w f taken);
  }

  -- at the end what was found is the summary
  pub ends : (old new : Walk) → IsWalk schema region ds old.coming.items old.looked.keys old.reducible.keys (found_by old) → PassesTo ds old [] → SameBesides old new → IsStrictlySortedBy (slice_cmp nat_cmp) (findings_of (found_by new)) → IsSummary schema region ds (found_by new)
  ends old new walk passes same order =
      let found_same : found_by new ≡ found_by old = ap (map (λ e. (e.0.items, e.1))) same.found in
      let left = walk-passes old.looked.keys old.reducible.keys (found_by old) [] passes.passed passes.each (subst (λ (xs : List (List ℕ)). IsWalk schema region ds xs old.looked.keys old.reducible.keys (found_by old)) passes.is walk) in
      let end : IsWalk schema region ds [] old.looked.keys old.reducible.keys (found_by new) = subst (IsWalk schema region ds [] old.looked.keys old.reducible.keys) (sym found_same) left in
      record {
        own = All-weaker (IsFoundFinding schema region ds old.looked.keys) (λ p. IsOwn schema region ds p.0 p.1) (λ p h. h.1) (found_by new) end.own;
        maximal = found-maximal schema region ds steps old.looked.keys old.reducible.keys (found_by new) end;
        all = all-found schema region ds steps old.looked.keys old.reducible.keys (found_by new) end;
        order = order;
      }
