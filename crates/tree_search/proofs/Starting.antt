-- What is found at the start is decided of the query.
use Rattle.std.proofs.Common.{◌≡◌, ◌≢◌, ◌≤◌, ◌-◌, ◌∙◌, ℕ, List, [], length, Result, Ok, Err, IfOk, OnOk, Bool, None, IsSome, refl, sym, ap, subst, arith}
use Rattle.formula_tree.specs.Answers.{Answers}
use Rattle.policy_model.specs.declared.schema.Schema.{Schema}
use Rattle.policy_compile.specs.declared.outcome.Query.{Query}
use Rattle.policy_compile.specs.Queries.{asked_tree}
use Rattle.refute_check.specs.Proofs.{Proof, proof_of}
use Rattle.search_parts.specs.declared.learning.TheConstants.{MOST_LEARNED}
use Rattle.search_parts.specs.declared.part.Part.{Part}
use Rattle.search_parts.specs.Making.{IsRefutationOf, part_proof}
use Rattle.search_parts.specs.Renaming.{renamed_proof}
use Rattle.search_parts.proofs.Laws.{finished-made, made-labels, names-none}
use Rattle.formula_tree.specs.Values.{value}
use Rattle.formula_tree.specs.declared.value.Three.TheVariants.{No}
use Rattle.cnf_clauses.specs.declared.following.Conflict.{Conflict}
use Rattle.cnf_clauses.specs.Following.{IsConflictAt}
use Rattle.cnf_clauses.specs.Levels.{Followed}
use Rattle.cnf_clauses.specs.Numbering.{clauses_of}
use Rattle.nogoods.specs.Hits.{NoHit}
use Rattle.nogoods.specs.Tracking.{Tracked}
use Rattle.policy_model.specs.declared.test.Slot.{Slot}
use Rattle.refute_check.specs.Closing.{at_first}
use Rattle.refute_check.specs.Laws.{TreeInRange}
use Rattle.refute_check.specs.Proofs.{by_clauses, by_value}
use Rattle.request_build.specs.Built.{AreSlotValues}
use Rattle.slot_theory.specs.Cores.{HasTest}
use Rattle.slot_theory.specs.Possible.{PathInRange}
use Rattle.search_parts.specs.declared.part.Needs.TheVariants.{Just, Open}
use Rattle.search_parts.specs.Making.{IsPartOf}
use Rattle.tree_search.specs.declared.found.Found.{Found}
use Rattle.tree_search.specs.declared.found.Found.TheVariants as found
use Rattle.tree_search.specs.declared.outcome.Budgets.{Budgets}
use Rattle.tree_search.specs.declared.outcome.Decided.{Decided}
use Rattle.tree_search.specs.Decisions.{IsDecision, IsFewSplitsAway, IsRefutation, IsWithinSplits}
use Rattle.tree_search.specs.Leading.{IsReachedBy}
use Rattle.tree_search.specs.declared.state.State.{State}
use Rattle.tree_search.specs.Search.{AreCarried, IsFoundFrom, IsRefutedPart, followed_at, spent_between}
use Rattle.tree_search.specs.States.{IsStanding, IsLearned, IsStartState}
use Rattle.tree_search.specs.Whole.{HasFewLabels, IsDecidedFrom, IsWholeSearch}
use Rattle.tree_search.proofs.Finding.{found-at}
use Rattle.tree_search.proofs.Keeping.{none-kept}
use Rattle.tree_search.proofs.Leading.{leads-renamed}
use Rattle.tree_search.proofs.Searching.{clauses-refuted, value-refuted}

module _ (schema : Schema) (query : Query) where
  refutation-from : (store : List Answers) (most used : ℕ) (part : Part) (p : Proof) → IsRefutedPart schema query [] [] store used part → used ≤ most → p ≡ renamed_proof [] 0 (part_proof part) → IsRefutation schema query most p
  refutation-from store most used part p is few same =
      let done : IsRefutationOf schema query.tests (asked_tree query) used (renamed_proof [] 0 (part_proof part)) = finished-made schema query.tests (asked_tree query) store used part is.made in
      rw same (record { closes = done.closes; few = let splits = done.few in omega arith; nests = done.nests; trimmed = done.trimmed })

  near-from : (store : List Answers) (most used : ℕ) (node : Answers) → IsReachedBy schema query store 0 used [] node → used ≤ most → IsFewSplitsAway schema query at_first most [] node
  near-from store most used node reached few = record {
    count = used;
    lead = leads-renamed schema query store 0 used [] node 0 [] reached.lead (names-none 0);
    few = few;
  }

  -- what was found is what is decided
  pub told-decides : (budgets : Budgets) (f : Found) (d : Decided) → IsWholeSearch schema query budgets f → IsDecidedFrom f d → IsDecision schema query budgets d
  told-decides budgets (found.Refuted part) d whole told =
      subst (λ (x : Decided). IsDecision schema query budgets x) (sym told.1) (refutation-from whole.store budgets.splits whole.used part (proof_of told.0.value) whole.is whole.few told.2)
  told-decides budgets (found.Met q) d whole told = subst (λ (x : Decided). IsDecision schema query budgets x) (sym told) (record { valid = whole.is.met.valid; meets = whole.is.met.meets })
  told-decides budgets found.OutOfSplits d whole told = subst (λ (x : Decided). IsDecision schema query budgets x) (sym told) whole.is.more
  told-decides budgets (found.OutOfStates w) d whole told =
      subst (λ (x : Decided). IsDecision schema query budgets x) (sym told) (record {
        node = whole.is.reached.on_run;
        propagated = whole.is.reached.propagated;
        near = near-from whole.store budgets.splits whole.used w.path whole.is.reached whole.few;
        not_no = whole.is.not_no;
        asked = whole.is.asked;
        texts = whole.is.texts;
      })

  -- and comes within the budget of splits
  pub told-within : (budgets : Budgets) (f : Found) (d : Decided) → IsWholeSearch schema query budgets f → IsDecidedFrom f d → IsWithinSplits schema query budgets.splits d
  told-within budgets (found.Refuted part) d whole told =
      subst (λ (x : Decided). IsWithinSplits schema query budgets.splits x) (sym told.1) (refutation-from whole.store budgets.splits whole.used part (proof_of told.0.value) whole.is whole.few told.2).few
  told-within budgets (found.Met q) d whole told =
      subst (λ (x : Decided). IsWithinSplits schema query budgets.splits x) (sym told) (record {
        node = whole.is.node;
        on_run = whole.is.reached.on_run;
        propagated = whole.is.reached.propagated;
        near = near-from whole.store budgets.splits whole.used whole.is.node whole.is.reached whole.few;
        answers = whole.is.met.answers;
        is_yes = whole.is.is_yes;
      })
  told-within budgets found.OutOfSplits d whole told =
      subst (λ (x : Decided). IsWithinSplits schema query budgets.splits x) (sym told) (record {
        node = whole.is.node;
        on_run = whole.is.reached.on_run;
        propagated = whole.is.reached.propagated;
        lead = leads-renamed schema query whole.store 0 budgets.splits [] whole.is.node 0 [] whole.is.reached.lead (names-none 0);
        next = whole.is.next;
      })
  told-within budgets (found.OutOfStates w) d whole told =
      subst (λ (x : Decided). IsWithinSplits schema query budgets.splits x) (sym told) (near-from whole.store budgets.splits whole.used w.path whole.is.reached whole.few)

  -- and its labels are few
  pub few-labels : (budgets : Budgets) (f : Found) → IsWholeSearch schema query budgets f → HasFewLabels f
  few-labels budgets (found.Refuted part) whole =
      let all = made-labels schema query.tests (asked_tree query) whole.store whole.used part whole.is.made in
      let small = whole.small in
      omega arith
  few-labels budgets (found.Met q) whole = tt
  few-labels budgets found.OutOfSplits whole = tt
  few-labels budgets (found.OutOfStates w) whole = tt

  -- ---- a query that is closed at the start

  none-answered : PathInRange query.tests []
  none-answered = λ n b e. absurd (cc)

  whole-part : (budgets : Budgets) (part : Part) → IsRefutedPart schema query [] [] [] 0 part → IsWholeSearch schema query budgets (found.Refuted part)
  whole-part budgets part is = record { store = []; used = 0; is = is; small = omega arith; few = omega arith }

  pub whole-value : (budgets : Budgets) (part : Part) → TreeInRange query.tests (asked_tree query) → IsPartOf by_value Open part → value [] (asked_tree query) ≡ No → IsWholeSearch schema query budgets (found.Refuted part)
  whole-value budgets part below is is_no = whole-part budgets part (value-refuted schema query [] [] below none-answered 0 part refl is is_no)

  pub whole-clauses : (budgets : Budgets) (part : Part) (c : Conflict) → TreeInRange query.tests (asked_tree query) → IsPartOf (by_clauses c.hints) (Just c.answers) part → IsConflictAt (clauses_of (length query.tests) (asked_tree query)) [] c → IsWholeSearch schema query budgets (found.Refuted part)
  whole-clauses budgets part c below is conflict = whole-part budgets part (clauses-refuted schema query [] [] below none-answered 0 part c refl is conflict)

  -- ---- a search from the empty path

  none-asked : (s : Slot) → HasTest query.tests [] s → ⊥
  none-asked s h = let bad : IsSome {T = Bool} None = h.is.answered in absurd (cc)

  none-valued : AreSlotValues schema query.tests [] []
  none-valued = record {
    each = λ k d within. absurd (omega arith);
    needed = λ k d within. absurd (omega arith);
    there = λ s asked. absurd (none-asked s asked);
    once = λ i j d low within. absurd (omega arith);
  }

  none-learned : IsLearned schema query [] (record { lists = []; path = [] })
  none-learned = record { path_is = refl; right = λ k d within. absurd (omega arith); few = omega arith }

  module _ (clauses : Followed) (left : ℕ) (state : State) (is : IsStartState query clauses left state) where
    pub start-stands : IsStanding schema query state.path state.tree state.learned state.cores
    start-stands = rw is.path (record {
      evaluated = is.tree;
      stored = rw is.learned none-learned;
      cores_path = is.cores.path;
      kept = none-kept schema query.tests state.cores is.cores;
    })

    pub start-carries : AreCarried schema query state.path state.values
    start-carries = rw (is.path, is.values) (record { range = none-answered; each = none-valued })

    pub start-follows : clauses ≡ followed_at query [] → state.clauses ≡ followed_at query state.path
    start-follows follows = rw is.path (is.clauses_are ∙ follows)

    pub start-may : value [] (asked_tree query) ≢ No → value state.path (asked_tree query) ≢ No
    start-may may = rw is.path may

    none-hit : NoHit [] []
    none-hit i within hit = absurd (omega arith)

    pub start-nothing : NoHit state.learned.lists state.path
    start-nothing = rw (is.learned, is.path) none-hit

    -- what is found from it
    pub whole-from : {E : Type 0} (budgets : Budgets) (end : State) (r : Result Found E) (A : Type 0) → left ≡ budgets.splits → (A → length end.learned.lists ≤ MOST_LEARNED) →
        IfOk r (IsFoundFrom schema query budgets.states state.path (spent_between state end)) → OnOk r A → IfOk r (IsWholeSearch schema query budgets)
    whole-from budgets end (Ok f) A same small is_found restored =
        let all : state.left ≡ budgets.splits = is.left_is ∙ same in
        let lists : state.learned.lists ≡ [] = ap (λ (t : Tracked). t.lists) is.learned in
        record {
          store = end.learned.lists;
          used = state.left - end.left;
          is = found-at schema query budgets.states state.path [] (spent_between state end) (record { old = []; new = end.learned.lists; left = budgets.splits; used = state.left - end.left }) f is.path (rw (lists, ← all) refl) is_found;
          small = small restored;
          few = omega arith;
        }
    whole-from budgets end (Err e) A same small is_found restored = tt
