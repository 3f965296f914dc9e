-- What a search finds at a node that it splits, by what it finds on the two sides.
use Rattle.std.proofs.Common.{◌≡◌, ◌<◌, ◌≤◌, ◌-◌, ◌++◌, ℕ, List, [], length, true, false, Some, None, sym, ap, ◌∙◌, subst, arith, append_assoc, append-nil}
use Rattle.formula_tree.specs.Answers.{Answers, answer_of}
use Rattle.formula_tree.specs.Runs.{path_with}
use Rattle.formula_tree.specs.Trees.{Tree, tree_of}
use Rattle.formula_tree.specs.Values.{pick}
use Rattle.formula_tree.proofs.Laws.{pick-unanswered}
use Rattle.cnf_clauses.specs.Replays.{NoneReplay}
use Rattle.policy_model.specs.declared.schema.Schema.{Schema}
use Rattle.policy_compile.specs.declared.outcome.Query.{Query}
use Rattle.policy_compile.specs.Queries.{asked_tree}
use Rattle.slot_theory.specs.Possible.{IsPossible}
use Rattle.refute_check.specs.Propagated.{MeetsConflict}
use Rattle.request_build.proofs.Laws.{joined-possible}
use Rattle.search_parts.specs.declared.part.Halves.{Halves}
use Rattle.search_parts.specs.declared.part.Part.{Part}
use Rattle.search_parts.specs.Joining.{AreReady, IsJoined}
use Rattle.search_parts.specs.Making.{part_proof}
use Rattle.search_parts.specs.Parts.{ClosesByStore}
use Rattle.search_parts.proofs.Laws.{own-needs}
use Rattle.tree_values.specs.Models.{answered_tree}
use Rattle.tree_search.specs.declared.found.Found.{Found}
use Rattle.tree_search.specs.declared.found.Found.TheVariants.{Refuted}
use Rattle.tree_search.specs.declared.search.Search.{Search}
use Rattle.tree_search.specs.declared.state.State.{State}
use Rattle.tree_search.specs.Search.{Carries, IsAtPath, IsFoundFrom, IsFoundHere, IsJoinedHere, IsRefutedPart, IsRestored, IsShortOf, IsSide, NothingLearned, Spent, Stands}
use Rattle.tree_search.specs.States.{AreAllUnmet, IsEvaluated}
use Rattle.tree_search.proofs.Following.{quiet-here}
use Rattle.tree_search.proofs.Picking.{pick-within}
use Rattle.tree_search.proofs.Searching.{after-no, after-yes, join-refuted, short-here, skip-refuted}

-- the same is found from the same path
pub found-at : (schema : Schema) (query : Query) (states : ℕ) (p q : Answers) (a b : Spent) (f : Found) → p ≡ q → a ≡ b → IsFoundFrom schema query states p a f → IsFoundFrom schema query states q b f
found-at schema query states p q a b f here same is = subst (λ (x : Answers). IsFoundFrom schema query states x b f) here (subst (λ (x : Spent). IsFoundFrom schema query states p x f) same is)

-- what is restored step by step
pub restored-then : (s : Search) (a b d : State) → IsRestored s a b → IsRestored s b d → IsRestored s a d
restored-then s a b d first second = record {
  path = second.path ∙ first.path;
  values = second.values ∙ first.values;
  clauses = second.clauses ∙ first.clauses;
  left = let low = first.left in let lower = second.left in omega arith;
  stands = second.stands;
  more = first.more ++ second.more;
  grows = second.grows ∙ ap (λ (l : List Answers). l ++ second.more) first.grows ∙ append_assoc a.learned.lists first.more second.more;
}

module _ (s : Search) (state : State) (placed : IsAtPath s state) (carries : Carries s state) (quiet_at : NoneReplay state.clauses.clauses state.clauses.path) where
  abbrev schema : Schema
  schema = s.schema.now

  abbrev query : Query
  query = s.query.now

  abbrev tree : Tree
  tree = asked_tree query

  abbrev path : Answers
  path = state.path

  abbrev lists : List Answers
  lists = state.learned.lists

  abbrev From : Answers → List Answers → List Answers → ℕ → ℕ → Found → Type 0
  From p old new left used f = IsFoundFrom schema query s.states p (record { old = old; new = new; left = left; used = used }) f

  can : IsPossible schema query.tests path
  can = joined-possible schema query.tests path state.values placed.ready.asked.sound placed.ready.asked.order carries.each

  quiet : ¬ MeetsConflict query.tests tree path
  quiet = quiet-here query path state.clauses placed.follows quiet_at

  module _ (t : ℕ) (e : pick path tree ≡ Some t) where
    abbrev on_yes : Answers
    on_yes = path_with path t true

    abbrev on_no : Answers
    on_no = path_with path t false

    pub test-within : t < length query.tests
    test-within = pick-within (length query.tests) path tree t placed.ready.asked.below e

    pub test-open : answer_of path t ≡ None
    test-open = pick-unanswered path tree t e

    -- where no split is left
    pub found-short : state.left ≡ 0 → IsShortOf schema query lists (length lists) state.left path
    found-short none = short-here schema query path lists state.left t none can quiet e

    module _ (some : 0 < state.left) (middle : State) (back : middle.left ≤ state.left - 1) where
      -- what is found on the yes side, unless that is refuted
      pub found-yes : (f : Found) → ((r : _) → f ≡ Refuted r → ⊥) → From on_yes lists middle.learned.lists (state.left - 1) (state.left - 1 - middle.left) f → IsFoundHere s state middle f
      found-yes f other is = after-yes schema query path t can quiet e s.states state.left (state.left - 1) (state.left - 1 - middle.left) (state.left - middle.left) lists middle.learned.lists f (omega arith) (omega arith) other is

      module _ (y : Part) (side_yes : IsRefutedPart schema query on_yes lists middle.learned.lists (state.left - 1 - middle.left) y) (right : AreAllUnmet schema query middle.learned.lists) where
        -- the part of the yes side, where it closes without the answer
        pub found-skip : ClosesByStore middle.learned.lists schema query.tests tree (part_proof y) path → IsRefutedPart schema query path lists middle.learned.lists (state.left - middle.left) y
        found-skip closes = skip-refuted schema query path t can quiet e lists middle.learned.lists (state.left - 1 - middle.left) y side_yes placed.ready.asked.below carries.range test-within (state.left - middle.left) right closes (omega arith)

        module _ (end : State) (low : end.left ≤ middle.left) (more : List Answers) (grows : end.learned.lists ≡ middle.learned.lists ++ more) where
          -- what is found on the no side, unless that is refuted
          pub found-no : (f : Found) → ((r : _) → f ≡ Refuted r → ⊥) → From on_no middle.learned.lists end.learned.lists middle.left (middle.left - end.left) f → IsFoundHere s state end f
          found-no f other is =
              after-no schema query path t can quiet e lists middle.learned.lists (state.left - 1 - middle.left) y side_yes s.states state.left middle.left (middle.left - end.left) (state.left - end.left) end.learned.lists more f (omega arith) (omega arith) grows other is

          module _ (z : Part) (side_no : IsRefutedPart schema query on_no middle.learned.lists end.learned.lists (middle.left - end.left) z) where
            -- what the join of the two sides asks for
            pub ready-join : end.path ≡ path → Stands s end → AreReady end.path (record { test = t; yes = y; no = z }) end.learned end.tree
            ready-join here at =
                let is : IsEvaluated query path end.tree = subst (λ (p : Answers). IsEvaluated query p end.tree) here at.evaluated in
                let own : answered_tree end.tree ≡ tree = ap tree_of is.formula_is in
                rw here (record {
                  within = rw is.room test-within;
                  free = test-open;
                  answered_by = is.answers;
                  follows = at.stored.path_is ∙ here;
                  few = at.stored.few;
                  yes_needs = rw own (own-needs schema query.tests tree lists middle.learned.lists end.learned.lists more on_yes (state.left - 1 - middle.left) y side_yes.made grows);
                  no_needs = rw own (own-needs schema query.tests tree middle.learned.lists end.learned.lists end.learned.lists [] on_no (middle.left - end.left) z side_no.made (sym (append-nil end.learned.lists)));
                })

            -- their split
            pub found-join : (new : State) (part : Part) → NothingLearned state → (ClosesByStore middle.learned.lists schema query.tests tree (part_proof y) path → ⊥) → end.path ≡ path → Stands s end →
                IsJoinedHere end (record { test = t; yes = y; no = z }) new part → IsRefutedPart schema query path lists new.learned.lists (state.left - new.left) part × AreAllUnmet schema query new.learned.lists
            found-join new part nothing needed here at is =
                let own : answered_tree end.tree ≡ tree = ap tree_of at.evaluated.formula_is in
                let joined : IsJoined path (record { test = t; yes = y; no = z }) end.learned.lists new.learned.lists tree part = rw (← here, ← own) is.joined in
                rw is.left (join-refuted schema query path t can quiet e lists middle.learned.lists (state.left - 1 - middle.left) y side_yes placed.ready.asked.below carries.range test-within
                end.learned.lists new.learned.lists (middle.left - end.left) (state.left - end.left) z part side_no nothing needed (omega arith) joined at.stored.right)

-- after a join all is at the path
pub joined-stands : (s : Search) (old new : State) (halves : Halves) (part : Part) → Stands s old → IsJoinedHere old halves new part → AreAllUnmet s.schema.now s.query.now new.learned.lists → Stands s new
joined-stands s old new halves part at is right = rw is.path (record {
  evaluated = rw is.tree at.evaluated;
  stored = record { path_is = is.learned_path ∙ at.stored.path_is; right = right; few = is.few };
  cores_path = rw is.cores at.cores_path;
  kept = rw is.cores at.kept;
})

-- the part of a yes side, where the path is the same
pub side-made : (s : Search) (path : Answers) (old : List Answers) (k t : ℕ) (y : Part) (middle : State) → middle.path ≡ path → IsRefutedPart s.schema.now s.query.now (path_with path t true) old middle.learned.lists k y → IsSide s middle t y
side-made s path old k t y middle here is = rw here (record { closes = is.made.closed.closes; needs = is.made.closed.needs })
