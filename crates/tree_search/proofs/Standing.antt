-- What follows a search's path, one answer further and back.
use Rattle.std.proofs.Common.{◌≡◌, ◌≤◌, ℕ, List, [], ◌++◌, length, Bool, Option, Some, None, refl, sym, ap, ◌∙◌, subst, inl, inr, arith, append-nil}
use Rattle.formula_tree.specs.Answers.{Answers, answer_of}
use Rattle.formula_tree.specs.Runs.{path_with}
use Rattle.formula_tree.specs.Trees.{Tree, tree_of}
use Rattle.formula_tree.specs.Values.{pick, value}
use Rattle.formula_tree.specs.declared.value.Three.{Three}
use Rattle.formula_tree.proofs.Laws.{answer_of-besides, answer_of-last, cases_eq}
use Rattle.nogoods.specs.Tracking.{Tracked}
use Rattle.policy_model.specs.declared.schema.Schema.{Schema}
use Rattle.policy_model.specs.declared.test.Test.{Test}
use Rattle.policy_compile.specs.declared.outcome.Query.{Query}
use Rattle.policy_compile.specs.Queries.{asked_tree}
use Rattle.search_parts.specs.declared.learning.TheConstants.{MOST_LEARNED}
use Rattle.tree_values.specs.Models.{Answered, IsAnsweredBy, IsSet, answered_tree}
use Rattle.tree_search.specs.declared.cores.Cores.{Cores}
use Rattle.tree_search.specs.declared.search.Search.{Search}
use Rattle.tree_search.specs.declared.state.State.{State}
use Rattle.tree_search.specs.Cores.{AreKeptCores}
use Rattle.tree_search.specs.Search.{IsRestored, Stands, spent_between}
use Rattle.tree_search.specs.States.{AreAllUnmet, IsStanding, IsTakenBack, IsDeeper, IsEvaluated, IsLearned}

module _ (query : Query) (path : Answers) (test : ℕ) (answer : Bool) (new : answer_of path test ≡ None) where
  abbrev more : Answers
  more = path_with path test answer

  -- the values with one more answer
  pub evaluated-on : (v w : Answered) → IsEvaluated query path v → IsSet v w test (Some answer) → IsEvaluated query more w
  evaluated-on v w is set = record {
    formula_is = set.formula ∙ is.formula_is;
    room = set.tests ∙ is.room;
    answers = λ n. elim (cases_eq n test) [
      | inl same ↦ rw same (set.at ∙ sym (answer_of-last path test answer new))
      | inr other ↦ set.others n other ∙ is.answers n ∙ sym (answer_of-besides path test answer n other)
    ];
  }

  -- and back
  pub evaluated-back : (v w : Answered) → IsEvaluated query more v → IsSet v w test None → IsEvaluated query path w
  evaluated-back v w is set = record {
    formula_is = set.formula ∙ is.formula_is;
    room = set.tests ∙ is.room;
    answers = λ n. elim (cases_eq n test) [
      | inl same ↦ rw same (set.at ∙ sym new)
      | inr other ↦ set.others n other ∙ is.answers n ∙ answer_of-besides path test answer n other
    ];
  }

-- what is said of the values is said of the query's tree
pub tree-same : (query : Query) (path : Answers) (v : Answered) → IsEvaluated query path v → answered_tree v ≡ asked_tree query
tree-same query path v is = ap tree_of is.formula_is

pub value-said : (query : Query) (path : Answers) (v : Answered) (said : Three) → IsEvaluated query path v → ((p : Answers) → IsAnsweredBy v p → said ≡ value p (answered_tree v)) → value path (asked_tree query) ≡ said
value-said query path v said is says = subst (λ (t : Tree). value path t ≡ said) (tree-same query path v is) (sym (says path is.answers))

pub pick-said : (query : Query) (path : Answers) (v : Answered) (said : Option ℕ) → IsEvaluated query path v → ((p : Answers) → IsAnsweredBy v p → said ≡ pick p (answered_tree v)) → pick path (asked_tree query) ≡ said
pick-said query path v said is says = subst (λ (t : Tree). pick path t ≡ said) (tree-same query path v is) (sym (says path is.answers))

-- the same lists at another path
pub learned-at : (schema : Schema) (query : Query) (p q : Answers) (old new : Tracked) → IsLearned schema query p old → new.lists ≡ old.lists → new.path ≡ q → IsLearned schema query q new
learned-at schema query p q old new is lists path = record {
  path_is = path;
  right = subst (λ (l : List Answers). AreAllUnmet schema query l) (sym lists) is.right;
  few = subst (λ (l : List Answers). length l ≤ MOST_LEARNED) (sym lists) is.few;
}

-- the same cores at another path
pub kept-at : (schema : Schema) (tests : List Test) (old new : Cores) → AreKeptCores schema tests old → new.lists.lists ≡ old.lists.lists → new.parts ≡ old.parts → AreKeptCores schema tests new
kept-at schema tests old new is lists parts = record {
  count = rw (lists, parts) is.count;
  each = λ i answers r at kept. is.each i answers r (rw lists at at) (rw parts at kept);
}

module _ (schema : Schema) (query : Query) where
  abbrev At : Answers → State → Type 0
  At path state = IsStanding schema query path state.tree state.learned state.cores

  -- all stands at the longer path
  pub at-deeper : (path : Answers) (old new : State) (test : ℕ) (answer : Bool) → path ≡ old.path → answer_of old.path test ≡ None → IsDeeper old test answer new → At path old → At (path_with path test answer) new
  at-deeper path old new test answer here open_test step at = record {
    evaluated = evaluated-on query path test answer (rw here open_test) old.tree new.tree at.evaluated step.tree;
    stored = learned-at schema query path (path_with path test answer) old.learned new.learned at.stored step.beside.lists (step.learned ∙ ap (λ (p : Answers). path_with p test answer) at.stored.path_is);
    cores_path = step.cores ∙ ap (λ (p : Answers). path_with p test answer) at.cores_path;
    kept = kept-at schema query.tests old.cores new.cores at.kept step.beside.cores_lists step.beside.cores_parts;
  }

  -- and back
  pub at-back : (path : Answers) (old new : State) (test : ℕ) (answer : Bool) → answer_of path test ≡ None → IsTakenBack old test new → At (path_with path test answer) old → At path new
  at-back path old new test answer open_test step at = record {
    evaluated = evaluated-back query path test answer open_test old.tree new.tree at.evaluated step.tree;
    stored = learned-at schema query (path_with path test answer) path old.learned new.learned at.stored step.beside.lists (step.learned path (test, answer) at.stored.path_is);
    cores_path = step.cores path (test, answer) at.cores_path;
    kept = kept-at schema query.tests old.cores new.cores at.kept step.beside.cores_lists step.beside.cores_parts;
  }

-- what is restored below is restored here
module _ (s : Search) (old deep after new : State) (test : ℕ) (answer : Bool) (open_test : answer_of old.path test ≡ None) (down : IsDeeper old test answer deep) (below : IsRestored s deep after) (back : IsTakenBack after test new) where
  after-path : after.path ≡ path_with old.path test answer
  after-path = below.path ∙ down.path

  pub back-path : new.path ≡ old.path
  back-path = back.path old.path (test, answer) after-path

  -- and what is spent below is spent here
  pub spent-back : spent_between deep after ≡ spent_between old new
  spent-back = rw (down.beside.lists, down.beside.left, back.beside.lists, back.beside.left) refl

  pub restored-back : IsRestored s old new
  restored-back = record {
    path = back-path;
    values = back.beside.values ∙ below.values ∙ down.beside.values;
    clauses = back.beside.clauses ∙ below.clauses ∙ down.beside.clauses;
    left = rw (back.beside.left, ← down.beside.left) below.left;
    stands =
        let there : IsStanding s.schema.now s.query.now (path_with old.path test answer) after.tree after.learned after.cores = subst (λ (p : Answers). IsStanding s.schema.now s.query.now p after.tree after.learned after.cores) after-path below.stands in
        subst (λ (p : Answers). IsStanding s.schema.now s.query.now p new.tree new.learned new.cores) (sym back-path) (at-back s.schema.now s.query.now old.path after new test answer open_test back there);
    more = below.more;
    grows = back.beside.lists ∙ below.grows ∙ ap (λ (l : List Answers). l ++ below.more) down.beside.lists;
  }

-- where nothing has changed
pub restored-same : (s : Search) (state : State) → Stands s state → IsRestored s state state
restored-same s state stands = record {
  path = refl;
  values = refl;
  clauses = refl;
  left = omega arith;
  stands = stands;
  more = [];
  grows = sym (append-nil state.learned.lists);
}

-- where only a split was counted before
pub restored-split : (s : Search) (old new : State) (left : ℕ) → left ≤ old.left → IsRestored s (record { path = old.path; tree = old.tree; clauses = old.clauses; learned = old.learned; cores = old.cores; proofs = old.proofs; last_closed = old.last_closed; values = old.values; left = left }) new → IsRestored s old new
restored-split s old new left less is = record {
  path = is.path;
  values = is.values;
  clauses = is.clauses;
  left = let low = is.left in omega arith;
  stands = is.stands;
  more = is.more;
  grows = is.grows;
}
