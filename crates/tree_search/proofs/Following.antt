-- Unit propagation along a path of a search: one more answer, and the way back.
use Rattle.std.proofs.Common.{◌≡◌, ℕ, List, [], ◌∷◌, ◌++◌, length, Bool, None, refl, sym, ap, ◌∙◌, subst}
use Rattle.formula_tree.specs.Answers.{Answers, answer_of}
use Rattle.formula_tree.specs.Runs.{path_with}
use Rattle.cnf_clauses.specs.declared.following.Conflict.{Conflict}
use Rattle.cnf_clauses.specs.Following.{IsConflictAt, LosesLast}
use Rattle.cnf_clauses.specs.Levels.{Followed}
use Rattle.cnf_clauses.specs.Literals.{Clause}
use Rattle.cnf_clauses.specs.Numbering.{clauses_of}
use Rattle.cnf_clauses.specs.Replays.{NoneReplay}
use Rattle.policy_compile.specs.declared.outcome.Query.{Query}
use Rattle.policy_compile.specs.Queries.{asked_tree}
use Rattle.refute_check.specs.Propagated.{MeetsConflict}
use Rattle.tree_search.specs.Search.{followed_at}

-- the same clauses, and one more answer
abbrev pub followed_on : Followed → ℕ → Bool → Followed
followed_on f test answer = record { clauses = f.clauses; path = f.path ++ (test, answer) ∷ [] }

module _ (query : Query) where
  abbrev clauses : List Clause
  clauses = clauses_of (length query.tests) (asked_tree query)

  -- what is followed meets no conflict
  pub quiet-here : (path : Answers) (f : Followed) → f ≡ followed_at query path → NoneReplay f.clauses f.path → ¬ MeetsConflict query.tests (asked_tree query) path
  quiet-here path f is none met = subst (λ (g : Followed). NoneReplay g.clauses g.path) is none met.hints met.replay

  module _ (before path : Answers) (test : ℕ) (answer : Bool) (f : Followed) (at : f ≡ followed_at query before) (is : path ≡ path_with before test answer) where
    pub new-there : answer_of before test ≡ None → answer_of f.path test ≡ None
    new-there = subst (λ (g : Followed). answer_of g.path test ≡ None) (sym at)

    on-there : followed_on f test answer ≡ followed_at query path
    on-there = subst (λ (g : Followed). followed_on g test answer ≡ followed_at query path) (sym at) (subst (λ (p : Answers). followed_on (followed_at query before) test answer ≡ followed_at query p) (sym is) refl)

    -- one more answer is followed
    pub followed-there : (g : Followed) → g ≡ followed_on f test answer → g ≡ followed_at query path
    followed-there g more = more ∙ on-there

    -- or it meets a conflict at the path
    pub conflict-there : (c : Conflict) → IsConflictAt f.clauses (f.path ++ (test, answer) ∷ []) c → IsConflictAt clauses path c
    conflict-there c met = subst (λ (g : Followed). IsConflictAt g.clauses g.path c) on-there met

-- the last answer taken back again
pub back-there : (f g back : Followed) (test : ℕ) (answer : Bool) → g ≡ followed_on f test answer → back.clauses ≡ g.clauses → LosesLast g.path back.path → back ≡ f
back-there f g back test answer more clauses last =
    let first : back.clauses ≡ f.clauses = clauses ∙ ap (λ (h : Followed). h.clauses) more in
    let second : back.path ≡ f.path = last f.path (test, answer) (ap (λ (h : Followed). h.path) more) in
    ap (λ (cs : List Clause). record { clauses = cs; path = back.path }) first ∙ ap (λ (p : Answers). record { clauses = f.clauses; path = p }) second
