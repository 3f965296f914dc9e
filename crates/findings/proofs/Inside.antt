-- The query of several findings at once, and what it tells where nobody meets it.
use Rattle.std.proofs.Common.{◌≡◌, ℕ, ◌+◌, ◌<◌, List, [], ◌∷◌, ◌++◌, length, get_or, take, inl, inr, sym, ap, subst, ◌∙◌, arith}
use Rattle.std.specs.Prelude.{All, Contains}
use Rattle.std.proofs.lemmas.List.{take_more}
use Rattle.std.proofs.lemmas.List.Elements.{All-contains, Contains-append_left, Contains-get_or, Contains-push, Contains-push_cases}
use Rattle.policy_model.specs.declared.schema.Schema.{Schema}
use Rattle.policy_compile.specs.declared.outcome.Query.{Query}
use Rattle.policy_compile.specs.Queries.{asked_tree}
use Rattle.refute_check.specs.Laws.{NoneMeets}
use Rattle.strata.specs.declared.stratum.Strata.{Strata}
use Rattle.strata.specs.declared.stratum.Stratum.{Stratum}
use Rattle.findings.specs.declared.decide.Asked.{Asked}
use Rattle.findings.specs.declared.decide.Asked.TheVariants as asked
use Rattle.findings.specs.Answers.{AnswersQuery}
use Rattle.findings.specs.Asked.{AsksBoth}
use Rattle.findings.specs.CoverQueries.{inside_plan}
use Rattle.findings.specs.Findings.{HasNobody, IsFinding}
use Rattle.findings.specs.Nobody.{IsInsideQuery, IsPartedBy, KeepInhabited, ShowsNobody}
use Rattle.findings.specs.RegionQueries.{AsksSomeRegion}
use Rattle.findings.specs.Steps.{AddUnder}
use Rattle.findings.proofs.Besides.{both-askable, both-hold}
use Rattle.findings.proofs.Covered.{each-lies-suit}
use Rattle.findings.proofs.LeftOut.{some-lie-holds}
use Rattle.findings.proofs.Looking.{some-answers}
use Rattle.findings.proofs.Made.{made-steps, made-suits}
use Rattle.findings.proofs.Orders.{under-finding}

-- what the findings' query says
pub inside-query : (base : Query) (strata : Strata) (fs : List (List ℕ)) → All (IsFinding strata.dimensions) fs → (q : Query) → AsksBoth (inside_plan strata.dimensions fs) base q → IsInsideQuery base strata fs q
inside-query base strata fs are q both = record {
  inside = λ schema region asks r answers valid say. (
      let told = both-hold schema (inside_plan strata.dimensions fs) base q both region asks.is r answers valid say in
      let some = some-lie-holds schema r strata.dimensions (made-suits schema region asks.base strata asks.made) fs are in
      (λ h. (let each = told.0 h in record { allowed = each.1; inside = some.0 each.0 }), λ h. told.1 (some.1 h.inside, h.allowed)));
  askable = λ schema region asks.
      both-askable schema (inside_plan strata.dimensions fs) base q both asks.made.sound (each-lies-suit schema strata.dimensions (made-suits schema region asks.base strata asks.made) fs) asks.is.suit asks.is.below;
}

-- where nobody meets the query, nobody is allowed anything in any of the findings
pub told-nobody : (schema : Schema) (base : Query) (strata : Strata) (fs : List (List ℕ)) (q : Query) (splits states : ℕ) (answer : Asked) → IsInsideQuery base strata fs q → AnswersQuery schema splits states q answer → ShowsNobody schema base strata fs answer
told-nobody schema base strata fs q splits states answer query says is region asks k d within r valid allowed lies =
    let none : NoneMeets schema q.tests (asked_tree q) [] = subst (AnswersQuery schema splits states q) is says in
    let there = Contains-get_or fs k d within in
    some-answers r q.tests (λ answers say. none r (record {
      valid = valid;
      answers = λ n b t e at. absurd (cc);
      meets = (answers, say, (query.inside schema region asks r answers valid say).1 (record { allowed = allowed; inside = (there.0, get_or fs k d, there.1, there.2, lies) }));
    }))

-- ---- which findings are kept

pub all-kept : (schema : Schema) (base : Query) (strata : Strata) (fs : List (List ℕ)) → KeepInhabited schema base strata fs fs
all-kept schema base strata fs region made = record { only = λ f h. h; others = λ f h. inl h }

pub marked-kept : (schema : Schema) (base : Query) (strata : Strata) (fs : List (List ℕ)) (parts : List (List ℕ) × List (List ℕ)) (answer : Asked) → IsPartedBy fs parts → ShowsNobody schema base strata parts.0 answer → answer ≡ asked.Nobody → KeepInhabited schema base strata fs parts.1
marked-kept schema base strata fs parts answer parted tells is region made = record {
  only = parted.second;
  others = λ f h. elim (parted.either f h) [
    | inl there ↦ inr (All-contains (HasNobody schema region strata.dimensions) parts.0 f (tells is region made) there)
    | inr marked ↦ inl marked
  ];
}

pub open-findings : (ds : List Stratum) (fs : List (List ℕ)) (parts : List (List ℕ) × List (List ℕ)) → All (IsFinding ds) fs → IsPartedBy fs parts → All (IsFinding ds) parts.0
open-findings ds fs parts are parted k d within =
    let there = Contains-get_or parts.0 k d within in
    All-contains (IsFinding ds) fs (get_or parts.0 k d) are (parted.first (get_or parts.0 k d) there)

-- the findings up to an index, and the one there
pub take-next : (fs items : List (List ℕ)) (i : ℕ) (list f : List ℕ) → items ≡ fs → list ≡ get_or items i list → f ≡ list → i < length fs → take (i + 1) fs ≡ take i fs ++ f ∷ []
take-next fs items i list f same is copied within =
    let own : f ≡ get_or fs i list = copied ∙ (is ∙ ap (λ (zs : List (List ℕ)). get_or zs i list) same) in
    take_more fs i list within ∙ ap (λ (x : List ℕ). take i fs ++ x ∷ []) (sym own)

abbrev Parts : Type 0
Parts = List (List ℕ) × List (List ℕ)

pub first-parted : (fs all one other first second : List (List ℕ)) (f : List ℕ) → IsPartedBy fs (one, other) → all ≡ fs ++ f ∷ [] → first ≡ one ++ f ∷ [] → second ≡ other → IsPartedBy all (first, second)
first-parted fs all one other first second f parted all_is first_is second_is = subst (λ (xs : List (List ℕ)). IsPartedBy xs (first, second)) (sym all_is) (subst (λ (p : Parts). IsPartedBy (fs ++ f ∷ []) p) (sym (ap (λ (xs : List (List ℕ)). (xs, second)) first_is ∙ ap (λ (xs : List (List ℕ)). (one ++ f ∷ [], xs)) second_is)) (record {
  either = λ g h. elim (Contains-push_cases fs f g h) [
    | inl before ↦ elim (parted.either g before) [ inl a ↦ inl (Contains-append_left one (f ∷ []) g a) | inr b ↦ inr b ]
    | inr same ↦ inl (subst (Contains (one ++ f ∷ [])) same (Contains-push one f))
  ];
  first = λ g h. elim (Contains-push_cases one f g h) [
    | inl before ↦ Contains-append_left fs (f ∷ []) g (parted.first g before)
    | inr same ↦ subst (Contains (fs ++ f ∷ [])) same (Contains-push fs f)
  ];
  second = λ g h. Contains-append_left fs (f ∷ []) g (parted.second g h);
}))

pub second-parted : (fs all one other first second : List (List ℕ)) (f : List ℕ) → IsPartedBy fs (one, other) → all ≡ fs ++ f ∷ [] → first ≡ one → second ≡ other ++ f ∷ [] → IsPartedBy all (first, second)
second-parted fs all one other first second f parted all_is first_is second_is = subst (λ (xs : List (List ℕ)). IsPartedBy xs (first, second)) (sym all_is) (subst (λ (p : Parts). IsPartedBy (fs ++ f ∷ []) p) (sym (ap (λ (xs : List (List ℕ)). (xs, second)) first_is ∙ ap (λ (xs : List (List ℕ)). (one, xs)) second_is)) (record {
  either = λ g h. elim (Contains-push_cases fs f g h) [
    | inl before ↦ elim (parted.either g before) [ inl a ↦ inl a | inr b ↦ inr (Contains-append_left other (f ∷ []) g b) ]
    | inr same ↦ inr (subst (Contains (other ++ f ∷ [])) same (Contains-push other f))
  ];
  first = λ g h. Contains-append_left fs (f ∷ []) g (parted.first g h);
  second = λ g h. elim (Contains-push_cases other f g h) [
    | inl before ↦ Contains-append_left fs (f ∷ []) g (parted.second g before)
    | inr same ↦ subst (Contains (fs ++ f ∷ [])) same (Contains-push fs f)
  ];
}))

-- those right under a finding are findings
pub under-findings : (schema : Schema) (base : Query) (strata : Strata) → AsksSomeRegion schema base strata → (f : List ℕ) → IsFinding strata.dimensions f → (under : List (List ℕ)) → AddUnder strata.dimensions f [] under → All (IsFinding strata.dimensions) under
under-findings schema base strata made f is under adds k d within =
    let steps = made-steps schema made.0 made.1.base strata made.1.made in
    elim (adds.only (get_or under k d) (Contains-get_or under k d within)) [
      | inl none ↦ absurd (omega (arith, none.1))
      | inr right ↦ under-finding schema strata.dimensions steps (get_or under k d) f right is
    ]
