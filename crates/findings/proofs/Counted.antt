-- No more findings are found than were looked at.
use Rattle.std.proofs.Common.{◌≡◌, ℕ, ◌+◌, ◌<◌, ◌≤◌, List, [], ◌∷◌, length, get_or, map, All, Contains, Less, Equal, sym, ap, ◌∙◌, subst, inl, inr, arith, refl, zero, suc}
use Rattle.std.specs.Cmp.Lexicographic.{slice_cmp}
use Rattle.std.specs.List.{remove}
use Rattle.std.specs.List.Sorted.{IsStrictlySortedBy}
use Rattle.std.specs.Ordering.{nat_cmp}
use Rattle.std.proofs.lemmas.Bool.{cases_eq, cases_lt}
use Rattle.std.proofs.lemmas.Cmp.{nat_list_cmp_total, tied_itself}
use Rattle.std.proofs.lemmas.List.{get_or_default, length-map}
use Rattle.std.proofs.lemmas.List.Edits.{get_or-remove_above, get_or-remove_below, length-remove}
use Rattle.std.proofs.lemmas.List.Elements.{All-contains, All-map, All-weaker}
use Rattle.std.proofs.lemmas.Map.Keys.{sorted_tail}
use Rattle.std.proofs.lemmas.Map.Views.{All-after_first}
use Rattle.policy_model.specs.declared.request.Request.{Request}
use Rattle.policy_model.specs.declared.schema.Schema.{Schema}
use Rattle.policy_compile.specs.declared.outcome.Query.{Query}
use Rattle.strata.specs.declared.stratum.Strata.{Strata}
use Rattle.findings.specs.declared.walk.Walk.{Walk}
use Rattle.findings.specs.Ending.{HasEnded}
use Rattle.findings.specs.Queries.{AreMadeUnder}
use Rattle.findings.specs.Summaries.{findings_of}
use Rattle.findings.specs.Walked.{SameBesides, found_by}
use Rattle.findings.specs.Walks.{IsFoundFinding}

-- ---- a list in strict order has no more items than a list that has them all

-- what is in a list beside the item that is taken out stays in it
still-in : (fs : List (List ℕ)) (k : ℕ) (g f : List ℕ) → k < length fs → get_or fs k g ≡ g → (g ≡ f → ⊥) → Contains fs f → Contains (remove fs k) f
still-in fs k g f within at differ here =
    let count = length-remove fs k within in
    elim (cases_lt here.0 k) [
      | inl before ↦ (here.0, omega (arith, count, before), get_or-remove_below fs k f here.0 before within ∙ here.2)
      | inr past ↦ elim (cases_eq here.0 k) [
        | inl same ↦ absurd (differ (sym at ∙ (get_or_default fs k g f within ∙ (ap (λ n. get_or fs n f) (sym same) ∙ here.2))))
        | inr other ↦ behind here.0 (omega (arith, past, other)) here.1 here.2
      ]
    ]
  where
    behind : (n : ℕ) → k < n → n < length fs → get_or fs n f ≡ f → Contains (remove fs k) f
    behind zero more l e = absurd (omega arith)
    behind (suc n) more l e = (n, omega (arith, length-remove fs k within), get_or-remove_above fs k f n (omega arith) within ∙ (let next : n + 1 ≡ suc n = omega arith in ap (λ m. get_or fs m f) next) ∙ e)

-- the first of a list in strict order isn't among the others
first-apart : (f g : List ℕ) (fs : List (List ℕ)) → IsStrictlySortedBy (slice_cmp nat_cmp) (f ∷ fs) → Contains fs g → f ≡ g → ⊥
first-apart f g fs sorted here same =
    let less : slice_cmp nat_cmp f g ≡ Less = All-contains (λ h. slice_cmp nat_cmp f h ≡ Less) fs g (All-after_first (slice_cmp nat_cmp) f fs sorted) here in
    let tie : slice_cmp nat_cmp f g ≡ Equal = ap (slice_cmp nat_cmp f) (sym same) ∙ tied_itself nat_list_cmp_total f in
    absurd (cc)

few-in : (fs gs : List (List ℕ)) → IsStrictlySortedBy (slice_cmp nat_cmp) fs → ((f : List ℕ) → Contains fs f → Contains gs f) → length fs ≤ length gs
few-in [] gs sorted within = omega arith
few-in (f ∷ fs) gs sorted within =
    let at = within f (0, omega arith, refl) in
    let rest = few-in fs (remove gs at.0) (sorted_tail (slice_cmp nat_cmp) f fs sorted) (λ g here. still-in gs at.0 f g at.1 at.2 (first-apart f g fs sorted here) (within g (suc here.0, omega (arith, here.1), here.2))) in
    omega (arith, length-remove gs at.0 at.1, rest)

-- ---- walks

-- after so many findings were looked at, no more than may be
pub no-more-looked : (old new : Walk) (n findings : ℕ) → n ≤ findings → length old.looked.keys ≡ n → SameBesides old new → length new.looked.keys ≤ findings
no-more-looked old new n findings most count same = omega (arith, most, count, ap (λ (fs : List (List ℕ)). length fs) same.looked)

-- those that were found were looked at
found-looked : (schema : Schema) (base : Query) (strata : Strata) (w : Walk) → AreMadeUnder schema base strata → HasEnded schema base strata w → All (Contains w.looked.keys) (findings_of (found_by w))
found-looked schema base strata w made ended =
    let region = made.0 in
    let old = ended.before in
    let own = (ended.stands region made.1).own in
    let all : All (Contains old.looked.keys) (findings_of (found_by old)) =
    All-map (Contains old.looked.keys) (λ (p : List ℕ × Request). p.0) (found_by old) (All-weaker (IsFoundFinding schema region strata.dimensions old.looked.keys) (λ p. Contains old.looked.keys p.0) (λ p h. h.0) (found_by old) own) in
    let found : found_by old ≡ found_by w = sym (ap (map (λ e. (e.0.items, e.1))) ended.same.found) in
    subst (λ (fs : List (List ℕ)). All (Contains fs) (findings_of (found_by w))) (sym ended.same.looked) (subst (λ (ps : List (List ℕ × Request)). All (Contains old.looked.keys) (findings_of ps)) found all)

-- so they are no more than may be looked at
pub few-found : (schema : Schema) (base : Query) (strata : Strata) (w : Walk) (findings : ℕ) (summary : List (List ℕ × Request)) → AreMadeUnder schema base strata → HasEnded schema base strata w → length w.looked.keys ≤ findings → summary ≡ found_by w → IsStrictlySortedBy (slice_cmp nat_cmp) (findings_of summary) → length summary ≤ findings
few-found schema base strata w findings summary made ended few is order =
    let all : All (Contains w.looked.keys) (findings_of summary) = subst (λ (ps : List (List ℕ × Request)). All (Contains w.looked.keys) (findings_of ps)) (sym is) (found-looked schema base strata w made ended) in
    let count = few-in (findings_of summary) w.looked.keys order (λ f here. All-contains (Contains w.looked.keys) (findings_of summary) f all here) in
    omega (arith, count, few, length-map summary (λ (p : List ℕ × Request). p.0))
