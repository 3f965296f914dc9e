-- What the plans of the items of a list say of a request.
use Rattle.std.proofs.Common.{List, [], ◌∷◌, ◌++◌, inl, inr}
use Rattle.std.specs.Prelude.{◌↔◌, ◌⊎◌, ⊤, All, Any}
use Rattle.std.specs.List.{flat_map}
use Rattle.std.proofs.lemmas.List.Elements.{All-cons, All-head, All-nil, All-tail}
use Rattle.policy_model.specs.declared.request.Request.{Request}
use Rattle.policy_model.proofs.Laws.{Any-here, Any-later, Any-nil, Any-split}
use Rattle.policy_compile.specs.Plans.{EachHolds, Plan, PlanHolds, SomeHolds, of_plans}

-- two questions of the same answer
pub Any-same : {T : Type 0} (P Q : T → Type 0) (xs : List T) → ((x : T) → P x ↔ Q x) → (Any P xs ↔ Any Q xs)
Any-same P Q xs same = (λ h. (h.0, h.1, h.2, h.3, (same h.1).0 h.4), λ h. (h.0, h.1, h.2, h.3, (same h.1).1 h.4))

pub some-append : (r : Request) (ps qs : List Plan) → (SomeHolds r (of_plans (ps ++ qs)) ↔ (SomeHolds r (of_plans ps) ⊎ SomeHolds r (of_plans qs)))
some-append r [] qs = (λ h. inr h, λ h. elim h [ inl x ↦ absurd x | inr y ↦ y ])
some-append r (p ∷ ps) qs = (
  λ h. elim h [ inl x ↦ inl (inl x) | inr y ↦ elim ((some-append r ps qs).0 y) [ inl a ↦ inl (inr a) | inr b ↦ inr b ] ],
  λ h. elim h [ inl x ↦ elim x [ inl a ↦ inl a | inr b ↦ inr ((some-append r ps qs).1 (inl b)) ] | inr y ↦ inr ((some-append r ps qs).1 (inr y)) ],
)

pub each-append : (r : Request) (ps qs : List Plan) → (EachHolds r (of_plans (ps ++ qs)) ↔ (EachHolds r (of_plans ps) × EachHolds r (of_plans qs)))
each-append r [] qs = (λ h. (tt, h), λ h. h.1)
each-append r (p ∷ ps) qs = (
  λ h. let rest = (each-append r ps qs).0 h.1 in ((h.0, rest.0), rest.1),
  λ h. (h.0.0, (each-append r ps qs).1 (h.0.1, h.1)),
)

-- some of the plans of the items, where the plans of an item of F say P
pub some-items-where : {T : Type 0} (r : Request) (k : T → List Plan) (P F : T → Type 0) → ((x : T) → F x → (SomeHolds r (of_plans (k x)) ↔ P x)) → (xs : List T) → All F xs → (SomeHolds r (of_plans (flat_map k xs)) ↔ Any P xs)
some-items-where r k P F says [] fit = (λ h. absurd h, λ h. absurd (Any-nil P h))
some-items-where r k P F says (x ∷ xs) fit =
    let here = says x (All-head F x xs fit) in
    let there = some-items-where r k P F says xs (All-tail F x xs fit) in (
      λ h. elim ((some-append r (k x) (flat_map k xs)).0 h) [ inl a ↦ Any-here P x xs (here.0 a) | inr b ↦ Any-later P x xs (there.0 b) ],
      λ h. elim (Any-split P x xs h) [ inl a ↦ (some-append r (k x) (flat_map k xs)).1 (inl (here.1 a)) | inr b ↦ (some-append r (k x) (flat_map k xs)).1 (inr (there.1 b)) ],
    )

-- each of the plans of the items
pub each-items-where : {T : Type 0} (r : Request) (k : T → List Plan) (P F : T → Type 0) → ((x : T) → F x → (EachHolds r (of_plans (k x)) ↔ P x)) → (xs : List T) → All F xs → (EachHolds r (of_plans (flat_map k xs)) ↔ All P xs)
each-items-where r k P F says [] fit = (λ h. All-nil P, λ h. tt)
each-items-where r k P F says (x ∷ xs) fit =
    let here = says x (All-head F x xs fit) in
    let there = each-items-where r k P F says xs (All-tail F x xs fit) in (
      λ h. let parts = (each-append r (k x) (flat_map k xs)).0 h in All-cons P x xs (here.0 parts.0) (there.0 parts.1),
      λ h. (each-append r (k x) (flat_map k xs)).1 (here.1 (All-head P x xs h), there.1 (All-tail P x xs h)),
    )

-- the same of all items
pub some-items : {T : Type 0} (r : Request) (k : T → List Plan) (P : T → Type 0) → ((x : T) → (SomeHolds r (of_plans (k x)) ↔ P x)) → (xs : List T) → (SomeHolds r (of_plans (flat_map k xs)) ↔ Any P xs)
some-items r k P says xs = some-items-where r k P (λ x. ⊤) (λ x fits. says x) xs (λ i d within. tt)

-- one plan among no others
pub some-single : (r : Request) (p : Plan) → (SomeHolds r (of_plans (p ∷ [])) ↔ PlanHolds r p)
some-single r p = (λ h. elim h [ inl x ↦ x | inr y ↦ absurd y ], λ h. inl h)
