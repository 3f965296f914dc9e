-- Which tests stand in the plans of sets: those that the plan of some statement has.
use Rattle.std.proofs.Common.{◌≡◌, ◌↔◌, List, [], ◌∷◌, ◌++◌, Bool, true, false, refl, sym, subst, inl, inr, ◌⊎◌, arith}
use Rattle.std.specs.Prelude.{Any, Contains}
use Rattle.std.specs.List.{flat_map}
use Rattle.std.proofs.lemmas.Bool.{cases_Bool}
use Rattle.std.proofs.lemmas.List.Elements.{Contains-append_cases, Contains-append_left, Contains-append_right}
use Rattle.policy_model.proofs.Laws.{Any-here, Any-later, Any-nil, Any-split}
use Rattle.policy_model.specs.declared.schema.Schema.{Schema}
use Rattle.policy_model.specs.declared.set.Statement.{Statement}
use Rattle.policy_model.specs.declared.set.Document.{Document}
use Rattle.policy_model.specs.declared.set.PolicySet.{PolicySet}
use Rattle.policy_model.specs.declared.test.Test.{Test}
use Rattle.policy_compile.specs.Asked.{HasStatementsOf, SomeStatementIn, SomeStatementOf}
use Rattle.policy_compile.specs.Limits.{AsksNoOther}
use Rattle.policy_compile.specs.Plans.{Plan, of_plans, tests_in, tests_in_each}
use Rattle.policy_compile.specs.Sets.{deny_plans, document_plans, grants_plan, guard_deny_plans, guard_plans, no_deny_plan, query_plan, set_plan, statement_plan, statement_plans, where_same}
use Rattle.policy_compile.proofs.Collecting.{tests_in_each-append}

-- ---- some items of lists

pub Any-where : {T : Type 0} (P Q : T → Type 0) (xs : List T) → ((x : T) → P x → Q x) → Any P xs → Any Q xs
Any-where P Q xs moves h = (h.0, h.1, h.2, h.3, moves h.1 h.4)

-- an item of which one of two things holds
Any-either : {T : Type 0} (P Q R : T → Type 0) (xs : List T) → ((x : T) → P x → Q x ⊎ R x) → Any P xs → Any Q xs ⊎ Any R xs
Any-either P Q R xs splits h = elim (splits h.1 h.4) [ inl q ↦ inl (h.0, h.1, h.2, h.3, q) | inr r ↦ inr (h.0, h.1, h.2, h.3, r) ]

-- the test stands in one of the plans
abbrev Stands : Test → List Plan → Type 0
Stands t ps = Contains (tests_in_each (of_plans ps)) t

none-stands : (t : Test) → ¬ Stands t []
none-stands t at = let none = at.1 in omega arith

stands-more : (t : Test) (p : Plan) (ps : List Plan) → (Stands t (p ∷ ps) ↔ (Contains (tests_in p) t ⊎ Stands t ps))
stands-more t p ps = (
  λ at. Contains-append_cases (tests_in p) (tests_in_each (of_plans ps)) t at,
  λ at. elim at [ inl a ↦ Contains-append_left (tests_in p) (tests_in_each (of_plans ps)) t a | inr b ↦ Contains-append_right (tests_in p) (tests_in_each (of_plans ps)) t b ],
)

stands-one : (t : Test) (p : Plan) → (Stands t (p ∷ []) ↔ Contains (tests_in p) t)
stands-one t p = (
  λ at. elim ((stands-more t p []).0 at) [ inl a ↦ a | inr b ↦ absurd (none-stands t b) ],
  λ at. (stands-more t p []).1 (inl at),
)

stands-append : (t : Test) (ps qs : List Plan) → (Stands t (ps ++ qs) ↔ (Stands t ps ⊎ Stands t qs))
stands-append t ps qs =
    let front = tests_in_each (of_plans ps) in
    let back = tests_in_each (of_plans qs) in (
      λ at. Contains-append_cases front back t (subst (λ (ts : List Test). Contains ts t) (tests_in_each-append ps qs) at),
      λ at. subst (λ (ts : List Test). Contains ts t) (sym (tests_in_each-append ps qs)) (elim at [ inl a ↦ Contains-append_left front back t a | inr b ↦ Contains-append_right front back t b ]),
    )

stands-items : {T : Type 0} (t : Test) (k : T → List Plan) (P : T → Type 0) → ((x : T) → (Stands t (k x) ↔ P x)) → (xs : List T) → (Stands t (flat_map k xs) ↔ Any P xs)
stands-items t k P says [] = (λ at. absurd (none-stands t at), λ at. absurd (Any-nil P at))
stands-items t k P says (x ∷ xs) = (
  λ at. elim ((stands-append t (k x) (flat_map k xs)).0 at) [ inl a ↦ Any-here P x xs ((says x).0 a) | inr b ↦ Any-later P x xs ((stands-items t k P says xs).0 b) ],
  λ at. elim (Any-split P x xs at) [ inl a ↦ (stands-append t (k x) (flat_map k xs)).1 (inl ((says x).1 a)) | inr b ↦ (stands-append t (k x) (flat_map k xs)).1 (inr ((stands-items t k P says xs).1 b)) ],
)

-- ---- the plans of a set

module _ (schema : Schema) (t : Test) where
  -- the statement's plan has the test
  abbrev pub Has : Statement → Type 0
  Has s = Contains (tests_in (statement_plan schema s)) t

  -- and the statement has this effect
  abbrev HasBy : Bool → Statement → Type 0
  HasBy allow s = (s.allow ≡ allow) × Has s

  abbrev SomeBy : Bool → List Document → Type 0
  SomeBy allow documents = SomeStatementIn (HasBy allow) documents

  stands-same : (allow own : Bool) (s : Statement) → s.allow ≡ own → (Stands t (where_same allow own (statement_plan schema s ∷ [])) ↔ HasBy allow s)
  stands-same true true s is = (λ at. (is, (stands-one t (statement_plan schema s)).0 at), λ h. (stands-one t (statement_plan schema s)).1 h.1)
  stands-same true false s is = (λ at. absurd (none-stands t at), λ h. absurd (let other = h.0 in cc))
  stands-same false true s is = (λ at. absurd (none-stands t at), λ h. absurd (let other = h.0 in cc))
  stands-same false false s is = (λ at. (is, (stands-one t (statement_plan schema s)).0 at), λ h. (stands-one t (statement_plan schema s)).1 h.1)

  stands-documents : (allow : Bool) (documents : List Document) → (Stands t (document_plans schema allow documents) ↔ SomeBy allow documents)
  stands-documents allow documents =
      stands-items t (λ d. statement_plans schema allow d.statements) (λ d. Any (HasBy allow) d.statements)
      (λ d. stands-items t (λ s. where_same allow s.allow (statement_plan schema s ∷ [])) (HasBy allow) (λ s. stands-same allow s.allow s refl) d.statements) documents

  stands-guards : (guards : List (List Document)) → (Stands t (guard_plans schema guards) ↔ Any (SomeBy true) guards)
  stands-guards guards =
      stands-items t (λ g. grants_plan schema g ∷ []) (SomeBy true)
      (λ g. let one = stands-one t (grants_plan schema g) in let some = stands-documents true g in (λ at. some.0 (one.0 at), λ h. one.1 (some.1 h))) guards

  stands-denies : (set : PolicySet) → (Stands t (deny_plans schema set) ↔ (SomeBy false set.grants ⊎ Any (SomeBy false) set.guards))
  stands-denies set =
      let both = stands-append t (document_plans schema false set.grants) (guard_deny_plans schema set.guards) in
      let grants = stands-documents false set.grants in
      let guards = stands-items t (λ g. document_plans schema false g) (SomeBy false) (stands-documents false) set.guards in (
        λ at. elim (both.0 at) [ inl a ↦ inl (grants.0 a) | inr b ↦ inr (guards.0 b) ],
        λ h. elim h [ inl a ↦ both.1 (inl (grants.1 a)) | inr b ↦ both.1 (inr (guards.1 b)) ],
      )

  -- the parts of a set's plan
  abbrev InParts : PolicySet → Type 0
  InParts set = SomeBy true set.grants ⊎ (Any (SomeBy true) set.guards ⊎ (SomeBy false set.grants ⊎ Any (SomeBy false) set.guards))

  stands-set : (set : PolicySet) → (Contains (tests_in (set_plan schema set)) t ↔ InParts set)
  stands-set set =
      let first = stands-more t (grants_plan schema set.grants) (guard_plans schema set.guards ++ no_deny_plan schema set ∷ []) in
      let grants = stands-documents true set.grants in
      let rest = stands-append t (guard_plans schema set.guards) (no_deny_plan schema set ∷ []) in
      let guards = stands-guards set.guards in
      let last = stands-one t (no_deny_plan schema set) in
      let denies = stands-denies set in (
        λ at. elim (first.0 at) [
          | inl a ↦ inl (grants.0 a)
          | inr b ↦ elim (rest.0 b) [ inl c ↦ inr (inl (guards.0 c)) | inr d ↦ inr (inr (denies.0 (last.0 d))) ]
        ],
        λ h. elim h [
          | inl a ↦ first.1 (inl (grants.1 a))
          | inr b ↦ first.1 (inr (elim b [ inl c ↦ rest.1 (inl (guards.1 c)) | inr d ↦ rest.1 (inr (last.1 (denies.1 d))) ]))
        ],
      )

  -- ---- whatever the effect

  any-effect : (allow : Bool) (documents : List Document) → SomeBy allow documents → SomeStatementIn Has documents
  any-effect allow documents h =
      Any-where (λ d. Any (HasBy allow) d.statements) (λ d. Any Has d.statements) documents (λ d some. Any-where (HasBy allow) Has d.statements (λ s one. one.1) some) h

  by-effect : (s : Statement) → Has s → HasBy true s ⊎ HasBy false s
  by-effect s h = elim (cases_Bool s.allow) [ inl e ↦ inl (e, h) | inr e ↦ inr (e, h) ]

  some-effect : (documents : List Document) → SomeStatementIn Has documents → SomeBy true documents ⊎ SomeBy false documents
  some-effect documents h =
      Any-either (λ d. Any Has d.statements) (λ d. Any (HasBy true) d.statements) (λ d. Any (HasBy false) d.statements) documents
      (λ d some. Any-either Has (HasBy true) (HasBy false) d.statements by-effect some) h

  parts-some : (set : PolicySet) → InParts set → SomeStatementOf Has set
  parts-some set (inl a) = inl (any-effect true set.grants a)
  parts-some set (inr (inl b)) = inr (Any-where (SomeBy true) (SomeStatementIn Has) set.guards (any-effect true) b)
  parts-some set (inr (inr (inl c))) = inl (any-effect false set.grants c)
  parts-some set (inr (inr (inr d))) = inr (Any-where (SomeBy false) (SomeStatementIn Has) set.guards (any-effect false) d)

  some-parts : (set : PolicySet) → SomeStatementOf Has set → InParts set
  some-parts set (inl h) = elim (some-effect set.grants h) [ inl a ↦ inl a | inr b ↦ inr (inr (inl b)) ]
  some-parts set (inr h) = elim (Any-either (SomeStatementIn Has) (SomeBy true) (SomeBy false) set.guards some-effect h) [ inl a ↦ inr (inl a) | inr b ↦ inr (inr (inr b)) ]

  -- a set's plan has the test where the plan of some statement of it does
  pub set-has : (set : PolicySet) → (Contains (tests_in (set_plan schema set)) t ↔ SomeStatementOf Has set)
  set-has set = (λ at. parts-some set ((stands-set set).0 at), λ h. (stands-set set).1 (some-parts set h))

  -- ---- parts of sets

  -- some statement of which P holds is a statement of the set
  at-documents : (P : Statement → Type 0) (documents : List Document) → SomeStatementIn P documents → (s : Statement) × P s × SomeStatementIn (λ u. u ≡ s) documents
  at-documents P documents h = let some = h.4 in (some.1, some.4, (h.0, h.1, h.2, h.3, (some.0, some.1, some.2, some.3, refl)))

  at-set : (P : Statement → Type 0) (set : PolicySet) → SomeStatementOf P set → (s : Statement) × P s × SomeStatementOf (λ u. u ≡ s) set
  at-set P set (inl h) = let one = at-documents P set.grants h in (one.0, one.1, inl one.2)
  at-set P set (inr h) = let one = at-documents P h.1 h.4 in (one.0, one.1, inr (h.0, h.1, h.2, h.3, one.2))

  move-documents : (P : Statement → Type 0) (s : Statement) → P s → (documents : List Document) → SomeStatementIn (λ u. u ≡ s) documents → SomeStatementIn P documents
  move-documents P s holds documents h =
      Any-where (λ d. Any (λ u. u ≡ s) d.statements) (λ d. Any P d.statements) documents (λ d some. Any-where (λ u. u ≡ s) P d.statements (λ u is. subst P (sym is) holds) some) h

  move-set : (P : Statement → Type 0) (s : Statement) → P s → (set : PolicySet) → SomeStatementOf (λ u. u ≡ s) set → SomeStatementOf P set
  move-set P s holds set (inl h) = inl (move-documents P s holds set.grants h)
  move-set P s holds set (inr h) = inr (Any-where (SomeStatementIn (λ u. u ≡ s)) (SomeStatementIn P) set.guards (move-documents P s holds) h)

  -- what the plan of a part has the plan of the set has
  part-has : (set part : PolicySet) → HasStatementsOf set part → Contains (tests_in (set_plan schema part)) t → Contains (tests_in (set_plan schema set)) t
  part-has set part among at =
      let one = at-set Has part ((set-has part).0 at) in
      (set-has set).1 (move-set Has one.0 one.1 set (among one.0 one.2))

  pair-has : (p q : PolicySet) → (Contains (tests_in (query_plan schema p q)) t ↔ (Contains (tests_in (set_plan schema p)) t ⊎ Contains (tests_in (set_plan schema q)) t))
  pair-has p q =
      let front = tests_in (set_plan schema p) in
      let back = tests_in (set_plan schema q) in (
        λ at. elim (Contains-append_cases front (back ++ []) t at) [ inl a ↦ inl a | inr b ↦ elim (Contains-append_cases back [] t b) [ inl c ↦ inr c | inr d ↦ absurd (none-stands t d) ] ],
        λ h. elim h [ inl a ↦ Contains-append_left front (back ++ []) t a | inr b ↦ Contains-append_right front (back ++ []) t (Contains-append_left back [] t b) ],
      )

  first-same : (set part : PolicySet) → HasStatementsOf set part → (Contains (tests_in (query_plan schema set part)) t ↔ Contains (tests_in (set_plan schema set)) t)
  first-same set part among = (
    λ at. elim ((pair-has set part).0 at) [ inl a ↦ a | inr b ↦ part-has set part among b ],
    λ at. (pair-has set part).1 (inl at),
  )

  second-same : (set part : PolicySet) → HasStatementsOf set part → (Contains (tests_in (query_plan schema part set)) t ↔ Contains (tests_in (set_plan schema set)) t)
  second-same set part among = (
    λ at. elim ((pair-has part set).0 at) [ inl a ↦ part-has set part among a | inr b ↦ b ],
    λ at. (pair-has part set).1 (inr at),
  )

pub part-asks : (schema : Schema) (set part : PolicySet) → HasStatementsOf set part → AsksNoOther schema set part
part-asks schema set part among = record {
  first = λ t. first-same schema t set part among;
  second = λ t. second-same schema t set part among;
}
