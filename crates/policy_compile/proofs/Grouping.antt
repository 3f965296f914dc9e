-- Neighbours with one operator are one group.
use Rattle.std.proofs.Common.{◌≡◌, ◌<◌, ◌+◌, ◌-◌, ℕ, suc, List, [], ◌∷◌, ◌++◌, length, get_or, Bool, true, false, refl, ap, sym, ◌∙◌, subst, if◌then◌else◌, arith}
use Rattle.std.specs.Prelude.{◌↔◌, All}
use Rattle.std.proofs.lemmas.List.Elements.{All-cons, All-nil, All-head, All-tail}
use Rattle.std.specs.List.{IsChunkByPrefix}
use Rattle.policy_model.specs.declared.operator.Condition.{Condition}
use Rattle.policy_compile.specs.Conditions.{join_group, operator_groups, same_operator}

-- the groups of a list that begins with a condition begin with one that does
join-begins : (d : Condition) (groups : List (List Condition)) → (more : List Condition) × (rest : List (List Condition)) × (join_group d groups ≡ (d ∷ more) ∷ rest)
join-begins d [] = ([], [], refl)
join-begins d ([] ∷ groups) = ([], groups, refl)
join-begins d ((e ∷ es) ∷ groups) = by (same_operator d e) refl
  where
    by : (b : Bool) → same_operator d e ≡ b → (more : List Condition) × (rest : List (List Condition)) × (join_group d ((e ∷ es) ∷ groups) ≡ (d ∷ more) ∷ rest)
    by true same = (e ∷ es, groups, ap (λ b. if b then (d ∷ e ∷ es) ∷ groups else (d ∷ []) ∷ (e ∷ es) ∷ groups) same)
    by false other = ([], (e ∷ es) ∷ groups, ap (λ b. if b then (d ∷ e ∷ es) ∷ groups else (d ∷ []) ∷ (e ∷ es) ∷ groups) other)

-- a condition joins a group that begins with its operator, and no other
join-same : (c d : Condition) (ds : List Condition) (groups : List (List Condition)) → same_operator c d ≡ true → join_group c ((d ∷ ds) ∷ groups) ≡ (c ∷ d ∷ ds) ∷ groups
join-same c d ds groups same = ap (λ b. if b then (c ∷ d ∷ ds) ∷ groups else (c ∷ []) ∷ (d ∷ ds) ∷ groups) same

join-other : (c d : Condition) (ds : List Condition) (groups : List (List Condition)) → same_operator c d ≡ false → join_group c ((d ∷ ds) ∷ groups) ≡ (c ∷ []) ∷ (d ∷ ds) ∷ groups
join-other c d ds groups other = ap (λ b. if b then (c ∷ d ∷ ds) ∷ groups else (c ∷ []) ∷ (d ∷ ds) ∷ groups) other

alone-first : (c : Condition) (left : List Condition) → (0 < length left → (e : Condition) → same_operator c (get_or left 0 e) ≡ false) → operator_groups (c ∷ left) ≡ (c ∷ []) ∷ operator_groups left
alone-first c [] other = refl
alone-first c (d ∷ left) other =
    let begins = join-begins d (operator_groups left) in
    ap (join_group c) begins.2 ∙ join-other c d begins.0 begins.1 (other (omega arith) d) ∙ ap (λ gs. (c ∷ []) ∷ gs) (sym begins.2)

-- the longest front of neighbours with one operator is the first group
groups-first : (xs left : List Condition) → 0 < length xs → IsChunkByPrefix same_operator (xs ++ left) (length xs) → operator_groups (xs ++ left) ≡ xs ∷ operator_groups left
groups-first [] left some is = absurd (omega (arith, some))
groups-first (c ∷ []) left some is = alone-first c left (λ more e. is.1 (omega (arith, more)) e)
groups-first (c ∷ d ∷ xs) left some is =
    let n = length xs in
    let ys = d ∷ xs ++ left in
    let next : (k : ℕ) → suc k + 1 ≡ suc (k + 1) = λ k. omega arith in
    let before : suc (suc n) - 1 ≡ suc n = omega arith in
    let last : suc n - 1 ≡ n = omega arith in
    let rest : operator_groups ys ≡ (d ∷ xs) ∷ operator_groups left = groups-first (d ∷ xs) left (omega arith) (
      (λ k e within. subst (λ (i : ℕ). same_operator (get_or ys k e) (get_or (c ∷ ys) i e) ≡ true) (next k) (is.0 (suc k) e (omega (arith, within)))),
      (λ more e. subst (λ (i : ℕ). same_operator (get_or ys i e) (get_or (xs ++ left) n e) ≡ false) (sym last)
          (subst (λ (i : ℕ). same_operator (get_or (c ∷ ys) i e) (get_or (xs ++ left) n e) ≡ false) before (is.1 (omega (arith, more)) e))),
    ) in
    ap (join_group c) rest ∙ join-same c d xs (operator_groups left) (is.0 0 c (omega arith))

-- a front that was taken off a list by this is its first group
pub next-group : (all xs left : List Condition) → all ≡ xs ++ left → 0 < length xs → IsChunkByPrefix same_operator all (length xs) → operator_groups all ≡ xs ∷ operator_groups left
next-group all xs left split some is =
    ap operator_groups split ∙ groups-first xs left some (subst (λ (cs : List Condition). IsChunkByPrefix same_operator cs (length xs)) split is)

-- no conditions have no groups
pub no-groups : (xs : List Condition) → length xs ≡ 0 → operator_groups xs ≡ []
no-groups [] none = refl
no-groups (c ∷ xs) none = absurd (omega (arith, none))

-- ---- what holds of each condition

abbrev EachOf : (Condition → Type 0) → List (List Condition) → Type 0
EachOf P groups = All (λ group. All P group) groups

split-joined : (P : Condition → Type 0) (c : Condition) (group : List Condition) (groups : List (List Condition)) → (EachOf P ((c ∷ group) ∷ groups) ↔ (P c × EachOf P (group ∷ groups)))
split-joined P c group groups =
    let Each = λ (g : List Condition). All P g in (
      λ h.
          let first = All-head Each (c ∷ group) groups h in
          (All-head P c group first, All-cons Each group groups (All-tail P c group first) (All-tail Each (c ∷ group) groups h)),
      λ h. All-cons Each (c ∷ group) groups (All-cons P c group h.0 (All-head Each group groups h.1)) (All-tail Each group groups h.1),
    )

split-alone : (P : Condition → Type 0) (c : Condition) (groups : List (List Condition)) → (EachOf P ((c ∷ []) ∷ groups) ↔ (P c × EachOf P groups))
split-alone P c groups =
    let Each = λ (g : List Condition). All P g in (
      λ h. (All-head P c [] (All-head Each (c ∷ []) groups h), All-tail Each (c ∷ []) groups h),
      λ h. All-cons Each (c ∷ []) groups (All-cons P c [] h.0 (All-nil P)) h.1,
    )

join-all : (P : Condition → Type 0) (c : Condition) (groups : List (List Condition)) → (EachOf P (join_group c groups) ↔ (P c × EachOf P groups))
join-all P c [] = split-alone P c []
join-all P c ([] ∷ groups) = split-joined P c [] groups
join-all P c ((d ∷ ds) ∷ groups) = by (same_operator c d) refl
  where
    by : (b : Bool) → same_operator c d ≡ b → (EachOf P (join_group c ((d ∷ ds) ∷ groups)) ↔ (P c × EachOf P ((d ∷ ds) ∷ groups)))
    by true same = subst (λ (gs : List (List Condition)). EachOf P gs ↔ (P c × EachOf P ((d ∷ ds) ∷ groups))) (sym (join-same c d ds groups same)) (split-joined P c (d ∷ ds) groups)
    by false other = subst (λ (gs : List (List Condition)). EachOf P gs ↔ (P c × EachOf P ((d ∷ ds) ∷ groups))) (sym (join-other c d ds groups other)) (split-alone P c ((d ∷ ds) ∷ groups))

-- what holds of each condition of each group holds of each condition
pub groups-all : (P : Condition → Type 0) (cs : List Condition) → (EachOf P (operator_groups cs) ↔ All P cs)
groups-all P [] = (λ h. All-nil P, λ h. All-nil (λ (g : List Condition). All P g))
groups-all P (c ∷ cs) = (
  λ h. let parts = (join-all P c (operator_groups cs)).0 h in All-cons P c cs parts.0 ((groups-all P cs).0 parts.1),
  λ h. (join-all P c (operator_groups cs)).1 (All-head P c cs h, (groups-all P cs).1 (All-tail P c cs h)),
)
